-- What `finish` tells is how the reading of the whole input ends.
use Rattle.std.proofs.Common.{◌++◌, None, Some, inl}
use Rattle.sfc_desk.specs.declared.ports.Port.TheVariants as ports
use Rattle.pcap_io.specs.Refusals.{told}
use Rattle.walk_command.proofs.WalkLemmas.{known_end, finish_bad}
use Rattle.walk_command.proofs.walk_streams.end_walk.Goals as goal

pub returns-in-Ok-clause-ends : goal.returns-in-Ok-clause-ends
returns-in-Ok-clause-ends g c = λ tells path input left none short s held.
    c.end_whole.ensures.ends tells path input left none short
    (known_end path input left ((g.D.Desk.at c.args.desk.now ports.Egress).written ++ c.args.buffer.now.items) c.args.feed.now None s none
    (c.in-Ok.ensures.history s.follows.taken s.given s.follows.stands (inl held)))

pub returns-in-Err-Bad-clause-ends : goal.returns-in-Err-Bad-clause-ends
returns-in-Err-Bad-clause-ends g c = λ tells path input left none short s held.
    c.end_refused.ensures.ends tells path input left (λ _. short)
    (known_end path input left ((g.D.Desk.at c.args.desk.now ports.Egress).written ++ c.args.buffer.now.items) c.args.feed.now (Some (told c.in-Err-Bad.place c.in-Err-Bad.reason)) s none
    (finish_bad c.in-Err-Bad.field-0 c.in-Err-Bad.place c.in-Err-Bad.reason s.follows.taken c.args.feed.now.form s.given c.in-Err-Bad.field-0-is
    (c.in-Err-Bad.ensures.history s.follows.taken s.given s.follows.stands (inl held))))
