-- What `finish` tells is how the reading ends.
use Rattle.std.proofs.Common.{inl}
use Rattle.paths_command.proofs.StreamLemmas.{finish_bad}
use Rattle.paths_command.proofs.control_streams.end_of.Goals as goal

pub returns-in-Err-Bad : goal.returns-in-Err-Bad
returns-in-Err-Bad c = λ taken given stands held.
    finish_bad c.in-Err-Bad.field-0 c.in-Err-Bad.place c.in-Err-Bad.reason taken c.args.feed.now.peers given c.in-Err-Bad.field-0-is (c.in-Err-Bad.ensures.history taken given stands (inl held))
