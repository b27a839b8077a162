-- The text that was read spells a setup, or is refused.
use Rattle.setup_inputs.specs.Steps.{text_of}
use Rattle.setup_inputs.proofs.ReadLemmas.{spelled_of, stops_of}
use Rattle.setup_inputs.proofs.setup_reads.bound_setup.Goals as goal

pub returns-clause-setup : goal.returns-clause-setup
returns-clause-setup g c = λ told.
    spelled_of (text_of (g.D.Desk.at c.args.desk.now)) c.in-Ok.text.items c.setup_of.result (c.in-Ok.ensures.all told) c.in-Ok.ensures.within (rw c.as_slice.ensures.value at c.setup_of.ensures)

pub returns-clause-stops : goal.returns-clause-stops
returns-clause-stops g c =
    stops_of g.D.Desk.tells (g.D.Desk.at c.args.desk.now) (g.D.Desk.at c.setup_text.new.desk) c.in-Ok.text.items c.setup_of.result c.in-Ok.ensures.all c.in-Ok.ensures.within c.in-Ok.ensures.quiet (rw c.as_slice.ensures.value at c.setup_of.ensures)
