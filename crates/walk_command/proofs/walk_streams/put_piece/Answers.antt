-- The header's step, and then the packets'.
use Rattle.sfc_desk.specs.declared.ports.Port.TheVariants as ports
use Rattle.walk_command.proofs.WalkLemmas.{begins_puts, begins_some, begins_none}
use Rattle.walk_command.proofs.walk_streams.put_piece.Goals as goal

pub returns-in-Ok-Some-clause-puts : goal.returns-in-Ok-Some-clause-puts
returns-in-Ok-Some-clause-puts g c = λ tells input left s.
    c.put_packets.ensures.puts tells input left
    (begins_some c.args.path.now input left _ (g.D.Desk.at c.begin_egress.new.desk ports.Egress).written c.begin_egress.new.feed c.in-Ok-Some.field-0 c.in-Ok-Some.form c.in-Ok-Some.field-0-is (c.in-Ok-Some.ensures.begins tells c.args.path.now input left s))

pub returns-in-Ok-None-clause-puts : goal.returns-in-Ok-None-clause-puts
returns-in-Ok-None-clause-puts g c = λ tells input left s.
    begins_none c.args.path.now input left _ (g.D.Desk.at c.begin_egress.new.desk ports.Egress).written c.begin_egress.new.feed c.in-Ok-None.field-0 c.in-Ok-None.field-0-is (c.in-Ok-None.ensures.begins tells c.args.path.now input left s)

pub returns-in-Err-clause-puts : goal.returns-in-Err-clause-puts
returns-in-Err-clause-puts g c = λ tells input left s.
    begins_puts c.args.path.now input left _ _ c.begin_egress.new.feed c.in-Err.fault (c.in-Err.ensures.begins tells c.args.path.now input left s)
