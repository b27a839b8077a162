-- What was read joins what was taken.
use Rattle.std.proofs.Common.{take}
use Rattle.frame_streams.proofs.TurningLemmas.{read_on}
use Rattle.frame_streams.proofs.converting.read_piece.Goals as goal

pub returns-clause-goes_on : goal.returns-clause-goes_on
returns-clause-goes_on g c = λ words whole written waits s.
    read_on g.C.Converter.writes words (g.C.Converter.said c.args.converter.now) (g.C.Converter.said c.push.new.self) (g.C.Converter.turned c.args.converter.now) (g.C.Converter.turned c.push.new.self) (g.C.Converter.count c.args.converter.now) (g.C.Converter.count c.push.new.self) g.D.Desk.tells whole
    (g.D.Desk.at c.args.desk.now c.args.input).left (g.D.Desk.at c.read_into.new.desk c.args.input).left written waits (take c.in-Ok.count c.read_into.new.into) c.in-Ok-push.ensures.said c.in-Ok-push.ensures.count (λ told. c.in-Ok.ensures.bytes told)
    (λ taken out t. c.in-Ok-push.ensures.history taken out t) s
