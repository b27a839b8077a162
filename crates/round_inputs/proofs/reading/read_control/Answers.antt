-- What was read joins what was taken.
use Rattle.std.proofs.Common.{arith}
use Rattle.round_inputs.proofs.ReadLemmas.{segments_more, segments_same}
use Rattle.round_inputs.proofs.reading.read_control.Goals as goal

pub returns-clause-follows : goal.returns-clause-follows
returns-clause-follows g c = λ input given f.
    segments_more g.D.Desk.tells c.make_room.new.self c.filled.new.self input _ _ c.read_at.new.into given c.in-Ok-read_at.count c.in-Ok-read_at.ensures.count (grind arith) (λ told. c.in-Ok-read_at.ensures.bytes told)
    (segments_same g.D.Desk.tells c.args.feed.now c.make_room.new.self input _ given f (λ taken s. c.make_room.ensures.history taken given s))
    (λ taken s. c.filled.ensures.history taken given s)
