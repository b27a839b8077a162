-- What was read joins what was taken.
use Rattle.std.proofs.Common.{arith}
use Rattle.walk_command.proofs.WalkLemmas.{follows_more, follows_same}
use Rattle.walk_command.proofs.walk_streams.read_piece.Goals as goal

pub returns-clause-follows : goal.returns-clause-follows
returns-clause-follows g c = λ tells input given f.
    follows_more c.make_room.new.self c.filled.new.self input _ _ c.read.new.into given c.in_ok-count.count c.in_ok-count.ensures.count (grind arith) (c.in_ok-count.ensures.bytes tells)
    (follows_same c.args.feed.now c.make_room.new.self input _ given f (λ taken s. c.make_room.ensures.history taken given s))
    (λ taken s. c.filled.ensures.history taken given s)
