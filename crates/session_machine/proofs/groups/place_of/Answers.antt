-- The loop does not end without a place.
use Rattle.std.proofs.Common.{arith}
use Rattle.session_machine.proofs.GroupLemmas.{there_is}
use Rattle.session_machine.proofs.groups.place_of.Goals as goal

pub returns : goal.returns
returns c = absurd (omega (arith, there_is c.args.peer c.args.sessions.now c.loop-i.i c.requires c.loop-i.invariant, c.loop-i-test.false))
