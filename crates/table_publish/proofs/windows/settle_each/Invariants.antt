-- The seats so far have seen a beginning of the list.
use Rattle.std.proofs.Common.{All, take}
use Rattle.table_publish.specs.Settling.{HasSeen}
use Rattle.table_publish.proofs.windows.settle_each.Given as goal

abbrev pub invariant-loop-seat : goal.invariant-loop-seat
invariant-loop-seat l = All (HasSeen l.fn.sealed.log) (take l.seat-index l.seats)
