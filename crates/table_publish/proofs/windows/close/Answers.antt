use Rattle.std.proofs.Common.{subst, All, List}
use Rattle.table_publish.specs.Views.{SeatView}
use Rattle.table_publish.specs.Settling.{HasSeen}
use Rattle.table_publish.proofs.windows.close.Goals as goal

-- the seats have seen beginnings of the list that the mark ends
pub returns-clause-seats : goal.returns-clause-seats
returns-clause-seats g c k d lt =
    let all = subst (λ (l : List SeatView). All (HasSeen c.in_ok-sealed.sealed.log) l) c.as_slice.ensures c.settle_each.ensures in
    rw (← c.publisher.view_is) (all k d lt c.publisher.inside.head.seen.log c.in_ok-sealed.ensures.1)
