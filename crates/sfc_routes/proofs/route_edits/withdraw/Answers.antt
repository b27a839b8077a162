-- The route at the place goes; where it has another name, no route has this one.
use Rattle.std.proofs.Common.{zero-le}
use Rattle.sfc_routes.proofs.EditLemmas.{remove_keeps, remove_loses, absent_loses}
use Rattle.sfc_routes.proofs.route_edits.withdraw.Goals as goal

pub returns-then-has_at-clause-kept : goal.returns-then-has_at-clause-kept
returns-then-has_at-clause-kept c =
    rw c.remove.ensures.items (remove_keeps _ _ c.args.peer c.args.nlri.now c.remove.result c.requires (rw c.as_slice-2.ensures.value at c.if-has_at.ensures))

pub returns-then-has_at-clause-gone : goal.returns-then-has_at-clause-gone
returns-then-has_at-clause-gone c =
    rw c.remove.ensures.items (remove_loses _ _ c.args.peer c.args.nlri.now c.remove.result c.requires (rw c.as_slice-2.ensures.value at c.if-has_at.ensures))

pub returns-else-has_at-clause-gone : goal.returns-else-has_at-clause-gone
returns-else-has_at-clause-gone c =
    let bound = rw c.as_slice.ensures.value at c.place_of-place.ensures.bound in
    let point = rw c.as_slice.ensures.value at c.place_of-place.ensures.point in
    absent_loses _ c.place_of-place.result c.args.peer c.args.nlri.now c.requires.in_order (record { within = bound; front = λ j d lt. point.0 j d zero-le lt; back = point.1 }) (rw c.as_slice-2.ensures.value at c.if-has_at.ensures)
