-- The route stands in the place of the one with its name, or joins at the place where no route has it.
use Rattle.std.proofs.Common.{zero-le}
use Rattle.sfc_routes.proofs.EditLemmas.{insert_keeps, insert_puts, set_keeps, set_puts}
use Rattle.sfc_routes.proofs.route_edits.put.Goals as goal

pub returns-then-has_at-clause-kept : goal.returns-then-has_at-clause-kept
returns-then-has_at-clause-kept c =
    set_keeps _ _ c.args.held c.requires.list c.requires.fits (rw (c.as_slice-2.ensures.value, c.peer-2.ensures, c.route-2.ensures) at c.if-has_at.ensures)

pub returns-then-has_at-clause-put : goal.returns-then-has_at-clause-put
returns-then-has_at-clause-put c =
    set_puts _ _ c.args.held c.requires.list.in_order (rw (c.as_slice-2.ensures.value, c.peer-2.ensures, c.route-2.ensures) at c.if-has_at.ensures)

pub returns-in-Ok-clause-kept : goal.returns-in-Ok-clause-kept
returns-in-Ok-clause-kept c =
    let bound = rw c.as_slice.ensures.value at c.place_of-place.ensures.bound in
    let point = rw (c.as_slice.ensures.value, c.peer.ensures, c.route.ensures) at c.place_of-place.ensures.point in
    rw c.in-Ok.ensures.items (insert_keeps _ c.place_of-place.result c.args.held c.requires.list c.requires.fits (record { within = bound; front = λ j d lt. point.0 j d zero-le lt; back = point.1 }) (rw (c.as_slice-2.ensures.value, c.peer-2.ensures, c.route-2.ensures) at c.if-has_at.ensures))

pub returns-in-Ok-clause-put : goal.returns-in-Ok-clause-put
returns-in-Ok-clause-put c =
    let bound = rw c.as_slice.ensures.value at c.place_of-place.ensures.bound in
    let point = rw (c.as_slice.ensures.value, c.peer.ensures, c.route.ensures) at c.place_of-place.ensures.point in
    rw c.in-Ok.ensures.items (insert_puts _ c.place_of-place.result c.args.held c.requires.list.in_order (record { within = bound; front = λ j d lt. point.0 j d zero-le lt; back = point.1 }) (rw (c.as_slice-2.ensures.value, c.peer-2.ensures, c.route-2.ensures) at c.if-has_at.ensures))
