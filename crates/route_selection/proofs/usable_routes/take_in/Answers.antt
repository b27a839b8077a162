use Rattle.std.proofs.Common.{zero-le}
use Rattle.std.proofs.lemmas.Bool.{iff_false}
use Rattle.route_selection.specs.declared.candidates.Candidate.{Candidate}
use Rattle.route_selection.specs.Usable.{name_of, peer_of}
use Rattle.route_selection.proofs.LowestLemmas.{insert_joins}
use Rattle.route_selection.proofs.SeenLemmas.{has_not}
use Rattle.route_selection.proofs.usable_routes.take_in.Goals as goal

pub returns-in_ok-insert : goal.returns-in_ok-insert
returns-in_ok-insert c =
    let place = c.place_of-place.result in
    let bound = rw c.as_slice.ensures.value at c.place_of-place.ensures.bound in
    let point = rw c.as_slice.ensures.value at c.place_of-place.ensures.point in
    let none = rw c.as_slice-2.ensures.value at (iff_false c.has_at.ensures c.if-has_at.false) in
    rw c.in_ok-insert.ensures.items (insert_joins name_of peer_of _ place c.args.one c.requires (λ j d lt. point.0 j d zero-le lt) point.1 (has_not (λ (x : Candidate). x.kind) (λ (x : Candidate). x.rd) peer_of _ place c.args.one none) bound)
