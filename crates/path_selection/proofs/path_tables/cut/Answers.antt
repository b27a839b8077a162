use Rattle.std.proofs.lemmas.Bool.{iff_false}
use Rattle.path_selection.proofs.TableLemmas.{nothing_changes, remove_changes}
use Rattle.path_selection.proofs.path_tables.cut.Goals as goal

pub returns-then-has_at : goal.returns-then-has_at
returns-then-has_at c =
    rw c.remove.ensures.items (remove_changes _ _ _ c.remove.result c.requires (rw c.as_slice-2.ensures.value at (c.has_at.ensures.0 c.if-has_at.true)))

pub returns-else-has_at : goal.returns-else-has_at
returns-else-has_at c =
    nothing_changes _ c.place_of-place.result _ c.requires (rw c.as_slice.ensures.value at c.place_of-place.ensures.bound) (rw c.as_slice.ensures.value at c.place_of-place.ensures.point) (rw c.as_slice-2.ensures.value at (iff_false c.has_at.ensures c.if-has_at.false))
