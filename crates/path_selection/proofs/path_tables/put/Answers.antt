use Rattle.std.proofs.lemmas.Bool.{iff_false}
use Rattle.path_selection.proofs.TableLemmas.{insert_changes, insert_keeps, set_changes, set_keeps}
use Rattle.path_selection.proofs.path_tables.put.Goals as goal

pub returns-then-has_at-clause-ok : goal.returns-then-has_at-clause-ok
returns-then-has_at-clause-ok c =
    set_changes _ _ c.args.path c.requires (rw (c.as_slice-2.ensures.value, c.spi-spi.ensures.value) at (c.has_at.ensures.0 c.if-has_at.true))

pub returns-in_ok-insert-clause-ok : goal.returns-in_ok-insert-clause-ok
returns-in_ok-insert-clause-ok c =
    rw c.in_ok-insert.ensures.items (insert_changes _ _ c.args.path c.requires (rw c.as_slice.ensures.value at c.place_of-place.ensures.bound) (rw (c.as_slice.ensures.value, c.spi-spi.ensures.value) at c.place_of-place.ensures.point) (rw (c.as_slice-2.ensures.value, c.spi-spi.ensures.value) at (iff_false c.has_at.ensures c.if-has_at.false)))

pub returns-then-has_at-clause-kept : goal.returns-then-has_at-clause-kept
returns-then-has_at-clause-kept c =
    set_keeps _ _ c.args.path c.spi-spi.ensures.kept c.requires (rw (c.as_slice-2.ensures.value, c.spi-spi.ensures.value) at (c.has_at.ensures.0 c.if-has_at.true))

pub returns-in_ok-insert-clause-kept : goal.returns-in_ok-insert-clause-kept
returns-in_ok-insert-clause-kept c =
    rw c.in_ok-insert.ensures.items (insert_keeps _ _ c.args.path c.spi-spi.ensures.kept c.requires (rw c.as_slice.ensures.value at c.place_of-place.ensures.bound) (rw (c.as_slice.ensures.value, c.spi-spi.ensures.value) at c.place_of-place.ensures.point) (rw (c.as_slice-2.ensures.value, c.spi-spi.ensures.value) at (iff_false c.has_at.ensures c.if-has_at.false)))
