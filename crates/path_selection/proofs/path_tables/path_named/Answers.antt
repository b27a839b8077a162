use Rattle.std.proofs.lemmas.Bool.{iff_false}
use Rattle.path_selection.proofs.TableLemmas.{around_absent}
use Rattle.path_selection.proofs.path_tables.path_named.Goals as goal

pub returns-else-has_at : goal.returns-else-has_at
returns-else-has_at c =
    let point = c.place_of-place.ensures.point in
    (around_absent 0 c.args.spi _ _ c.requires c.place_of-place.ensures.bound point.0 point.1 (iff_false c.has_at.ensures c.if-has_at.false)).2
