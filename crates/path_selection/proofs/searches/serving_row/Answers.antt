use Rattle.std.proofs.Common.{◌<◌, length, nat_lt, rules, arith}
use Rattle.std.proofs.lemmas.Bool.{ltb-true, ltb-false}
use Rattle.std.proofs.lemmas.List.Sorted.{IsPartitionPoint-from_clause}
use Rattle.path_selection.specs.declared.hops.HopRow.{HopRow}
use Rattle.path_selection.proofs.RowLemmas.{falls_parts, first_serves}
use Rattle.path_selection.proofs.searches.serving_row.Goals as goal

pub returns-then-place-rows : goal.returns-then-place-rows
returns-then-place-rows c =
    let point = IsPartitionPoint-from_clause (λ (row : HopRow). nat_lt c.args.si row.si) _ _ c.partition_point-place.ensures.partitioned (falls_parts 256 c.args.si c.args.rows.now c.requires) (λ a r q k. search rules) in
    λ k d h. ltb-true _ _ (point.0 k d (omega arith) (omega (arith, c.if-place-rows.true)))

pub returns : goal.returns
returns c =
    let point = IsPartitionPoint-from_clause (λ (row : HopRow). nat_lt c.args.si row.si) _ _ c.partition_point-place.ensures.partitioned (falls_parts 256 c.args.si c.args.rows.now c.requires) (λ a r q k. search rules) in
    let inside : c.partition_point-place.result < length c.args.rows.now = grind (arith, c.partition_point-place.ensures.bound, c.if-place-rows.false) in
    first_serves 256 c.args.si c.args.rows.now c.partition_point-place.result _ c.requires inside (λ k d h. ltb-true _ _ (point.0 k d (omega arith) h)) (ltb-false _ _ (point.1 _ _ (omega arith) inside))
