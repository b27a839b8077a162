use Rattle.std.proofs.Common.{nat_lt, rules}
use Rattle.std.proofs.lemmas.List.{take_rest}
use Rattle.std.proofs.lemmas.List.Sorted.{IsPartitionPoint-from_clause}
use Rattle.route_selection.specs.declared.candidates.Candidate.{Candidate}
use Rattle.route_selection.proofs.RangeLemmas.{below_parts, from_same, drop_ascends}
use Rattle.route_selection.proofs.type_ranges.from_type.Goals as goal

pub returns-clause-same : goal.returns-clause-same
returns-clause-same c =
    let point = IsPartitionPoint-from_clause (λ (x : Candidate). nat_lt x.kind c.args.low) _ _ c.partition_point-place.ensures.partitioned (below_parts c.args.low c.args.usable.now c.requires) (λ a r q k. search rules) in
    λ inside types. rw (take_rest c.args.usable.now c.partition_point-place.result) (from_same c.args.low c.args.usable.now c.partition_point-place.result point.0 inside types)

pub returns-clause-in_order : goal.returns-clause-in_order
returns-clause-in_order c = rw (take_rest c.args.usable.now c.partition_point-place.result) (drop_ascends c.args.usable.now c.partition_point-place.result c.requires)
