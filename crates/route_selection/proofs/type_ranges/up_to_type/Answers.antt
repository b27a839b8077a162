use Rattle.std.proofs.Common.{nat_le, rules}
use Rattle.std.proofs.lemmas.List.Sorted.{IsPartitionPoint-from_clause}
use Rattle.route_selection.specs.declared.candidates.Candidate.{Candidate}
use Rattle.route_selection.proofs.RangeLemmas.{up_to_parts, to_same}
use Rattle.route_selection.proofs.type_ranges.up_to_type.Goals as goal

pub returns : goal.returns
returns c =
    let point = IsPartitionPoint-from_clause (λ (x : Candidate). nat_le x.kind c.args.high) _ _ c.partition_point-place.ensures.partitioned (up_to_parts c.args.high c.args.usable.now c.requires) (λ a r q k. search rules) in
    λ inside types. to_same c.args.high c.args.usable.now c.partition_point-place.result point.1 inside types
