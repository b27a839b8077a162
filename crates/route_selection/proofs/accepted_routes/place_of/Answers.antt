use Rattle.std.proofs.Common.{nat_cmp, is_lt, rules}
use Rattle.std.specs.Cmp.Lexicographic.{slice_cmp}
use Rattle.std.proofs.lemmas.List.Sorted.{IsPartitionPoint-from_clause}
use Rattle.route_selection.specs.Accepted.{PathRoute, path_name, path_peer}
use Rattle.route_selection.proofs.LowestLemmas.{in_parts}
use Rattle.route_selection.proofs.accepted_routes.place_of.Goals as goal

pub returns-clause-point : goal.returns-clause-point
returns-clause-point c =
    IsPartitionPoint-from_clause (λ (x : PathRoute). is_lt (slice_cmp nat_cmp (path_name x) (path_name c.args.one.now))) _ _ c.partition_point.ensures.partitioned (in_parts path_name path_peer (path_name c.args.one.now) c.args.accepted.now c.requires) (λ a r q k. search rules)
