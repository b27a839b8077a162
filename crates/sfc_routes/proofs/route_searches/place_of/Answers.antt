use Rattle.std.proofs.Common.{nat_cmp, is_lt, rules}
use Rattle.std.specs.Cmp.Lexicographic.{slice_cmp}
use Rattle.std.proofs.lemmas.List.Sorted.{IsPartitionPoint-from_clause}
use Rattle.sfc_routes.specs.PeerRoutes.{PeerRoute}
use Rattle.sfc_routes.specs.RouteOrder.{key, key_of}
use Rattle.sfc_routes.proofs.OrderLemmas.{in_parts}
use Rattle.sfc_routes.proofs.route_searches.place_of.Goals as goal

pub returns-clause-point : goal.returns-clause-point
returns-clause-point c =
    IsPartitionPoint-from_clause (λ (e : PeerRoute). is_lt (slice_cmp nat_cmp (key_of e) (key c.args.peer c.args.nlri.now))) _ _ c.partition_point.ensures.partitioned (in_parts (key c.args.peer c.args.nlri.now) c.args.entries.now c.requires) (λ a r q k. search rules)
