use Rattle.std.proofs.Common.{nat_cmp, is_lt, rules}
use Rattle.std.specs.Cmp.Lexicographic.{slice_cmp}
use Rattle.std.proofs.lemmas.List.Sorted.{IsPartitionPoint-from_clause}
use Rattle.route_selection.specs.declared.candidates.Candidate.{Candidate}
use Rattle.route_selection.specs.Usable.{name_of, peer_of}
use Rattle.route_selection.proofs.LowestLemmas.{in_parts}
use Rattle.route_selection.proofs.usable_routes.place_of.Goals as goal

pub returns-clause-point : goal.returns-clause-point
returns-clause-point c =
    IsPartitionPoint-from_clause (λ (x : Candidate). is_lt (slice_cmp nat_cmp (name_of x) (name_of c.args.one.now))) _ _ c.partition_point.ensures.partitioned (in_parts name_of peer_of (name_of c.args.one.now) c.args.usable.now c.requires) (λ a r q k. search rules)
