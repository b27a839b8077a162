use Rattle.std.proofs.Common.{nat_lt, rules}
use Rattle.std.proofs.lemmas.Bool.{ltb-true, ltb-false}
use Rattle.std.proofs.lemmas.List.Sorted.{IsPartitionPoint-from_clause}
use Rattle.path_selection.specs.Paths.{ServicePath}
use Rattle.path_selection.proofs.TableLemmas.{rises_parts}
use Rattle.path_selection.proofs.searches.place_of.Goals as goal

pub returns-clause-point : goal.returns-clause-point
returns-clause-point c =
    let point = IsPartitionPoint-from_clause (λ (path : ServicePath). nat_lt path.spi c.args.spi) _ _ c.partition_point.ensures.partitioned (rises_parts 0 c.args.spi c.args.paths.now c.requires) (λ a r q k. search rules) in
    (λ k d z h. ltb-true _ _ (point.0 k d z h), λ k d le h. ltb-false _ _ (point.1 k d le h))
