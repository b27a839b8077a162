-- no target before the place is among one's own
use Rattle.std.proofs.Common.{ℕ, ◌<◌, List, slice_index_or}
use Rattle.std.specs.List.{Contains}
use Rattle.sfc_routes.proofs.searches.any_among.Given as goal

abbrev pub invariant-loop-target : goal.invariant-loop-target
invariant-loop-target l = (k : ℕ) (d : List ℕ) → k < l.target-index → Contains l.own (slice_index_or l.targets k d) → ⊥
