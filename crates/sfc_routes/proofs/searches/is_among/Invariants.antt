-- no entry before the place has the values
use Rattle.std.proofs.Common.{ℕ, ◌<◌, ◌≡◌, slice_index_or}
use Rattle.std.proofs.Common.{List}
use Rattle.sfc_routes.proofs.searches.is_among.Given as goal

abbrev pub invariant-loop-own : goal.invariant-loop-own
invariant-loop-own l = (k : ℕ) (d : List ℕ) → k < l.own-index → slice_index_or l.targets k d ≡ l.target → ⊥
