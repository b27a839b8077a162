-- no entry before the place has the values
use Rattle.std.proofs.Common.{ℕ, ◌<◌, ◌≡◌, slice_index_or}
use Rattle.sfc_routes.specs.declared.entries.InstanceEntry.{InstanceEntry}
use Rattle.sfc_routes.proofs.searches.place_of_instance.Given as goal

abbrev pub invariant-loop-i : goal.invariant-loop-i
invariant-loop-i l = (k : ℕ) (d : InstanceEntry) → k < l.i → (slice_index_or l.entries k d).name ≡ l.name → ⊥
