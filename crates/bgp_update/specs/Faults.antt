-- Every fault of an update is an UPDATE Message Error, Malformed Attribute List (RFC 4271, section 6.3), at a place.
use Rattle.std.specs.Prelude.{◌≡◌, ℕ}
use Rattle.bgp_update.specs.declared.faults.UpdateFault.{UpdateFault}
use Rattle.bgp_update.specs.declared.faults.UpdateFault.TheVariants as faults

-- the fault has code 3, subcode 1 and a place where this holds, unless there was no memory
abbrev pub Tells : (ℕ → Type 0) → UpdateFault → Type 0
Tells Holds (faults.Session code subcode place) = (code ≡ 3) × (subcode ≡ 1) × Holds place
Tells Holds faults.OutOfMemory = Unit {0}
