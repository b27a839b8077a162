-- The bytes that a run of fixed length has, and those of an address.
use Rattle.std.specs.Prelude.{◌≡◌, ℕ, List, length}
use Rattle.wire_base.specs.declared.next_hops.NextHop.{NextHop}
use Rattle.wire_base.specs.declared.next_hops.NextHop.TheVariants.{Four, Sixteen}
use Rattle.wire_base.specs.Numbers.{AreBytes}

-- exactly n bytes
abbrev pub IsOctets : ℕ → List ℕ → Type 0
IsOctets n bytes = (length bytes ≡ n) × AreBytes bytes

-- an address has 4 bytes or 16
abbrev pub IsAddress : NextHop → Type 0
IsAddress (Four octets) = IsOctets 4 octets
IsAddress (Sixteen octets) = IsOctets 16 octets
