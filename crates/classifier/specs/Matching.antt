-- When a rule matches a frame: each part that it asks for holds of a field that the frame has.
use Rattle.std.specs.Prelude.{◌≡◌, ℕ, ◌-◌, ◌*◌, ◌/◌, ◌^◌, ◌≤◌, List, length, Option, Some, None}
use Rattle.wire_base.specs.Numbers.{big_endian}
use Rattle.wire_base.specs.declared.next_hops.NextHop.{NextHop}
use Rattle.wire_base.specs.declared.next_hops.NextHop.TheVariants.{Four, Sixteen}
use Rattle.net_frames.specs.declared.contents.Fields.{Fields}
use Rattle.classifier.specs.declared.rules.Prefix.{Prefix}
use Rattle.classifier.specs.declared.rules.Rule.{Rule}

-- a part that is asked for holds of the field, and so the field is there; one that is not asked for needs no field
abbrev pub HoldsIfAsked : {X Y : Type 0} → (X → Y → Type 0) → Option X → Option Y → Type 0
HoldsIfAsked P None field = Unit {0}
HoldsIfAsked P (Some asked) None = ⊥
HoldsIfAsked P (Some asked) (Some field) = P asked field

-- the number that the first n bits of some bytes spell (RFC 4632, section 3.1; RFC 4291, section 2.3): that of the bytes,
-- without the bits behind
unfoldable pub first_bits : ℕ → List ℕ → ℕ
first_bits n bytes = big_endian bytes / 2 ^ (8 * length bytes - n)

-- two addresses of one family have the same first n bits; those of two families never do
abbrev pub ShareBits : ℕ → NextHop → NextHop → Type 0
ShareBits n (Four xs) (Four ys) = first_bits n xs ≡ first_bits n ys
ShareBits n (Four xs) (Sixteen ys) = ⊥
ShareBits n (Sixteen xs) (Four ys) = ⊥
ShareBits n (Sixteen xs) (Sixteen ys) = first_bits n xs ≡ first_bits n ys

-- an address is in a network
abbrev pub IsIn : Prefix → NextHop → Type 0
IsIn network address = ShareBits network.bits network.address address

-- a port is in a range, of which both ends are part
abbrev pub IsAmong : ℕ × ℕ → ℕ → Type 0
IsAmong range port = (range.0 ≤ port) × (port ≤ range.1)

-- a rule matches a frame with these fields
pub record Matches (r : Rule) (f : Fields) : Type 0 where
  pub vlan : HoldsIfAsked (λ asked vlan. vlan ≡ asked) r.vlan f.vlan
  pub source : HoldsIfAsked IsIn r.from f.source
  pub destination : HoldsIfAsked IsIn r.to f.destination
  pub protocol : HoldsIfAsked (λ asked protocol. protocol ≡ asked) r.protocol f.protocol
  pub port : HoldsIfAsked IsAmong r.ports f.to_port
