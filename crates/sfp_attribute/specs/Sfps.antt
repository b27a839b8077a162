-- SFP attributes and their one spelling, in this project's profile (after RFC 9015, section 3.2): parts, one behind the
-- other, each a kind in 1 byte, the length of a value in 2 bytes, the value.
use Rattle.std.specs.Prelude.{◌≡◌, ◌≢◌, ℕ, ◌^◌, ◌<◌, ◌≤◌, List, [], ◌∷◌, ◌++◌, length}
use Rattle.std.specs.List.{flat_map, AllByRecursion}
use Rattle.wire_base.specs.Numbers.{two, three}
use Rattle.sfp_attribute.specs.declared.sfps.HopPart.{HopPart}
use Rattle.sfp_attribute.specs.declared.sfps.HopPart.TheVariants as hop_part
use Rattle.sfp_attribute.specs.declared.sfps.Part.{Part}
use Rattle.sfp_attribute.specs.declared.sfps.Part.TheVariants as part
use Rattle.sfp_attribute.specs.declared.sfps.Sfp.{Sfp}

-- a kind, the length of a value, the value
abbrev pub piece_bytes : ℕ → List ℕ → List ℕ
piece_bytes kind value = kind ∷ two (length value) ++ value

-- ---- the parts of a hop

abbrev pub hop_part_kind : HopPart → ℕ
hop_part_kind (hop_part.Sft kind rds) = 3
hop_part_kind (hop_part.Other kind body) = kind

-- kind 3 has a service function type and RDs
abbrev pub hop_part_value : HopPart → List ℕ
hop_part_value (hop_part.Sft kind rds) = two kind ++ flat_map (λ (rd : List ℕ). rd) rds
hop_part_value (hop_part.Other kind body) = body

abbrev pub hop_part_bytes : HopPart → List ℕ
hop_part_bytes p = piece_bytes (hop_part_kind p) (hop_part_value p)

abbrev pub hop_parts_bytes : List HopPart → List ℕ
hop_parts_bytes ps = flat_map hop_part_bytes ps

-- an RD has 8 bytes
abbrev pub RdsFit : List (List ℕ) → Type 0
RdsFit rds = AllByRecursion (λ (rd : List ℕ). length rd ≡ 8) rds

-- a type is at least 32; what is kept unread is of a kind from 6 on
abbrev pub HopPartFits : HopPart → Type 0
HopPartFits (hop_part.Sft kind rds) = (32 ≤ kind) × (kind < 2 ^ 16) × RdsFit rds × (length (hop_part_value (hop_part.Sft kind rds)) < 2 ^ 16)
HopPartFits (hop_part.Other kind body) = (6 ≤ kind) × (kind < 256) × (length body < 2 ^ 16)

abbrev pub HopPartsFit : List HopPart → Type 0
HopPartsFit ps = AllByRecursion HopPartFits ps

-- ---- the parts of an attribute

abbrev pub part_kind : Part → ℕ
part_kind (part.Association kind rd spi) = 1
part_kind (part.Hop si inside) = 2
part_kind (part.Other kind body) = kind

-- kind 1 has a type, an RD and an SPI, kind 2 a service index (SI) and parts of its own
abbrev pub part_value : Part → List ℕ
part_value (part.Association kind rd spi) = kind ∷ rd ++ three spi
part_value (part.Hop si inside) = si ∷ hop_parts_bytes inside
part_value (part.Other kind body) = body

abbrev pub part_bytes : Part → List ℕ
part_bytes p = piece_bytes (part_kind p) (part_value p)

abbrev pub parts_bytes : List Part → List ℕ
parts_bytes ps = flat_map part_bytes ps

abbrev pub PartFits : Part → Type 0
PartFits (part.Association kind rd spi) = (kind < 256) × (length rd ≡ 8) × (spi < 2 ^ 24)
PartFits (part.Hop si inside) = (1 ≤ si) × (si < 256) × HopPartsFit inside × (length (part_value (part.Hop si inside)) < 2 ^ 16)
PartFits (part.Other kind body) = (6 ≤ kind) × (kind < 256) × (length body < 2 ^ 16)

-- the service indexes of the hops, in order
abbrev pub si_of : Part → List ℕ
si_of (part.Association kind rd spi) = []
si_of (part.Hop si inside) = si ∷ []
si_of (part.Other kind body) = []

abbrev pub sis : List Part → List ℕ
sis ps = flat_map si_of ps

-- numbers that fall strictly, all of them below the bound
abbrev pub FallFrom : ℕ → List ℕ → Type 0
FallFrom bound [] = Unit {0}
FallFrom bound (n ∷ ns) = (n < bound) × FallFrom n ns

-- each part has a spelling, and the hops fall strictly
pub record PartsFit (ps : List Part) : Type 0 where
  pub each : AllByRecursion PartFits ps
  pub falls : FallFrom 256 (sis ps)

-- ---- the attribute

abbrev pub sfp_bytes : Sfp → List ℕ
sfp_bytes s = parts_bytes s.parts

-- an attribute that has a spelling, with at least one hop
pub record SfpFits (s : Sfp) : Type 0 where
  pub parts : PartsFit s.parts
  pub some : sis s.parts ≢ []

-- the value is the attribute's, all of it
pub record IsSfp (value : List ℕ) (s : Sfp) : Type 0 where
  pub spelled : value ≡ sfp_bytes s
  pub fits : SfpFits s
