-- The refusals of an SFP attribute, in their order (this project's own, after RFC 9015, section 3.2). They are tried for one
-- part after the other, and for the parts of a hop at their place. Places are counted from the value's first byte.
use Rattle.std.specs.Prelude.{◌≡◌, ◌≢◌, ℕ, ◌+◌, ◌*◌, ◌%◌, ◌^◌, ◌<◌, ◌≤◌, ◌⊎◌, List, [], ◌∷◌, ◌++◌, length, slice_index}
use Rattle.wire_base.specs.Numbers.{two}
use Rattle.sfp_attribute.specs.declared.faults.SfpFault.{SfpFault}
use Rattle.sfp_attribute.specs.declared.faults.SfpFault.TheVariants as faults
use Rattle.sfp_attribute.specs.declared.levels.Level.{Level}
use Rattle.sfp_attribute.specs.declared.levels.Level.TheVariants as levels
use Rattle.sfp_attribute.specs.declared.sfps.HopPart.{HopPart}
use Rattle.sfp_attribute.specs.declared.sfps.Part.{Part}
use Rattle.sfp_attribute.specs.Sfps.{piece_bytes, hop_parts_bytes, HopPartsFit, parts_bytes, sis, PartsFit}

-- a row holds and is what is told, or it does not, and a later one is told
abbrev pub Row : Type 0 → Type 0 → Type 0 → Type 0
Row Holds Told Later = (Holds × Told) ⊎ ((¬ Holds) × Later)

-- ---- what stands before the value of a part

-- the length that a part gives of its value
abbrev pub size_in : List ℕ → ℕ
size_in bytes = 256 * slice_index bytes 1 + slice_index bytes 2

abbrev pub IsMpls : ℕ → Type 0
IsMpls kind = (kind ≡ 4) ⊎ (kind ≡ 5)

-- kind 0 stands nowhere, an SFT only in a hop, an association and a hop in none
abbrev pub IsStray : Level → ℕ → Type 0
IsStray levels.Top kind = (kind ≡ 0) ⊎ (kind ≡ 3)
IsStray levels.InHop kind = (kind ≡ 0) ⊎ ((kind ≡ 1) ⊎ (kind ≡ 2))

-- an association has 12 bytes, a hop at least its SI, an SFT a type of 2 bytes and RDs of 8
abbrev pub WrongSize : Level → ℕ → ℕ → Type 0
WrongSize levels.Top kind size = ((kind ≡ 1) × (size ≢ 12)) ⊎ ((kind ≡ 2) × (size < 1))
WrongSize levels.InHop kind size = (kind ≡ 3) × (size % 8 ≢ 2)

-- the value runs past what holds the part
abbrev pub RunsPast : List ℕ → Type 0
RunsPast bytes = length bytes < 3 + size_in bytes

-- the value runs past, or has not a length of its kind
abbrev pub BadLength : Level → List ℕ → Type 0
BadLength level bytes = RunsPast bytes ⊎ WrongSize level (slice_index bytes 0) (size_in bytes)

-- a part that stands at `start` is refused by what stands before its value
abbrev pub RefusedHead : Level → ℕ → List ℕ → SfpFault → Type 0
RefusedHead level start bytes fault =
    Row (length bytes < 3) (fault ≡ faults.Short start)
    (Row (IsMpls (slice_index bytes 0)) (fault ≡ faults.Mpls (slice_index bytes 0))
    (Row (IsStray level (slice_index bytes 0)) (fault ≡ faults.Kind (slice_index bytes 0))
    (BadLength level bytes × (fault ≡ faults.Length start))))

-- the bytes are a part's kind, the length of a value, the value, and what follows
pub record Splits (bytes : List ℕ) (kind : ℕ) (value more : List ℕ) : Type 0 where
  pub parts : bytes ≡ piece_bytes kind value ++ more
  pub size : length value < 2 ^ 16

-- ---- a part of a hop

-- the value of an SFT whose type is below 32
pub record LowType (value : List ℕ) (fault : SfpFault) : Type 0 where
  pub kind : ℕ
  pub rds : List ℕ
  pub spelled : value ≡ two kind ++ rds
  pub whole : length rds % 8 ≡ 0
  pub low : kind < 32
  pub told : fault ≡ faults.SfType kind

pub record RefusedType (bytes : List ℕ) (fault : SfpFault) : Type 0 where
  pub value : List ℕ
  pub more : List ℕ
  pub whole : Splits bytes 3 value more
  pub row : LowType value fault

abbrev pub RefusedHopPart : ℕ → List ℕ → SfpFault → Type 0
RefusedHopPart start bytes fault = RefusedHead levels.InHop start bytes fault ⊎ RefusedType bytes fault

-- behind good parts of a hop, the first of which stands at `start`, one is refused
pub record RefusedHopParts (start : ℕ) (bytes : List ℕ) (fault : SfpFault) : Type 0 where
  pub good : List HopPart
  pub fit : HopPartsFit good
  pub bad : List ℕ
  pub split : bytes ≡ hop_parts_bytes good ++ bad
  pub some : 0 < length bad
  pub first : RefusedHopPart (start + length (hop_parts_bytes good)) bad fault

-- ---- a part of the attribute

-- the SI is 0, or not below the bound
abbrev pub RisesTo : ℕ → ℕ → Type 0
RisesTo bound si = (si ≡ 0) ⊎ (bound ≤ si)

-- the value of a hop that stands at `start`: its SI, or one of its parts, is refused
pub record RefusedInside (start bound : ℕ) (value : List ℕ) (fault : SfpFault) : Type 0 where
  pub si : ℕ
  pub inside : List ℕ
  pub spelled : value ≡ si ∷ inside
  pub row : Row (RisesTo bound si) (fault ≡ faults.Order si) (RefusedHopParts (start + 4) inside fault)

pub record RefusedHop (start bound : ℕ) (bytes : List ℕ) (fault : SfpFault) : Type 0 where
  pub value : List ℕ
  pub more : List ℕ
  pub whole : Splits bytes 2 value more
  pub row : RefusedInside start bound value fault

abbrev pub RefusedPart : ℕ → ℕ → List ℕ → SfpFault → Type 0
RefusedPart start bound bytes fault = RefusedHead levels.Top start bytes fault ⊎ RefusedHop start bound bytes fault

-- the last of the numbers, or the bound where there is none
abbrev pub last_of : ℕ → List ℕ → ℕ
last_of bound [] = bound
last_of bound (n ∷ ns) = last_of n ns

-- behind good parts one is refused; a hop's SI is held against that of the hop before it, and the first's against 256
pub record RefusedParts (bytes : List ℕ) (fault : SfpFault) : Type 0 where
  pub good : List Part
  pub fit : PartsFit good
  pub bad : List ℕ
  pub split : bytes ≡ parts_bytes good ++ bad
  pub some : 0 < length bad
  pub first : RefusedPart (length (parts_bytes good)) (last_of 256 (sis good)) bad fault

-- ---- the attribute

-- all parts are good, and none is a hop
pub record HasNoHop (value : List ℕ) (fault : SfpFault) : Type 0 where
  pub good : List Part
  pub fit : PartsFit good
  pub spelled : value ≡ parts_bytes good
  pub none : sis good ≡ []
  pub told : fault ≡ faults.NoHop

-- the value of an SFP attribute is refused
abbrev pub Refused : List ℕ → SfpFault → Type 0
Refused value fault = RefusedParts value fault ⊎ HasNoHop value fault
