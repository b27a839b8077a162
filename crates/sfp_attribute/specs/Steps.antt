-- What the readers of a value answer.
use Rattle.std.specs.Prelude.{◌≡◌, ℕ, ◌^◌, ◌<◌, ◌⊎◌, List, ◌++◌, length, Result, Ok, Err}
use Rattle.std.specs.List.{flat_map}
use Rattle.sfp_attribute.specs.declared.faults.SfpFault.{SfpFault}
use Rattle.sfp_attribute.specs.declared.faults.SfpFault.TheVariants as faults
use Rattle.sfp_attribute.specs.declared.levels.Level.{Level}
use Rattle.sfp_attribute.specs.declared.sfps.HopPart.{HopPart}
use Rattle.sfp_attribute.specs.declared.sfps.Part.{Part}
use Rattle.sfp_attribute.specs.declared.sfps.Sfp.{Sfp}
use Rattle.sfp_attribute.specs.Sfps.{piece_bytes, hop_part_kind, hop_part_value, HopPartFits, hop_parts_bytes, HopPartsFit, RdsFit, part_kind, part_value, PartFits, si_of, FallFrom, IsSfp}
use Rattle.sfp_attribute.specs.Refusals.{IsMpls, IsStray, WrongSize, Splits, LowType, RefusedHopParts, RefusedInside, Refused}

-- there was no memory, or the fault is one of these
abbrev pub Tells : (SfpFault → Type 0) → SfpFault → Type 0
Tells Holds fault = (fault ≡ faults.OutOfMemory) ⊎ Holds fault

-- a part of this kind and with this value may stand at the level
pub record Allows (level : Level) (kind : ℕ) (value : List ℕ) : Type 0 where
  pub no_mpls : ¬ IsMpls kind
  pub in_place : ¬ IsStray level kind
  pub right : ¬ WrongSize level kind (length value)
  pub size : length value < 2 ^ 16

-- such a part is the first
pub record SplitsPart (level : Level) (bytes : List ℕ) (kind : ℕ) (value more : List ℕ) : Type 0 where
  pub parts : bytes ≡ piece_bytes kind value ++ more
  pub allowed : Allows level kind value

-- the first part is whole, with the length of its kind
pub record SplitsSized (level : Level) (bytes : List ℕ) (kind : ℕ) (value more : List ℕ) : Type 0 where
  pub whole : Splits bytes kind value more
  pub right : ¬ WrongSize level kind (length value)

-- ---- the parts of a hop

-- the RDs fill the bytes
pub record ReadsRds (bytes : List ℕ) (rds : List (List ℕ)) : Type 0 where
  pub spelled : bytes ≡ flat_map (λ (rd : List ℕ). rd) rds
  pub fit : RdsFit rds

-- the part has this kind and value
pub record ReadsHopPart (kind : ℕ) (value : List ℕ) (p : HopPart) : Type 0 where
  pub kind_is : hop_part_kind p ≡ kind
  pub value_is : hop_part_value p ≡ value
  pub fits : HopPartFits p

abbrev pub HopPartGives : ℕ → List ℕ → Result HopPart SfpFault → Type 0
HopPartGives kind value (Ok p) = ReadsHopPart kind value p
HopPartGives kind value (Err fault) = Tells (λ told. (kind ≡ 3) × LowType value told) fault

-- the parts fill the bytes
pub record ReadsHopParts (bytes : List ℕ) (ps : List HopPart) : Type 0 where
  pub spelled : bytes ≡ hop_parts_bytes ps
  pub fit : HopPartsFit ps

abbrev pub HopPartsGive : ℕ → List ℕ → Result (List HopPart) SfpFault → Type 0
HopPartsGive start bytes (Ok ps) = ReadsHopParts bytes ps
HopPartsGive start bytes (Err fault) = Tells (λ told. RefusedHopParts start bytes told) fault

-- ---- the parts of an attribute

-- the part has this kind and value, and as a hop is below the bound
pub record ReadsPart (bound kind : ℕ) (value : List ℕ) (p : Part) : Type 0 where
  pub kind_is : part_kind p ≡ kind
  pub value_is : part_value p ≡ value
  pub fits : PartFits p
  pub falls : FallFrom bound (si_of p)

abbrev pub PartGives : ℕ → ℕ → ℕ → List ℕ → Result Part SfpFault → Type 0
PartGives start bound kind value (Ok p) = ReadsPart bound kind value p
PartGives start bound kind value (Err fault) = Tells (λ told. (kind ≡ 2) × RefusedInside start bound value told) fault

-- ---- the attribute

abbrev pub SfpGives : List ℕ → Result Sfp SfpFault → Type 0
SfpGives value (Ok s) = IsSfp value s
SfpGives value (Err fault) = Tells (λ told. Refused value told) fault

-- the attribute is answered, unless there was no memory
abbrev pub GivesThe : Sfp → Result Sfp SfpFault → Type 0
GivesThe s (Ok given) = given ≡ s
GivesThe s (Err fault) = fault ≡ faults.OutOfMemory

-- the fault is answered, unless there was no memory
abbrev pub TellsThe : SfpFault → Result Sfp SfpFault → Type 0
TellsThe fault (Ok given) = ⊥
TellsThe fault (Err told) = Tells (λ it. it ≡ fault) told

-- the answer that the value asks for, unless there was no memory
pub record Exact (value : List ℕ) (result : Result Sfp SfpFault) : Type 0 where
  pub sfp : (s : Sfp) → IsSfp value s → GivesThe s result
  pub refusal : (fault : SfpFault) → Refused value fault → TellsThe fault result
