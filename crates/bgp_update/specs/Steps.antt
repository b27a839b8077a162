-- What the readers of a content answer.
use Rattle.std.specs.Prelude.{◌≡◌, ℕ, List, length, Result, Ok, Err}
use Rattle.std.specs.List.{flat_map, AllByRecursion}
use Rattle.bgp_update.specs.declared.routes.Nlri.{Nlri}
use Rattle.bgp_update.specs.declared.attributes.Attribute.{Attribute}
use Rattle.bgp_update.specs.declared.attributes.Body.{Body}
use Rattle.bgp_update.specs.declared.updates.Update.{Update}
use Rattle.bgp_update.specs.declared.faults.UpdateFault.{UpdateFault}
use Rattle.bgp_update.specs.Faults.{Tells}
use Rattle.bgp_update.specs.Nlris.{kind_of, inside, NlriFits, list_bytes, ListFits}
use Rattle.bgp_update.specs.Attributes.{body_bytes, BodyFits, attributes_bytes}
use Rattle.bgp_update.specs.Updates.{AttributesFit, IsUpdate}
use Rattle.bgp_update.specs.Refusals.{RefusedList, header_size, RefusedValue, RefusedAttributes, Refused}

-- the route has this type and body
pub record ReadsNlri (kind : ℕ) (body : List ℕ) (r : Nlri) : Type 0 where
  pub kind_is : kind_of r ≡ kind
  pub body_is : inside r ≡ body
  pub fits : NlriFits r

-- the routes fill the bytes
pub record ReadsList (bytes : List ℕ) (rs : List Nlri) : Type 0 where
  pub spelled : bytes ≡ list_bytes rs
  pub fits : ListFits rs

abbrev pub ListGives : ℕ → List ℕ → Result (List Nlri) UpdateFault → Type 0
ListGives start bytes (Ok rs) = ReadsList bytes rs
ListGives start bytes (Err fault) = Tells (λ place. RefusedList start bytes place) fault

-- the pieces of 8 bytes fill the value
pub record ReadsPieces (value : List ℕ) (pieces : List (List ℕ)) : Type 0 where
  pub spelled : value ≡ flat_map (λ (c : List ℕ). c) pieces
  pub fit : AllByRecursion (λ (c : List ℕ). length c ≡ 8) pieces

-- the value is that of the body, which stands under its kind
pub record ReadsBody (flags kind : ℕ) (value : List ℕ) (b : Body) : Type 0 where
  pub spelled : value ≡ body_bytes b
  pub fits : BodyFits flags kind b

abbrev pub BodyGives : ℕ → ℕ → ℕ → List ℕ → Result Body UpdateFault → Type 0
BodyGives start flags kind value (Ok b) = ReadsBody flags kind value b
BodyGives start flags kind value (Err fault) = Tells (λ place. RefusedValue start (header_size flags) kind value place) fault

-- the attributes fill the bytes
pub record ReadsAttributes (bytes : List ℕ) (attributes : List Attribute) : Type 0 where
  pub spelled : bytes ≡ attributes_bytes attributes
  pub fits : AttributesFit attributes

abbrev pub AttributesGive : ℕ → List ℕ → Result (List Attribute) UpdateFault → Type 0
AttributesGive start bytes (Ok attributes) = ReadsAttributes bytes attributes
AttributesGive start bytes (Err fault) = Tells (λ place. RefusedAttributes start bytes place) fault

abbrev pub UpdateGives : List ℕ → Result Update UpdateFault → Type 0
UpdateGives bytes (Ok u) = IsUpdate bytes u
UpdateGives bytes (Err fault) = Tells (λ place. Refused bytes place) fault

-- the update is answered, unless there was no memory
abbrev pub GivesThe : Update → Result Update UpdateFault → Type 0
GivesThe u (Ok given) = given ≡ u
GivesThe u (Err fault) = Tells (λ place. ⊥) fault

-- the refusal at the place is answered, unless there was no memory
abbrev pub TellsThe : ℕ → Result Update UpdateFault → Type 0
TellsThe place (Ok given) = ⊥
TellsThe place (Err fault) = Tells (λ told. told ≡ place) fault

-- the answer that the bytes ask for, unless there was no memory
pub record Exact (bytes : List ℕ) (result : Result Update UpdateFault) : Type 0 where
  pub update : (u : Update) → IsUpdate bytes u → GivesThe u result
  pub refusal : (place : ℕ) → Refused bytes place → TellsThe place result
