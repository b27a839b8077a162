-- What a check of a content finds, which keeps nothing of what it reads.
use Rattle.std.specs.Prelude.{◌≡◌, ℕ, ◌<◌, List, MatchBool}
use Rattle.bgp_update.specs.declared.routes.Nlri.{Nlri}
use Rattle.bgp_update.specs.declared.attributes.Attribute.{Attribute}
use Rattle.bgp_update.specs.declared.attributes.Body.{Body}
use Rattle.bgp_update.specs.declared.updates.Update.{Update}
use Rattle.bgp_update.specs.declared.checking.Seen.{Seen}
use Rattle.bgp_update.specs.Attributes.{attributes_bytes}
use Rattle.bgp_update.specs.Updates.{count_of, IsUpdate}
use Rattle.bgp_update.specs.Steps.{ReadsList, ReadsBody, ReadsAttributes}

-- some routes fill the bytes
pub record HasList (bytes : List ℕ) : Type 0 where
  pub routes : List Nlri
  pub reads : ReadsList bytes routes

-- the value is that of some body, which stands under its kind
pub record HasBody (flags kind : ℕ) (value : List ℕ) : Type 0 where
  pub body : Body
  pub reads : ReadsBody flags kind value body

-- some attributes fill the bytes
pub record HasAttributes (bytes : List ℕ) : Type 0 where
  pub attributes : List Attribute
  pub reads : ReadsAttributes bytes attributes

-- the content is some update, whose attributes fill these of its bytes
pub record HasUpdate (content bytes : List ℕ) : Type 0 where
  pub update : Update
  pub is_update : IsUpdate content update
  pub attributes : bytes ≡ attributes_bytes update.attributes

-- which of kinds 14 and 15 are among the attributes
pub record Sees (seen : Seen) (before : List Attribute) : Type 0 where
  pub reach : MatchBool seen.reach (0 < count_of 14 before) (¬ 0 < count_of 14 before)
  pub unreach : MatchBool seen.unreach (0 < count_of 15 before) (¬ 0 < count_of 15 before)
