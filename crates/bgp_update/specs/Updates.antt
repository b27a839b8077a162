-- Updates and their one spelling (RFC 4271, section 4.3).
use Rattle.std.specs.Prelude.{◌≡◌, ℕ, ◌^◌, ◌==◌, ◌<◌, ◌≤◌, Bool, true, false, List, ◌++◌, length, count_by, find}
use Rattle.std.specs.List.{AllByRecursion}
use Rattle.std.specs.Option.{option_map_or}
use Rattle.bgp_update.specs.declared.attributes.Attribute.{Attribute}
use Rattle.bgp_update.specs.declared.attributes.Body.{Body}
use Rattle.bgp_update.specs.declared.attributes.Body.TheVariants as bodies
use Rattle.bgp_update.specs.declared.updates.Update.{Update}
use Rattle.wire_base.specs.Numbers.{two}
use Rattle.bgp_update.specs.Attributes.{attributes_bytes, AttributeFits}

-- how many attributes are of the kind
abbrev pub count_of : ℕ → List Attribute → ℕ
count_of kind list = count_by (λ (a : Attribute). a.kind == kind) list

-- each attribute has a spelling, and kinds 14 and 15 come at most once each
pub record AttributesFit (list : List Attribute) : Type 0 where
  pub each : AllByRecursion AttributeFits list
  pub one_reach : count_of 14 list ≤ 1
  pub one_unreach : count_of 15 list ≤ 1

-- the withdrawn routes behind their length, the attributes behind theirs, and the rest
abbrev pub update_bytes : Update → List ℕ
update_bytes u = two (length u.withdrawn) ++ u.withdrawn ++ two (length (attributes_bytes u.attributes)) ++ attributes_bytes u.attributes ++ u.nlri

-- an update that has a spelling
pub record UpdateFits (u : Update) : Type 0 where
  pub withdrawn : length u.withdrawn < 2 ^ 16
  pub attributes : AttributesFit u.attributes
  pub size : length (attributes_bytes u.attributes) < 2 ^ 16

-- the bytes are the update, all of them
pub record IsUpdate (bytes : List ℕ) (u : Update) : Type 0 where
  pub spelled : bytes ≡ update_bytes u
  pub fits : UpdateFits u

abbrev pub is_raw : Body → Bool
is_raw (bodies.Reach r) = false
is_raw (bodies.Unreach u) = false
is_raw (bodies.Communities cs) = false
is_raw (bodies.Raw bytes) = true

-- there is an attribute of kind 16, and the first of them is kept unread
abbrev pub is_broken : Update → Bool
is_broken u = option_map_or (λ (a : Attribute). is_raw a.body) (find (λ (a : Attribute). a.kind == 16) u.attributes) false
