-- Path attributes and their one spelling (RFC 4271, section 4.3; RFC 4760, sections 3 and 4; RFC 4360).
use Rattle.std.specs.Prelude.{◌≡◌, ◌≢◌, ℕ, ◌/◌, ◌%◌, ◌==◌, ◌<◌, ◌≤◌, ◌⊎◌, if◌then◌else◌, List, [], ◌∷◌, ◌++◌, length}
use Rattle.std.specs.List.{flat_map, AllByRecursion}
use Rattle.wire_base.specs.declared.next_hops.NextHop.{NextHop}
use Rattle.wire_base.specs.declared.next_hops.NextHop.TheVariants as hops
use Rattle.bgp_update.specs.declared.attributes.Attribute.{Attribute}
use Rattle.bgp_update.specs.declared.attributes.Body.{Body}
use Rattle.bgp_update.specs.declared.attributes.Body.TheVariants as bodies
use Rattle.bgp_update.specs.declared.attributes.MpReach.{MpReach}
use Rattle.wire_base.specs.Numbers.{two}
use Rattle.bgp_update.specs.Nlris.{list_bytes, ListFits}

-- AFI 31 and SAFI 9, the service function family
abbrev pub family : List ℕ
family = 0 ∷ 31 ∷ 9 ∷ []

abbrev pub HasFamily : List ℕ → Type 0
HasFamily value = (more : List ℕ) × (value ≡ family ++ more)

abbrev pub hop_bytes : NextHop → List ℕ
hop_bytes (hops.Four address) = address
hop_bytes (hops.Sixteen address) = address

abbrev pub HopFits : NextHop → Type 0
HopFits (hops.Four address) = length address ≡ 4
HopFits (hops.Sixteen address) = length address ≡ 16

-- a next hop behind its length, one reserved byte, the routes
abbrev pub reach_bytes : MpReach → List ℕ
reach_bytes r = length (hop_bytes r.next_hop) ∷ hop_bytes r.next_hop ++ r.reserved ∷ list_bytes r.nlri

abbrev pub body_bytes : Body → List ℕ
body_bytes (bodies.Reach r) = family ++ reach_bytes r
body_bytes (bodies.Unreach u) = family ++ list_bytes u.nlri
body_bytes (bodies.Communities cs) = flat_map (λ (c : List ℕ). c) cs
body_bytes (bodies.Raw bytes) = bytes

-- flags 0x80 and 0x40: optional and transitive
abbrev pub Shared : ℕ → Type 0
Shared flags = flags / 64 ≡ 3

-- the length of a value, in 2 bytes where flag 0x10 is set, else in one
abbrev pub size_bytes : ℕ → ℕ → List ℕ
size_bytes flags size = if (flags / 16) % 2 == 1 then two size else size ∷ []

-- the least length for which these bytes have no room
abbrev pub size_limit : ℕ → ℕ
size_limit flags = if (flags / 16) % 2 == 1 then 65536 else 256

abbrev pub attribute_bytes : Attribute → List ℕ
attribute_bytes a = a.flags ∷ a.kind ∷ size_bytes a.flags (length (body_bytes a.body)) ++ body_bytes a.body

abbrev pub attributes_bytes : List Attribute → List ℕ
attributes_bytes list = flat_map attribute_bytes list

-- MP_REACH_NLRI and MP_UNREACH_NLRI
abbrev pub IsReachability : ℕ → Type 0
IsReachability kind = (kind ≡ 14) ⊎ (kind ≡ 15)

-- extended communities: optional and transitive, and pieces of 8 bytes, at least one
pub record HasCommunities (flags : ℕ) (value : List ℕ) : Type 0 where
  pub shared : Shared flags
  pub pieces : length value % 8 ≡ 0
  pub some : 0 < length value

-- a value that is read stands unread in no attribute, and one of kind 14 or 15 has an AFI and a SAFI
pub record RawFits (flags kind : ℕ) (value : List ℕ) : Type 0 where
  pub family_there : IsReachability kind → 3 ≤ length value
  pub other_family : IsReachability kind → ¬ HasFamily value
  pub no_communities : kind ≡ 16 → ¬ HasCommunities flags value

-- each body stands under its kind, with its flags
abbrev pub BodyFits : ℕ → ℕ → Body → Type 0
BodyFits flags kind (bodies.Reach r) = (kind ≡ 14) × HopFits r.next_hop × ListFits r.nlri
BodyFits flags kind (bodies.Unreach u) = (kind ≡ 15) × ListFits u.nlri
BodyFits flags kind (bodies.Communities cs) = (kind ≡ 16) × Shared flags × (cs ≢ []) × AllByRecursion (λ (c : List ℕ). length c ≡ 8) cs
BodyFits flags kind (bodies.Raw value) = RawFits flags kind value

-- an attribute that has a spelling
pub record AttributeFits (a : Attribute) : Type 0 where
  pub flags : a.flags < 256
  pub kind : a.kind < 256
  pub body : BodyFits a.flags a.kind a.body
  pub size : length (body_bytes a.body) < size_limit a.flags
