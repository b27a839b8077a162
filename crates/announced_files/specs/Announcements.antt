-- The UPDATEs that announce and withdraw a route of a routes text (RFC 4271, section 5; RFC 4760, section 3; RFC 4360; after RFC 9015,
-- section 3.2). Which attributes stand there, and in which order, is this project's own.
use Rattle.std.specs.Prelude.{ℕ, ◌+◌, ◌==◌, nat_lt, Bool, true, false, if◌then◌else◌, Option, Some, None, List, [], ◌∷◌, ◌++◌, length}
use Rattle.wire_base.specs.Numbers.{four}
use Rattle.bgp_messages.specs.declared.messages.Message.{Message}
use Rattle.bgp_messages.specs.declared.messages.Message.TheVariants as messages
use Rattle.bgp_update.specs.declared.attributes.Attribute.{Attribute}
use Rattle.bgp_update.specs.declared.attributes.Body.{Body}
use Rattle.bgp_update.specs.declared.attributes.Body.TheVariants as bodies
use Rattle.bgp_update.specs.declared.updates.Update.{Update}
use Rattle.bgp_update.specs.Attributes.{body_bytes}
use Rattle.bgp_update.specs.Updates.{update_bytes}
use Rattle.sfp_attribute.specs.declared.sfps.Sfp.{Sfp}
use Rattle.sfp_attribute.specs.Sfps.{sfp_bytes}
use Rattle.sfc_routes.specs.declared.routes.Route.{Route}

-- flag 0x10 says that the length of a value has 2 bytes; it is set where the value has more than 255 bytes
abbrev pub flags_for : ℕ → ℕ → ℕ
flags_for flags size = if nat_lt 255 size then flags + 16 else flags

abbrev pub attribute_of : ℕ → ℕ → Body → Attribute
attribute_of flags kind body = record { flags = flags_for flags (length (body_bytes body)); kind = kind; body = body }

-- ORIGIN, 0 for a route of the announcing AS itself
abbrev pub origin : Attribute
origin = attribute_of 64 1 (bodies.Raw (0 ∷ []))

-- AS_PATH: one AS_SEQUENCE of the announcing AS. Inside of one AS it is empty, and LOCAL_PREF 100 comes behind it
abbrev pub ways : Bool → ℕ → List Attribute
ways true asn = attribute_of 64 2 (bodies.Raw []) ∷ attribute_of 64 5 (bodies.Raw (0 ∷ 0 ∷ 0 ∷ 100 ∷ [])) ∷ []
ways false asn = attribute_of 64 2 (bodies.Raw (2 ∷ 1 ∷ four asn)) ∷ []

-- MP_REACH_NLRI
abbrev pub reach_for : Route → Attribute
reach_for r = attribute_of 128 14 (bodies.Reach (record { next_hop = r.next_hop; reserved = 0; nlri = r.nlri ∷ [] }))

-- EXTENDED COMMUNITIES, where there are targets
abbrev pub communities_for : List (List ℕ) → List Attribute
communities_for [] = []
communities_for (t ∷ ts) = attribute_of 192 16 (bodies.Communities (t ∷ ts)) ∷ []

-- SFP, where there is a path
abbrev pub sfp_for : Option Sfp → List Attribute
sfp_for None = []
sfp_for (Some s) = attribute_of 192 37 (bodies.Raw (sfp_bytes s)) ∷ []

abbrev pub attributes_for : Bool → ℕ → Route → List Attribute
attributes_for inside asn r = origin ∷ (ways inside asn ++ (reach_for r ∷ (communities_for r.targets ++ sfp_for r.path)))

-- the update by which a peer of this AS announces the route to a local side of the other AS
abbrev pub announcement : ℕ → ℕ → Route → Update
announcement own asn r = record { withdrawn = []; attributes = attributes_for (own == asn) asn r; nlri = [] }

-- and the message
abbrev pub announcing : ℕ → ℕ → Route → Message
announcing own asn r = messages.Update (update_bytes (announcement own asn r))

-- ---- withdrawing

-- MP_UNREACH_NLRI
abbrev pub unreach_for : Route → Attribute
unreach_for r = attribute_of 128 15 (bodies.Unreach (record { nlri = r.nlri ∷ [] }))

-- the update by which a peer withdraws the route, and the message
abbrev pub withdrawal : Route → Update
withdrawal r = record { withdrawn = []; attributes = unreach_for r ∷ []; nlri = [] }

abbrev pub withdrawing : Route → Message
withdrawing r = messages.Update (update_bytes (withdrawal r))
