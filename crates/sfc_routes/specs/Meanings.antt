-- What an update means: the change that it makes of a peer's routes (after RFC 9015, section 3; RFC 4760, sections 3 and 4). Of
-- several attributes of one kind the first counts, also where it is bad.
use Rattle.std.specs.Prelude.{◌≡◌, ℕ, ◌==◌, nat_le, ◌&&◌, ◌⊎◌, not, Bool, true, false, Option, Some, None, is_some, List, [], ◌++◌, map, filter, find, slice_index}
use Rattle.std.specs.Option.{option_map_or}
use Rattle.wire_base.specs.Numbers.{AreBytes}
use Rattle.wire_base.specs.declared.next_hops.NextHop.{NextHop}
use Rattle.bgp_update.specs.declared.attributes.Attribute.{Attribute}
use Rattle.bgp_update.specs.declared.attributes.Body.{Body}
use Rattle.bgp_update.specs.declared.attributes.Body.TheVariants as bodies
use Rattle.bgp_update.specs.declared.attributes.MpReach.{MpReach}
use Rattle.bgp_update.specs.declared.routes.Nlri.{Nlri}
use Rattle.bgp_update.specs.declared.routes.Nlri.TheVariants as nlris
use Rattle.bgp_update.specs.declared.updates.Update.{Update}
use Rattle.bgp_update.specs.Attributes.{Shared}
use Rattle.bgp_update.specs.Updates.{is_broken}
use Rattle.sfp_attribute.specs.declared.faults.SfpFault.{SfpFault}
use Rattle.sfp_attribute.specs.declared.sfps.Sfp.{Sfp}
use Rattle.sfp_attribute.specs.Sfps.{IsSfp}
use Rattle.sfp_attribute.specs.Refusals.{Refused}
use Rattle.sfc_routes.specs.declared.routes.Route.{Route}
use Rattle.sfc_routes.specs.declared.route_changes.RouteChange.{RouteChange}

abbrev pub first_of : ℕ → Update → Option Attribute
first_of kind u = find (λ (a : Attribute). a.kind == kind) u.attributes

-- ---- reachable routes, and those that are withdrawn

abbrev pub reach_in : Body → Option MpReach
reach_in (bodies.Reach r) = Some r
reach_in (bodies.Unreach w) = None
reach_in (bodies.Communities cs) = None
reach_in (bodies.Raw bytes) = None

-- MP_REACH_NLRI
abbrev pub reach_of : Update → Option MpReach
reach_of u = option_map_or (λ (a : Attribute). reach_in a.body) (first_of 14 u) None

-- and its routes
abbrev pub reached : Update → List Nlri
reached u = option_map_or (λ (r : MpReach). r.nlri) (reach_of u) []

abbrev pub unreach_in : Body → List Nlri
unreach_in (bodies.Reach r) = []
unreach_in (bodies.Unreach w) = w.nlri
unreach_in (bodies.Communities cs) = []
unreach_in (bodies.Raw bytes) = []

-- the routes of MP_UNREACH_NLRI
abbrev pub unreached : Update → List Nlri
unreached u = option_map_or (λ (a : Attribute). unreach_in a.body) (first_of 15 u) []

-- ---- communities

abbrev pub communities_in : Body → List (List ℕ)
communities_in (bodies.Reach r) = []
communities_in (bodies.Unreach w) = []
communities_in (bodies.Communities cs) = cs
communities_in (bodies.Raw bytes) = []

-- EXTENDED COMMUNITIES
abbrev pub communities_of : Update → List (List ℕ)
communities_of u = option_map_or (λ (a : Attribute). communities_in a.body) (first_of 16 u) []

-- a route target has a type of 0, 1 or 2 and the subtype 2 (RFC 4360, section 4)
abbrev pub is_target : List ℕ → Bool
is_target c = nat_le (slice_index c 0) 2 && (slice_index c 1 == 2)

abbrev pub targets_of : Update → List (List ℕ)
targets_of u = filter is_target (communities_of u)

-- ---- the path

-- the value is a path's
abbrev pub IsPathIn : Body → Sfp → Type 0
IsPathIn (bodies.Reach r) sfp = ⊥
IsPathIn (bodies.Unreach w) sfp = ⊥
IsPathIn (bodies.Communities cs) sfp = ⊥
IsPathIn (bodies.Raw value) sfp = IsSfp value sfp

-- the value is refused, or is no value of this kind
abbrev pub IsNoPath : Body → Type 0
IsNoPath (bodies.Reach r) = Unit {0}
IsNoPath (bodies.Unreach w) = Unit {0}
IsNoPath (bodies.Communities cs) = Unit {0}
IsNoPath (bodies.Raw value) = (fault : SfpFault) × Refused value fault

-- what an SFP attribute gives: a path where it is optional and transitive and has a path's value, and else none
abbrev pub PathIn : Attribute → Option Sfp → Type 0
PathIn a (Some sfp) = Shared a.flags × IsPathIn a.body sfp
PathIn a None = (¬ Shared a.flags) ⊎ IsNoPath a.body

abbrev pub PathFrom : Option Attribute → Option Sfp → Type 0
PathFrom None path = path ≡ None
PathFrom (Some a) path = PathIn a path

-- the path of an update: that of its SFP attribute
abbrev pub PathOf : Update → Option Sfp → Type 0
PathOf u path = PathFrom (first_of 37 u) path

-- ---- the change

-- a service function instance route or path route; routes of other types have no meaning
abbrev pub is_service : Nlri → Bool
is_service (nlris.Sfir rd kind) = true
is_service (nlris.Sfpr rd spi) = true
is_service (nlris.Other kind body) = false

-- a reachable route is announced, unless the communities are broken, or a path route has no path
abbrev pub is_announced : Bool → Bool → Nlri → Bool
is_announced broken path (nlris.Sfir rd kind) = not broken
is_announced broken path (nlris.Sfpr rd spi) = not broken && path
is_announced broken path (nlris.Other kind body) = false

-- and else it is withdrawn (RFC 7606, section 2: treat-as-withdraw)
abbrev pub is_turned : Bool → Bool → Nlri → Bool
is_turned broken path nlri = is_service nlri && not (is_announced broken path nlri)

-- only a path route has the path
abbrev pub path_for : Option Sfp → Nlri → Option Sfp
path_for path (nlris.Sfir rd kind) = None
path_for path (nlris.Sfpr rd spi) = path
path_for path (nlris.Other kind body) = None

abbrev pub route_for : NextHop → List (List ℕ) → Option Sfp → Nlri → Route
route_for hop targets path nlri = record { nlri = nlri; next_hop = hop; targets = targets; path = path_for path nlri }

abbrev pub routes_for : MpReach → Bool → List (List ℕ) → Option Sfp → List Route
routes_for r broken targets path = map (route_for r.next_hop targets path) (filter (is_announced broken (is_some path)) r.nlri)

-- the routes that are announced, in the order of the update
abbrev pub announced_by : Update → Option Sfp → List Route
announced_by u path = option_map_or (λ (r : MpReach). routes_for r (is_broken u) (targets_of u) path) (reach_of u) []

-- those of the reachable routes that are withdrawn
abbrev pub turned_by : Update → Option Sfp → List Nlri
turned_by u path = filter (is_turned (is_broken u) (is_some path)) (reached u)

-- the change that an update makes of the routes of a peer
pub record ChangeOf (peer : ℕ) (u : Update) (change : RouteChange) : Type 0 where
  pub path : Option Sfp
  pub path_is : PathOf u path
  pub of_peer : change.peer ≡ peer
  pub not_all : change.all ≡ false
  pub withdrawn : change.withdrawn ≡ filter is_service (unreached u) ++ turned_by u path
  pub announced : change.announced ≡ announced_by u path

-- what is unread is bytes, as it is in every update that was read
abbrev pub BytesIn : Body → Type 0
BytesIn (bodies.Reach r) = Unit {0}
BytesIn (bodies.Unreach w) = Unit {0}
BytesIn (bodies.Communities cs) = Unit {0}
BytesIn (bodies.Raw value) = AreBytes value
