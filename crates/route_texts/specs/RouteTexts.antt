-- Routes texts: lines that each end at byte 0A, the last one too, at most 1,024, no two with one NLRI.
use Rattle.std.specs.Prelude.{◌≡◌, ◌≢◌, ℕ, ◌+◌, ◌*◌, ◌<◌, ◌≤◌, ◌⊎◌, nat_lt, if◌then◌else◌, List, [], ◌∷◌, ◌++◌, length, Option, Some, None}
use Rattle.std.specs.List.{flat_map, AllByRecursion}
use Rattle.bgp_update.specs.Nlris.{nlri_bytes}
use Rattle.bgp_update.specs.Attributes.{hop_bytes}
use Rattle.sfp_attribute.specs.declared.sfps.Sfp.{Sfp}
use Rattle.sfp_attribute.specs.Sfps.{sfp_bytes}
use Rattle.sfc_routes.specs.declared.routes.Route.{Route}
use Rattle.route_texts.specs.RouteLines.{SpellsRoute}

-- an attribute with a value of so many bytes: flags, kind, a length of 2 bytes where it is above 255, the value
abbrev pub attribute_size : ℕ → ℕ
attribute_size size = (if nat_lt 255 size then 4 else 3) + size

-- kind 14: AFI, SAFI, next hop behind its length, a reserved byte, the NLRI (RFC 4760, section 3)
abbrev pub reach_size : Route → ℕ
reach_size r = attribute_size (5 + length (hop_bytes r.next_hop) + length (nlri_bytes r.nlri))

-- kind 16, where there are targets (RFC 4360, section 2)
abbrev pub targets_size : ℕ → ℕ
targets_size count = if nat_lt 0 count then attribute_size (8 * count) else 0

-- kind 37, where there is a path
abbrev pub path_size : Option Sfp → ℕ
path_size None = 0
path_size (Some s) = attribute_size (length (sfp_bytes s))

-- the UPDATE that announces the route: header 19, the two lengths 4, 14 for the attributes before kind 14, and those from there on
abbrev pub update_size : Route → ℕ
update_size r = 37 + reach_size r + targets_size (length r.targets) + path_size r.path

-- a line that is taken behind some routes
pub record Takes (before : List Route) (line : List ℕ) (r : Route) : Type 0 where
  pub spelled : SpellsRoute line r
  pub small : update_size r ≤ 4096
  pub room : length before < 1024
  pub new : AllByRecursion (λ (q : Route). q.nlri ≢ r.nlri) before

-- the lines are taken, one after another, behind some routes, and leave these
abbrev pub Runs : List Route → List (List ℕ) → List Route → Type 0
Runs before [] after = after ≡ before
Runs before (line ∷ lines) after = (r : Route) × Takes before line r × Runs (before ++ r ∷ []) lines after

-- no byte ends a line
abbrev pub IsUnbroken : List ℕ → Type 0
IsUnbroken bytes = AllByRecursion (λ b. b ≢ 10) bytes

abbrev pub ended : List ℕ → List ℕ
ended line = line ++ 10 ∷ []

-- the text spells the routes
pub record IsRoutes (text : List ℕ) (routes : List Route) : Type 0 where
  pub lines : List (List ℕ)
  pub split : text ≡ flat_map ended lines
  pub unbroken : AllByRecursion IsUnbroken lines
  pub runs : Runs [] lines routes

-- what begins here is no line that is taken: it does not end, or is not taken
pub record BadLine (before : List Route) (bytes : List ℕ) : Type 0 where
  pub line : List ℕ
  pub unbroken : IsUnbroken line
  pub why : ((bytes ≡ line) × (0 < length line)) ⊎ ((behind : List ℕ) × (bytes ≡ ended line ++ behind) × ((r : Route) → Takes before line r → ⊥))

-- the line with this number, counted from 1, is the first that is refused
pub record IsRefused (text : List ℕ) (n : ℕ) : Type 0 where
  pub good : List (List ℕ)
  pub routes : List Route
  pub bad : List ℕ
  pub split : text ≡ flat_map ended good ++ bad
  pub unbroken : AllByRecursion IsUnbroken good
  pub runs : Runs [] good routes
  pub first : BadLine routes bad
  pub number : n ≡ length good + 1
