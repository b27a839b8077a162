-- The refusals of an update, in their order (RFC 4271, section 6.3; RFC 4760, section 7, in this project's own choice of
-- faults). The rows on an attribute are tried for one attribute after the other. Places are counted from the first byte
-- behind the message header.
use Rattle.std.specs.Prelude.{◌≡◌, ◌≢◌, ℕ, ◌+◌, ◌*◌, ◌/◌, ◌%◌, ◌^◌, ◌==◌, ◌<◌, ◌⊎◌, if◌then◌else◌, List, ◌∷◌, ◌++◌, length, slice_index}
use Rattle.bgp_update.specs.declared.attributes.Attribute.{Attribute}
use Rattle.bgp_update.specs.declared.routes.Nlri.{Nlri}
use Rattle.wire_base.specs.declared.next_hops.NextHop.{NextHop}
use Rattle.wire_base.specs.Numbers.{two}
use Rattle.bgp_update.specs.Nlris.{list_bytes, ListFits}
use Rattle.bgp_update.specs.Attributes.{family, hop_bytes, HopFits, size_bytes, size_limit, attributes_bytes, IsReachability}
use Rattle.bgp_update.specs.Updates.{count_of, AttributesFit}

-- the number of the 2 bytes that begin at the place
abbrev pub number_at : ℕ → List ℕ → ℕ
number_at place bytes = 256 * slice_index bytes place + slice_index bytes (1 + place)

-- ---- a list of routes

-- a route's header or body runs past the end
abbrev pub ShortNlri : List ℕ → Type 0
ShortNlri bytes = (length bytes < 4) ⊎ (length bytes < 4 + number_at 2 bytes)

-- type 1 has a length other than 10, or type 2 one other than 11
abbrev pub WrongSize : ℕ → ℕ → Type 0
WrongSize kind size = ((kind ≡ 1) × (size ≢ 10)) ⊎ ((kind ≡ 2) × (size ≢ 11))

-- a route does not stand here whole, or not with the length of its type
abbrev pub BadNlri : List ℕ → Type 0
BadNlri bytes = ShortNlri bytes ⊎ WrongSize (number_at 0 bytes) (number_at 2 bytes)

-- behind good routes, the first of which stands at `start`, one is bad
pub record RefusedList (start : ℕ) (bytes : List ℕ) (place : ℕ) : Type 0 where
  pub good : List Nlri
  pub fit : ListFits good
  pub bad : List ℕ
  pub split : bytes ≡ list_bytes good ++ bad
  pub some : 0 < length bad
  pub first : BadNlri bad
  pub told : place ≡ start + length (list_bytes good)

-- ---- an attribute

-- how many bytes stand before an attribute's value
abbrev pub header_size : ℕ → ℕ
header_size flags = if (flags / 16) % 2 == 1 then 4 else 3

-- the length field of an attribute
abbrev pub size_in : List ℕ → ℕ
size_in bytes = if (slice_index bytes 0 / 16) % 2 == 1 then number_at 2 bytes else slice_index bytes 2

-- an attribute's header or value runs past the end
abbrev pub RunsPast : List ℕ → Type 0
RunsPast bytes = (length bytes < header_size (slice_index bytes 0)) ⊎ (length bytes < header_size (slice_index bytes 0) + size_in bytes)

-- the bytes are an attribute's header, its value, and what follows
pub record Splits (bytes : List ℕ) (flags kind : ℕ) (value more : List ℕ) : Type 0 where
  pub parts : bytes ≡ flags ∷ kind ∷ size_bytes flags (length value) ++ value ++ more
  pub size : length value < size_limit flags

-- kinds 14 and 15 come a second time
pub record Repeats (kind : ℕ) (before : List Attribute) : Type 0 where
  pub reachability : IsReachability kind
  pub again : 0 < count_of kind before

-- behind the family, a next hop length that is there and 4 or 16, a next hop and a reserved byte are not all there
abbrev pub BadReach : List ℕ → Type 0
BadReach behind = (length behind < 2) ⊎ (((slice_index behind 0 ≢ 4) × (slice_index behind 0 ≢ 16)) ⊎ (length behind < 2 + slice_index behind 0))

-- behind the family, a next hop behind its length, a reserved byte, and a list of routes
pub record SplitsReach (behind : List ℕ) (hop : NextHop) (reserved : ℕ) (list : List ℕ) : Type 0 where
  pub parts : behind ≡ length (hop_bytes hop) ∷ hop_bytes hop ++ reserved ∷ list
  pub fits : HopFits hop

-- kind 14 of the family is refused, whose attribute stands at `start` with a header of `header` bytes: its head, or a route
abbrev pub RefusedReach : ℕ → ℕ → List ℕ → ℕ → Type 0
RefusedReach start header behind place =
    (BadReach behind × (place ≡ start))
    ⊎ ((hop : NextHop) × (reserved : ℕ) × (list : List ℕ) × SplitsReach behind hop reserved list × RefusedList (start + header + 5 + length (hop_bytes hop)) list place)

-- kinds 14 and 15 have at least an AFI and a SAFI; those of the family have what the family asks for
abbrev pub RefusedValue : ℕ → ℕ → ℕ → List ℕ → ℕ → Type 0
RefusedValue start header kind value place =
    (IsReachability kind × (length value < 3) × (place ≡ start))
    ⊎ (((kind ≡ 14) × (behind : List ℕ) × (value ≡ family ++ behind) × RefusedReach start header behind place)
    ⊎ ((kind ≡ 15) × (behind : List ℕ) × (value ≡ family ++ behind) × RefusedList (start + header + 3) behind place))

-- a whole attribute, behind others, is refused
pub record RefusedWhole (start : ℕ) (before : List Attribute) (bytes : List ℕ) (place : ℕ) : Type 0 where
  pub flags : ℕ
  pub kind : ℕ
  pub value : List ℕ
  pub more : List ℕ
  pub whole : Splits bytes flags kind value more
  pub row : (Repeats kind before × (place ≡ start)) ⊎ ((¬ Repeats kind before) × RefusedValue start (header_size flags) kind value place)

-- an attribute that stands at `start`, behind others, is refused
abbrev pub RefusedAttribute : ℕ → List Attribute → List ℕ → ℕ → Type 0
RefusedAttribute start before bytes place = (RunsPast bytes × (place ≡ start)) ⊎ RefusedWhole start before bytes place

-- behind good attributes, the first of which stands at `start`, one is refused
pub record RefusedAttributes (start : ℕ) (bytes : List ℕ) (place : ℕ) : Type 0 where
  pub good : List Attribute
  pub fit : AttributesFit good
  pub bad : List ℕ
  pub split : bytes ≡ attributes_bytes good ++ bad
  pub some : 0 < length bad
  pub first : RefusedAttribute (start + length (attributes_bytes good)) good bad place

-- ---- the content

-- the withdrawn routes behind their length, the attributes' length, and what follows it
pub record Opens (bytes withdrawn : List ℕ) (size : ℕ) (more : List ℕ) : Type 0 where
  pub parts : bytes ≡ two (length withdrawn) ++ withdrawn ++ two size ++ more
  pub withdrawn_fits : length withdrawn < 2 ^ 16
  pub size_fits : size < 2 ^ 16

-- the two lengths and the withdrawn routes are not all there
abbrev pub OpensNot : List ℕ → Type 0
OpensNot bytes = (length bytes < 4) ⊎ (length bytes < 4 + number_at 0 bytes)

-- the attributes' length runs past the content
pub record RefusedSize (bytes : List ℕ) (place : ℕ) : Type 0 where
  pub withdrawn : List ℕ
  pub size : ℕ
  pub more : List ℕ
  pub opens : Opens bytes withdrawn size more
  pub runs_past : length more < size
  pub told : place ≡ 2 + length withdrawn

-- one of the attributes is refused
pub record RefusedOne (bytes : List ℕ) (place : ℕ) : Type 0 where
  pub withdrawn : List ℕ
  pub attributes : List ℕ
  pub nlri : List ℕ
  pub opens : Opens bytes withdrawn (length attributes) (attributes ++ nlri)
  pub one : RefusedAttributes (4 + length withdrawn) attributes place

-- the content of an update is refused at the place
abbrev pub Refused : List ℕ → ℕ → Type 0
Refused bytes place = (OpensNot bytes × (place ≡ 0)) ⊎ (RefusedSize bytes place ⊎ RefusedOne bytes place)
