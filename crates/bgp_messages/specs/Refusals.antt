-- The refusals of a stream of messages, in their order (RFC 4271, sections 6.1 and 6.2). The first row that holds is told;
-- the rows on an OPEN's content wait for the whole message. Places are counted from the message's first byte.
use Rattle.std.specs.Prelude.{◌≡◌, ◌≢◌, ℕ, ◌+◌, ◌-◌, ◌*◌, ◌<◌, ◌≤◌, ◌⊎◌, List, [], ◌∷◌, ◌++◌, length, take, drop, slice_index}
use Rattle.std.specs.List.{flat_map}
use Rattle.bgp_messages.specs.declared.opens.Param.{Param}
use Rattle.bgp_messages.specs.declared.opens.Capability.{Capability}
use Rattle.bgp_messages.specs.declared.refusals.Refusal.{Refusal}
use Rattle.bgp_messages.specs.Opens.{capability_bytes, parameters_bytes}
use Rattle.bgp_messages.specs.Messages.{BeginsNone}
use Rattle.bgp_messages.specs.Headers.{Marked, length_of, kind_of, OutOfRange, UnknownType, Unfit, LengthFits}

-- what a refusal says: code and subcode of the NOTIFICATION, the place, and its data
pub record Told : Type 0 where
  pub code : ℕ
  pub subcode : ℕ
  pub place : ℕ
  pub info : List ℕ

abbrev pub told_in : Refusal → Told
told_in r = record { code = r.code; subcode = r.subcode; place = r.place; info = r.info.items }

-- the same, counted from a byte that stands `used` bytes earlier
abbrev pub moved : ℕ → Told → Told
moved used t = record { code = t.code; subcode = t.subcode; place = used + t.place; info = t.info }

-- Message Header Error: Connection Not Synchronized, Bad Message Length, Bad Message Type
abbrev pub not_synchronized : ℕ → Told
not_synchronized place = record { code = 1; subcode = 1; place = place; info = [] }

abbrev pub bad_length : ℕ → ℕ → Told
bad_length high low = record { code = 1; subcode = 2; place = 16; info = high ∷ low ∷ [] }

abbrev pub bad_type : ℕ → Told
bad_type kind = record { code = 1; subcode = 3; place = 18; info = kind ∷ [] }

-- OPEN Message Error: Unspecific, Unsupported Version Number, Bad BGP Identifier, Unsupported Optional Parameter,
-- Unacceptable Hold Time
abbrev pub malformed : ℕ → Told
malformed place = record { code = 2; subcode = 0; place = place; info = [] }

abbrev pub bad_version : Told
bad_version = record { code = 2; subcode = 1; place = 19; info = 0 ∷ 4 ∷ [] }

abbrev pub bad_identifier : Told
bad_identifier = record { code = 2; subcode = 3; place = 24; info = [] }

abbrev pub bad_parameter : ℕ → Told
bad_parameter place = record { code = 2; subcode = 4; place = place; info = [] }

abbrev pub bad_hold_time : Told
bad_hold_time = record { code = 2; subcode = 6; place = 22; info = [] }

-- ---- the header

-- a byte of the marker is not FF
pub record RefusedMarker (bytes : List ℕ) (t : Told) : Type 0 where
  pub in_marker : t.place < 16
  pub there : t.place < length bytes
  pub before : Marked t.place bytes
  pub byte : slice_index bytes t.place ≢ 255
  pub told : t ≡ not_synchronized t.place

-- the length is below 19 or above 4,096
pub record RefusedLength (bytes : List ℕ) (t : Told) : Type 0 where
  pub marker : Marked 16 bytes
  pub there : 18 ≤ length bytes
  pub range : OutOfRange (length_of bytes)
  pub told : t ≡ bad_length (slice_index bytes 16) (slice_index bytes 17)

-- the header so far is that of a message, and its type is there
pub record HasLength (bytes : List ℕ) : Type 0 where
  pub marker : Marked 16 bytes
  pub there : 19 ≤ length bytes
  pub least : 19 ≤ length_of bytes
  pub most : length_of bytes ≤ 4096

-- the type is not 1 to 4
pub record RefusedType (bytes : List ℕ) (t : Told) : Type 0 where
  pub before : HasLength bytes
  pub kind : UnknownType (kind_of bytes)
  pub told : t ≡ bad_type (kind_of bytes)

-- the length is none of a message of this type
pub record RefusedLeast (bytes : List ℕ) (t : Told) : Type 0 where
  pub before : HasLength bytes
  pub unfit : Unfit (kind_of bytes) (length_of bytes)
  pub told : t ≡ bad_length (slice_index bytes 16) (slice_index bytes 17)

-- the bytes begin with a message of this type and length, as far as its header says, and all of it is there
pub record IsWhole (bytes : List ℕ) (kind len : ℕ) : Type 0 where
  pub before : HasLength bytes
  pub type_is : kind_of bytes ≡ kind
  pub known : (0 < kind) × (kind ≤ 4)
  pub len_is : length_of bytes ≡ len
  pub fits : LengthFits kind len
  pub there : len ≤ length bytes

-- the content of a message of this length
abbrev pub content_in : ℕ → List ℕ → List ℕ
content_in len bytes = take (len - 19) (drop 19 bytes)

-- ---- an OPEN's content

-- a code or type, a length and as many bytes as it says do not stand here whole
abbrev pub RunsPast : List ℕ → Type 0
RunsPast bytes = (length bytes < 2) ⊎ (length bytes < 2 + slice_index bytes 1)

-- a capability runs past its parameter, whose value begins at the place
pub record RefusedCapability (place : ℕ) (value : List ℕ) (t : Told) : Type 0 where
  pub good : List Capability
  pub bad : List ℕ
  pub split : value ≡ flat_map capability_bytes good ++ bad
  pub some : 0 < length bad
  pub runs_past : RunsPast bad
  pub told : t ≡ malformed (place + length (flat_map capability_bytes good))

-- a parameter, at the place, runs past the end
pub record RunningParameter (place : ℕ) (bytes : List ℕ) (t : Told) : Type 0 where
  pub some : 0 < length bytes
  pub runs_past : RunsPast bytes
  pub told : t ≡ malformed place

-- a whole parameter, at the place, is of another type than 2
pub record OtherParameter (place : ℕ) (bytes : List ℕ) (t : Told) : Type 0 where
  pub kind : ℕ
  pub value : List ℕ
  pub more : List ℕ
  pub whole : bytes ≡ kind ∷ length value ∷ value ++ more
  pub other : kind ≢ 2
  pub told : t ≡ bad_parameter place

-- a whole parameter of type 2, at the place, has a capability that is refused
pub record BadParameter (place : ℕ) (bytes : List ℕ) (t : Told) : Type 0 where
  pub value : List ℕ
  pub more : List ℕ
  pub whole : bytes ≡ 2 ∷ length value ∷ value ++ more
  pub capability : RefusedCapability (place + 2) value t

-- a parameter, at the place, is refused
abbrev pub RefusedParameter : ℕ → List ℕ → Told → Type 0
RefusedParameter place bytes t = RunningParameter place bytes t ⊎ (OtherParameter place bytes t ⊎ BadParameter place bytes t)

-- behind good parameters, the first of which stands at the place, one is refused
pub record RefusedParameters (place : ℕ) (bytes : List ℕ) (t : Told) : Type 0 where
  pub good : List Param
  pub bad : List ℕ
  pub split : bytes ≡ parameters_bytes good ++ bad
  pub first : RefusedParameter (place + length (parameters_bytes good)) bad t

abbrev pub hold_in : List ℕ → ℕ
hold_in bytes = 256 * slice_index bytes 3 + slice_index bytes 4

-- the identifier's four bytes are 0
pub record NoIdentifier (bytes : List ℕ) : Type 0 where
  pub first : slice_index bytes 5 ≡ 0
  pub second : slice_index bytes 6 ≡ 0
  pub third : slice_index bytes 7 ≡ 0
  pub fourth : slice_index bytes 8 ≡ 0

abbrev pub BadHold : ℕ → Type 0
BadHold hold = (hold ≡ 1) ⊎ (hold ≡ 2)

-- the version is not 4
pub record RefusedVersion (bytes : List ℕ) (t : Told) : Type 0 where
  pub version : slice_index bytes 0 ≢ 4
  pub told : t ≡ bad_version

-- the hold time is 1 or 2
pub record RefusedHold (bytes : List ℕ) (t : Told) : Type 0 where
  pub version : slice_index bytes 0 ≡ 4
  pub hold : BadHold (hold_in bytes)
  pub told : t ≡ bad_hold_time

-- the identifier is 0
pub record RefusedIdentifier (bytes : List ℕ) (t : Told) : Type 0 where
  pub version : slice_index bytes 0 ≡ 4
  pub hold : ¬ BadHold (hold_in bytes)
  pub id : NoIdentifier bytes
  pub told : t ≡ bad_identifier

-- the fields before the parameters are those of an OPEN
pub record FieldsFit (bytes : List ℕ) : Type 0 where
  pub version : slice_index bytes 0 ≡ 4
  pub hold : ¬ BadHold (hold_in bytes)
  pub id : ¬ NoIdentifier bytes

-- the parameters' length is not the number of bytes that follow
pub record RefusedSize (bytes : List ℕ) (t : Told) : Type 0 where
  pub before : FieldsFit bytes
  pub size : slice_index bytes 9 ≢ length (drop 10 bytes)
  pub told : t ≡ malformed 28

-- one of the parameters, which begin at byte 29 of the message, is refused
pub record RefusedList (bytes : List ℕ) (t : Told) : Type 0 where
  pub before : FieldsFit bytes
  pub size : slice_index bytes 9 ≡ length (drop 10 bytes)
  pub parameters : RefusedParameters 29 (drop 10 bytes) t

-- the content of an OPEN is refused
abbrev pub RefusedContent : List ℕ → Told → Type 0
RefusedContent bytes t = RefusedVersion bytes t ⊎ (RefusedHold bytes t ⊎ (RefusedIdentifier bytes t ⊎ (RefusedSize bytes t ⊎ RefusedList bytes t)))

-- a whole OPEN whose content is refused
pub record RefusedOpen (bytes : List ℕ) (t : Told) : Type 0 where
  pub whole : IsWhole bytes 1 (length_of bytes)
  pub content : RefusedContent (content_in (length_of bytes) bytes) t

-- ---- all rows

-- the bytes, which begin where a message does, are refused
abbrev pub Refused : List ℕ → Told → Type 0
Refused bytes t = RefusedMarker bytes t ⊎ (RefusedLength bytes t ⊎ (RefusedType bytes t ⊎ (RefusedLeast bytes t ⊎ RefusedOpen bytes t)))

-- the bytes hold no field that is refused, and begin with no whole message
pub record Held (bytes : List ℕ) : Type 0 where
  pub accepted : (t : Told) → ¬ Refused bytes t
  pub unfinished : BeginsNone bytes
