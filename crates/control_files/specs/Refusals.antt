-- The refusals of a control file: the fields of a segment in their order, and the first that is there and is no good.
use Rattle.std.specs.Prelude.{◌≡◌, ◌≢◌, ◌+◌, ℕ, Bool, ◌&&◌, ◌||◌, ◌==◌, nat_le, nat_lt, if◌then◌else◌, List, [], ◌∷◌, ◌++◌, length, take, drop, slice_index, Option, None, Some}
use Rattle.std.specs.List.{list_any}
use Rattle.wire_base.specs.Numbers.{big_endian}
use Rattle.control_files.specs.declared.segments.Segment.{Segment}
use Rattle.control_files.specs.declared.segments.SegmentHead.{SegmentHead}
use Rattle.control_files.specs.declared.segments.Mark.{Mark}
use Rattle.control_files.specs.declared.reasons.ControlReason.{ControlReason}
use Rattle.control_files.specs.declared.reasons.ControlReason.TheVariants as reasons
use Rattle.control_files.specs.declared.reasons.Refusal.{Refusal}
use Rattle.control_files.specs.Segments.{MayFollow, segment_bytes}

abbrev pub told : ℕ → ControlReason → Refusal
told place reason = record { place = place; reason = reason }

-- ---- the numbers at the front of some bytes

abbrev pub kind_at : List ℕ → ℕ
kind_at bytes = slice_index bytes 0

abbrev pub peer_at : List ℕ → ℕ
peer_at bytes = big_endian (take 2 (drop 1 bytes))

abbrev pub moment_at : List ℕ → ℕ
moment_at bytes = big_endian (take 8 (drop 3 bytes))

abbrev pub position_at : List ℕ → ℕ
position_at bytes = big_endian (take 8 (drop 11 bytes))

abbrev pub length_at : List ℕ → ℕ
length_at bytes = big_endian (take 4 (drop 19 bytes))

abbrev pub head_at : List ℕ → SegmentHead
head_at bytes = record { kind = kind_at bytes; peer = peer_at bytes; moment = moment_at bytes; position = position_at bytes; length = length_at bytes }

-- ---- when each is good

abbrev pub is_kind : ℕ → Bool
is_kind kind = nat_le 1 kind && nat_le kind 3

abbrev pub is_peer : List ℕ → ℕ → Bool
is_peer peers number = list_any (λ peer. peer == number) peers

-- there are bytes in kind 2 alone, and at most 65,535
abbrev pub is_length : ℕ → ℕ → Bool
is_length kind size = nat_le size 65535 && (kind == 2 || size == 0)

-- ---- the first field that is refused

-- where a field begins and ends, why it is refused, and whether it is good
pub record Field : Type 0 where
  pub at : ℕ
  pub end : ℕ
  pub reason : ControlReason
  pub good : Bool

abbrev pub fields : List ℕ → Mark → List ℕ → List Field
fields peers mark bytes =
    record { at = 0; end = 1; reason = reasons.Kind; good = is_kind (kind_at bytes) }
    ∷ record { at = 1; end = 3; reason = reasons.Peer; good = is_peer peers (peer_at bytes) }
    ∷ record { at = 3; end = 11; reason = reasons.Moment; good = nat_le mark.moment (moment_at bytes) }
    ∷ record { at = 11; end = 19; reason = reasons.Position; good = nat_le mark.position (position_at bytes) }
    ∷ record { at = 19; end = 23; reason = reasons.Length; good = is_length (kind_at bytes) (length_at bytes) }
    ∷ []

-- of a segment that begins at the place, and of which so many bytes are there
abbrev pub first_bad : ℕ → ℕ → List Field → Option Refusal
first_bad place size [] = None
first_bad place size (field ∷ others) =
    if nat_lt size field.end then None else (if field.good then first_bad place size others else Some (told (place + field.at) field.reason))

-- what is refused of the segment that begins at the place with these bytes
unfoldable pub refusal_of : List ℕ → Mark → ℕ → List ℕ → Option Refusal
refusal_of peers mark place bytes = first_bad place (length bytes) (fields peers mark bytes)

-- ---- held

-- no whole segment that may stand there stands at the front
abbrev pub BeginsNone : List ℕ → Mark → List ℕ → Type 0
BeginsNone peers mark bytes = (segment : Segment) (rest : List ℕ) → MayFollow peers mark segment → bytes ≢ segment_bytes segment ++ rest

-- nothing is refused, and no segment is whole
pub record Held (peers : List ℕ) (mark : Mark) (place : ℕ) (bytes : List ℕ) : Type 0 where
  pub accepted : refusal_of peers mark place bytes ≡ None
  pub unfinished : BeginsNone peers mark bytes
