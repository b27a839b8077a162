-- The refusals of a pcapng file, in their order; the first that holds is told. Places are counted from the block's first byte.
use Rattle.std.specs.Prelude.{◌≡◌, ℕ, ◌+◌, ◌-◌, Bool, true, false, ◌&&◌, ◌||◌, ◌==◌, nat_le, nat_lt, if◌then◌else◌, List, [], ◌∷◌, length, take, slice_index, Option, None, Some}
use Rattle.std.specs.Option.{option_map}
use Rattle.pcapng_io.specs.declared.faults.NgReason.{NgReason}
use Rattle.pcapng_io.specs.declared.faults.NgReason.TheVariants as reasons
use Rattle.pcapng_io.specs.declared.faults.NgRefusal.{NgRefusal}
use Rattle.pcapng_io.specs.declared.interface_options.OptionAt.{OptionAt}
use Rattle.pcapng_io.specs.declared.interface_options.Wanted.TheVariants as wanted
use Rattle.pcapng_io.specs.declared.kinds.BlockKind.{BlockKind}
use Rattle.pcapng_io.specs.declared.kinds.BlockKind.TheVariants as kinds
use Rattle.pcapng_io.specs.declared.sections.Section.{Section}
use Rattle.pcapng_io.specs.Numbers.{half_at, word_at}
use Rattle.pcapng_io.specs.Kinds.{kind_of, is_length}
use Rattle.pcapng_io.specs.Options.{first_option}
use Rattle.pcapng_io.specs.Times.{is_resolution, is_time}
use Rattle.pcapng_io.specs.Sections.{is_header, has_mark, order_at, size_at, kind_at, interface_of, whole_at, simple_captured}

abbrev pub told : ℕ → NgReason → NgRefusal
told place reason = record { place = place; reason = reason }

-- the same, counted from a byte that stands `used` bytes earlier
abbrev pub moved : ℕ → NgRefusal → NgRefusal
moved used t = record { place = used + t.place; reason = t.reason }

-- ---- what is refused before a block is whole

-- the first length
abbrev pub length_refusal : BlockKind → Bool → List ℕ → Option NgRefusal
length_refusal kind big front = if is_length kind (word_at big 4 front) then None else Some (told 4 reasons.Block)

-- the mark, and then the length
abbrev pub header_opening : List ℕ → Option NgRefusal
header_opening front =
    if has_mark true front || has_mark false front then length_refusal kinds.Header (has_mark true front) front else Some (told 8 reasons.Magic)

-- Of the first 12 bytes, or as many as there are: the first block of a file is a section header, which is seen once its type is
-- there; the mark of a section header is seen once it is there; the first length once it is there, and for a section
-- header the mark.
abbrev pub opening : Section → List ℕ → Option NgRefusal
opening section front =
    if nat_lt (length front) 4 then None
    else (if is_header front then (if nat_lt (length front) 12 then None else header_opening front)
    else (if section.begun then (if nat_lt (length front) 8 then None else length_refusal (kind_of (word_at section.big 0 front)) section.big front) else Some (told 0 reasons.Magic)))

-- ---- what is refused of a whole block

-- where a field stands, why it is refused, and whether it is good
pub record Field : Type 0 where
  pub at : ℕ
  pub reason : NgReason
  pub good : Bool

abbrev pub field : ℕ → NgReason → Bool → Field
field at reason good = record { at = at; reason = reason; good = good }

abbrev pub first_bad : List Field → Option NgRefusal
first_bad [] = None
first_bad (one ∷ others) = if one.good then first_bad others else Some (told one.at one.reason)

-- the second length is the first
abbrev pub second_length : Bool → List ℕ → Field
second_length big block = field (length block - 4) reasons.Block (word_at big (length block - 4) block == length block)

-- the first option that is refused
abbrev pub option_field : Option OptionAt → Field
option_field None = field 0 reasons.Option true
option_field (Some option) = field option.at reasons.Option false

-- the first resolution
abbrev pub resolution_field : List ℕ → Option OptionAt → Field
resolution_field block None = field 0 reasons.Resolution true
resolution_field block (Some option) = field option.at reasons.Resolution (is_resolution (slice_index block (option.at + 4)))

-- the fields of a block, in the order in which they are judged
abbrev pub fields_by : BlockKind → Section → Bool → List ℕ → List Field
fields_by kinds.Header section big block = second_length big block ∷ field 12 reasons.Version (half_at big 12 block == 1) ∷ []
fields_by kinds.Description section big block =
    second_length big block
    ∷ option_field (first_option wanted.Refused big block)
    ∷ resolution_field block (first_option (wanted.Code 9) big block)
    ∷ field 0 reasons.Interface (nat_lt (length section.interfaces) 1024)
    ∷ []
fields_by kinds.Enhanced section big block =
    second_length big block
    ∷ field 8 reasons.Interface (nat_lt (word_at big 8 block) (length section.interfaces))
    ∷ field 20 reasons.Length (nat_le (word_at big 20 block) 262144 && nat_le (word_at big 20 block + 32) (length block))
    ∷ field 24 reasons.Original (nat_le (word_at big 20 block) (word_at big 24 block) && nat_le (word_at big 24 block) 2147483647)
    ∷ field 12 reasons.Time (is_time (interface_of section big block).offset (whole_at section big block))
    ∷ []
fields_by kinds.Simple section big block =
    second_length big block
    ∷ field 0 reasons.Interface (nat_lt 0 (length section.interfaces))
    ∷ field 8 reasons.Length (nat_le (simple_captured section big block) 262144 && nat_le (simple_captured section big block + 16) (length block))
    ∷ field 8 reasons.Original (nat_le (word_at big 8 block) 2147483647)
    ∷ []
fields_by kinds.Other section big block = second_length big block ∷ []

unfoldable pub block_refusal : Section → List ℕ → Option NgRefusal
block_refusal section block = first_bad (fields_by (kind_at section block) section (order_at section.big block) block)

-- ---- what is refused of the bytes at hand

-- the block at the front is whole
abbrev pub is_whole : Section → List ℕ → Bool
is_whole section bytes = nat_le 12 (length bytes) && nat_le (size_at section bytes) (length bytes)

-- the block at the front, where it is whole
abbrev pub block_at : Section → List ℕ → List ℕ
block_at section bytes = take (size_at section bytes) bytes

abbrev pub or_then : Option NgRefusal → Option NgRefusal → Option NgRefusal
or_then None later = later
or_then (Some t) later = Some t

unfoldable pub refusal_of : Section → List ℕ → Option NgRefusal
refusal_of section bytes =
    or_then (opening section (take 12 bytes)) (if is_whole section bytes then block_refusal section (block_at section bytes) else None)

-- the same, counted from a file's first byte
abbrev pub refused_from : Section → ℕ → List ℕ → Option NgRefusal
refused_from section place bytes = option_map (moved place) (refusal_of section bytes)

-- ---- held

-- nothing is refused, and no block is whole
pub record Held (section : Section) (bytes : List ℕ) : Type 0 where
  pub accepted : refusal_of section bytes ≡ None
  pub unfinished : is_whole section bytes ≡ false
