-- What a feed refuses has another reason than that the file ends short.
use Rattle.std.proofs.Common.{◌≡◌, ℕ, Bool, true, false, cond, List, [], ◌∷◌, length, take, Option, None, Some, refl, sym, ap, ◌∙◌, subst}
use Rattle.std.specs.List.{AllByRecursion}
use Rattle.std.specs.Option.{option_map}
use Rattle.pcapng_io.specs.declared.faults.NgReason.{NgReason}
use Rattle.pcapng_io.specs.declared.faults.NgReason.TheVariants as reasons
use Rattle.pcapng_io.specs.declared.faults.NgRefusal.{NgRefusal}
use Rattle.pcapng_io.specs.declared.interface_options.OptionAt.{OptionAt}
use Rattle.pcapng_io.specs.declared.interface_options.Wanted.TheVariants as wanted
use Rattle.pcapng_io.specs.declared.kinds.BlockKind.{BlockKind}
use Rattle.pcapng_io.specs.declared.kinds.BlockKind.TheVariants as kinds
use Rattle.pcapng_io.specs.declared.sections.Section.{Section}
use Rattle.pcapng_io.specs.Calls.{RefusedAt}
use Rattle.pcapng_io.specs.Kept.{Kept}
use Rattle.pcapng_io.specs.Kinds.{is_length, kind_of}
use Rattle.pcapng_io.specs.Numbers.{word_at}
use Rattle.pcapng_io.specs.Options.{first_option}
use Rattle.pcapng_io.specs.Refusals.{Field, block_at, block_refusal, fields_by, first_bad, header_opening, is_whole, length_refusal, moved, opening, option_field, or_then, refusal_of, refused_from, resolution_field, told}
use Rattle.pcapng_io.specs.Sections.{has_mark, is_header, kind_at, order_at}

abbrev IsOther : Option NgRefusal → Type 0
IsOther None = Unit {0}
IsOther (Some t) = t.reason ≡ reasons.Short → ⊥

abbrev Others : List Field → Type 0
Others fields = AllByRecursion (λ (f : Field). f.reason ≡ reasons.Short → ⊥) fields

either : (b : Bool) (x y : Option NgRefusal) → IsOther x → IsOther y → IsOther (cond b x y)
either true x y is_x is_y = is_x
either false x y is_x is_y = is_y

-- ---- fields

bad_by : (one : Field) (b : Bool) (later : Option NgRefusal) → (one.reason ≡ reasons.Short → ⊥) → IsOther later → IsOther (cond b later (Some (told one.at one.reason)))
bad_by one true later is all = all
bad_by one false later is all = is

first_other : (fields : List Field) → Others fields → IsOther (first_bad fields)
first_other [] all = tt
first_other (one ∷ later) all = bad_by one one.good (first_bad later) all.0 (first_other later all.1)

block_short : reasons.Block ≡ reasons.Short → ⊥
block_short e = cc

magic_short : reasons.Magic ≡ reasons.Short → ⊥
magic_short e = cc

version_short : reasons.Version ≡ reasons.Short → ⊥
version_short e = cc

option_short : reasons.Option ≡ reasons.Short → ⊥
option_short e = cc

resolution_short : reasons.Resolution ≡ reasons.Short → ⊥
resolution_short e = cc

interface_short : reasons.Interface ≡ reasons.Short → ⊥
interface_short e = cc

length_short : reasons.Length ≡ reasons.Short → ⊥
length_short e = cc

original_short : reasons.Original ≡ reasons.Short → ⊥
original_short e = cc

time_short : reasons.Time ≡ reasons.Short → ⊥
time_short e = cc

option_other : (found : Option OptionAt) → (option_field found).reason ≡ reasons.Short → ⊥
option_other None = option_short
option_other (Some option) = option_short

resolution_other : (block : List ℕ) (found : Option OptionAt) → (resolution_field block found).reason ≡ reasons.Short → ⊥
resolution_other block None = resolution_short
resolution_other block (Some option) = resolution_short

fields_other : (kind : BlockKind) (section : Section) (big : Bool) (block : List ℕ) → Others (fields_by kind section big block)
fields_other kinds.Header section big block = (block_short, (version_short, tt))
fields_other kinds.Description section big block = (
  block_short,
  (option_other (first_option wanted.Refused big block), (resolution_other block (first_option (wanted.Code 9) big block), (interface_short, tt))),
)
fields_other kinds.Enhanced section big block = (block_short, (interface_short, (length_short, (original_short, (time_short, tt)))))
fields_other kinds.Simple section big block = (block_short, (interface_short, (length_short, (original_short, tt))))
fields_other kinds.Other section big block = (block_short, tt)

block_other : (section : Section) (block : List ℕ) → IsOther (block_refusal section block)
unfolding block_refusal
block_other section block =
    first_other (fields_by (kind_at section block) section (order_at section.big block) block) (fields_other (kind_at section block) section (order_at section.big block) block)

-- ---- the front

length_other : (kind : BlockKind) (big : Bool) (front : List ℕ) → IsOther (length_refusal kind big front)
length_other kind big front = either (is_length kind (word_at big 4 front)) None (Some (told 4 reasons.Block)) tt block_short

header_other : (front : List ℕ) → IsOther (header_opening front)
header_other front = either _ (length_refusal kinds.Header (has_mark true front) front) (Some (told 8 reasons.Magic)) (length_other kinds.Header (has_mark true front) front) magic_short

opening_other : (section : Section) (front : List ℕ) → IsOther (opening section front)
opening_other section front =
    either _ None _ tt
    (either (is_header front) _ _ (either _ None (header_opening front) tt (header_other front))
    (either section.begun _ (Some (told 0 reasons.Magic)) (either _ None (length_refusal (kind_of (word_at section.big 0 front)) section.big front) tt (length_other (kind_of (word_at section.big 0 front)) section.big front)) magic_short))

then_other : (o later : Option NgRefusal) → IsOther o → IsOther later → IsOther (or_then o later)
then_other None later is all = all
then_other (Some t) later is all = is

refusal_other : (section : Section) (bytes : List ℕ) → IsOther (refusal_of section bytes)
unfolding refusal_of
refusal_other section bytes =
    then_other (opening section (take 12 bytes)) _ (opening_other section (take 12 bytes))
    (either (is_whole section bytes) (block_refusal section (block_at section bytes)) None (block_other section (block_at section bytes)) tt)

moved_other : (place : ℕ) (o : Option NgRefusal) → IsOther o → IsOther (option_map (moved place) o)
moved_other place None is = tt
moved_other place (Some t) is = is

pub refused_not_short : (feed : Kept) (t : NgRefusal) → RefusedAt feed t → t.reason ≡ reasons.Short → ⊥
refused_not_short feed t bad =
    subst IsOther bad (moved_other feed.place (refusal_of feed.section feed.rest) (refusal_other feed.section feed.rest))
