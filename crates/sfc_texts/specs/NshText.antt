-- The lines that show a Network Service Header (RFC 8300, section 2) and what follows it, or why bytes are no header.
use Rattle.std.specs.Prelude.{◌≡◌, ℕ, ◌-◌, List, [], ◌∷◌, ◌++◌, length, codes, decimal}
use Rattle.std.specs.List.{flat_map}
use Rattle.std.specs.Option.{unwrap_or}
use Rattle.wire_base.specs.Codes.{Row, name_in}
use Rattle.wire_base.specs.CodeNames.{next_protocol_rows}
use Rattle.nsh_headers.specs.declared.faults.NshFault.{NshFault}
use Rattle.nsh_headers.specs.declared.faults.NshFault.TheVariants.{Short, Version, MdType, Length, Context as PastEnd}
use Rattle.nsh_headers.specs.declared.heads.Base.{Base}
use Rattle.nsh_headers.specs.declared.heads.ServicePath.{ServicePath}
use Rattle.nsh_headers.specs.declared.heads.NshHead.{NshHead}
use Rattle.nsh_headers.specs.Head.{bit}
use Rattle.nsh_metadata.specs.declared.contexts.Context.{Context}
use Rattle.nsh_metadata.specs.declared.contexts.Context.TheVariants.{Fixed16, Items}
use Rattle.nsh_metadata.specs.Header.{Header, BeginsWith}
use Rattle.nsh_metadata.specs.Item.{Item}
use Rattle.nsh_metadata.specs.Refusal.{Refused}
use Rattle.text_words.specs.Hexadecimal.{hexadecimal, four_digits, octets_or_dash}

-- a label and a number behind it
abbrev pub field : List ℕ → ℕ → List ℕ
field label n = label ++ decimal n

-- the byte that ends a line
abbrev pub line_end : List ℕ
line_end = 10 ∷ []

-- a code by its name in a table, and one without a name by its number
abbrev pub code_text : List Row → ℕ → List ℕ
code_text rows code = unwrap_or (name_in rows code) (decimal code)

-- a Next Protocol (RFC 8300, section 2.2)
abbrev pub protocol_text : ℕ → List ℕ
protocol_text n = code_text next_protocol_rows n

-- the base header: O, TTL, Length in words, MD Type and Next Protocol (RFC 8300, section 2.2)
abbrev pub base_text : Base → List ℕ
base_text b =
    field (codes "nsh o=") (bit b.oam) ++ field (codes " ttl=") b.ttl ++ field (codes " words=") b.words
    ++ field (codes " md=") b.md ++ codes " next=" ++ protocol_text b.next

-- the service path header: SPI and SI (RFC 8300, section 2.3)
abbrev pub path_text : ServicePath → List ℕ
path_text p = field (codes " spi=") p.spi ++ field (codes " si=") p.si

-- the unassigned bits of the base header: the one behind O, and the 4 before the MD Type as a number
abbrev pub spare_text : Base → List ℕ
spare_text b = field (codes " spare=") (bit b.spare1) ++ field (codes "/") b.spare4

-- a label and bytes behind it as digits, or a dash for none
abbrev pub octets_field : List ℕ → List ℕ → List ℕ
octets_field label bytes = label ++ octets_or_dash bytes

-- the class of a context item
unfoldable pub class_text : ℕ → List ℕ
class_text class = codes "item class=" ++ four_digits class

-- what a context item is: its class, type and unassigned bit (RFC 8300, section 2.5.1)
abbrev pub kind_text : Item → List ℕ
kind_text i = class_text i.class ++ field (codes " kind=") i.kind ++ field (codes " spare=") (bit i.spare)

-- a context item with its body and its pad
abbrev pub item_line : Item → List ℕ
item_line i = kind_text i ++ octets_field (codes " body=") i.body ++ octets_field (codes " pad=") i.pad ++ line_end

-- the context: the 16 bytes of MD Type 1, or the items of MD Type 2, in order, a line each
abbrev pub context_lines : Context → List ℕ
context_lines (Fixed16 bytes) = codes "fixed " ++ hexadecimal bytes ++ line_end
context_lines (Items items) = flat_map item_line items

-- how many bytes follow the header
abbrev pub payload_line : ℕ → List ℕ
payload_line n = field (codes "payload ") n ++ line_end

-- the first 8 bytes
abbrev pub head_line : NshHead → List ℕ
head_line h = base_text h.base ++ path_text h.path ++ spare_text h.base ++ line_end

-- a header, with n bytes behind it
abbrev pub header_lines : Header → ℕ → List ℕ
header_lines h n = head_line h.head ++ context_lines h.context ++ payload_line n

-- a refusal: what is refused, and its number or place
abbrev pub fault_text : NshFault → List ℕ
fault_text (Short n) = field (codes "short ") n
fault_text (Version n) = field (codes "version ") n
fault_text (MdType n) = field (codes "md-type ") n
fault_text (Length n) = field (codes "length ") n
fault_text (PastEnd place) = field (codes "context ") place

abbrev pub refusal_line : NshFault → List ℕ
refusal_line f = codes "refused " ++ fault_text f ++ line_end

-- The text shows the bytes: the lines of the header that they begin with and of what follows it, or, where
-- they begin with none, the line of their refusal.
pub data ShowsNsh (bytes text : List ℕ) : Type 0 where
  header : (h : Header) (n : ℕ) → BeginsWith bytes h n → text ≡ header_lines h (length bytes - n) → ShowsNsh bytes text
  refusal : (f : NshFault) → Refused bytes f → text ≡ refusal_line f → ShowsNsh bytes text
