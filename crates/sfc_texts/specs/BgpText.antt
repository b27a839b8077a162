-- The lines that show a stream of BGP messages (RFC 4271, section 4), and where it is refused.
use Rattle.std.specs.Prelude.{◌≡◌, ℕ, ◌+◌, ◌==◌, if◌then◌else◌, List, [], ◌∷◌, ◌++◌, length, codes, decimal}
use Rattle.std.specs.List.{flat_map}
use Rattle.bgp_messages.specs.declared.messages.Message.{Message}
use Rattle.bgp_messages.specs.declared.messages.Message.TheVariants as messages
use Rattle.bgp_messages.specs.declared.notices.Notice.{Notice}
use Rattle.bgp_messages.specs.declared.opens.Open.{Open}
use Rattle.bgp_messages.specs.declared.opens.Capability.{Capability}
use Rattle.wire_base.specs.Numbers.{four}
use Rattle.bgp_messages.specs.Opens.{capabilities_of, peer_as_of}
use Rattle.bgp_messages.specs.Messages.{spelling, Fits}
use Rattle.bgp_messages.specs.Refusals.{Told, Held, Refused as RefusedMessage}
use Rattle.bgp_update.specs.declared.attributes.Attribute.{Attribute}
use Rattle.bgp_update.specs.declared.updates.Update.{Update}
use Rattle.bgp_update.specs.Attributes.{body_bytes}
use Rattle.bgp_update.specs.Updates.{IsUpdate}
use Rattle.bgp_update.specs.Refusals.{Refused as RefusedUpdate}
use Rattle.text_words.specs.Addresses.{dotted}
use Rattle.text_words.specs.Hexadecimal.{hexadecimal}
use Rattle.sfc_texts.specs.NshText.{field, line_end, octets_field, code_text}
use Rattle.wire_base.specs.CodeNames.{attribute_rows}

-- ---- OPEN

-- a capability by its number and its body
abbrev pub capability_text : Capability → List ℕ
capability_text c = decimal c.code ++ octets_field (codes ":") c.body

-- and a comma before it
abbrev pub further_capability : Capability → List ℕ
further_capability c = codes "," ++ capability_text c

-- capabilities in order, joined by commas, or a dash for none
abbrev pub capabilities_text : List Capability → List ℕ
capabilities_text [] = codes "-"
capabilities_text (c ∷ cs) = capability_text c ++ flat_map further_capability cs

-- the identifier as four numbers
unfoldable pub identifier_text : ℕ → List ℕ
identifier_text id = codes " id=" ++ dotted (four id)

-- the AS by the capability of 4 bytes where there is one, the hold time, the identifier and the capabilities of all parameters
abbrev pub open_line : Open → List ℕ
open_line o =
    field (codes "open as=") (peer_as_of o) ++ field (codes " hold=") o.hold ++ identifier_text o.id ++ codes " capabilities=" ++ capabilities_text (capabilities_of o.params) ++ line_end

-- ---- KEEPALIVE and NOTIFICATION

abbrev pub keep_alive_line : List ℕ
keep_alive_line = codes "keepalive" ++ line_end

-- code, subcode and data
abbrev pub notification_line : Notice → List ℕ
notification_line n = field (codes "notification ") n.code ++ field (codes " ") n.subcode ++ octets_field (codes " ") n.info ++ line_end

-- ---- UPDATE

-- a kind of attribute (RFC 4271, section 5)
abbrev pub attribute_name : ℕ → List ℕ
attribute_name kind = code_text attribute_rows kind

-- flags in two digits, a name and the bytes of a value
abbrev pub value_line : ℕ → ℕ → List ℕ → List ℕ
value_line flags kind value =
    codes "attribute " ++ hexadecimal (flags ∷ []) ++ codes " " ++ attribute_name kind ++ octets_field (codes " ") value ++ line_end

-- an attribute: its flags, its name and its value
abbrev pub attribute_line : Attribute → List ℕ
attribute_line a = value_line a.flags a.kind (body_bytes a.body)

-- an update, and each of its attributes in order
abbrev pub update_lines : Update → List ℕ
update_lines u = codes "update" ++ line_end ++ flat_map attribute_line u.attributes

-- ---- a stream

-- the lines that show a message; an UPDATE's content is that of the update that is shown
abbrev pub ShowsMessage : Message → List ℕ → Type 0
ShowsMessage (messages.Open o) text = text ≡ open_line o
ShowsMessage (messages.Update body) text = (u : Update) × IsUpdate body u × (text ≡ update_lines u)
ShowsMessage (messages.Notification n) text = text ≡ notification_line n
ShowsMessage messages.KeepAlive text = text ≡ keep_alive_line

-- what is refused: code and subcode of the NOTIFICATION that it would be told by, and the place in the stream
abbrev pub refused_line : ℕ → ℕ → ℕ → List ℕ
refused_line code subcode place = field (codes "refused ") code ++ field (codes " ") subcode ++ field (codes " ") place ++ line_end

-- how many bytes are no whole message; nothing where there are none
abbrev pub rest_line : ℕ → List ℕ
rest_line n = if n == 0 then [] else field (codes "rest ") n ++ line_end

-- The text shows the rest of a stream, which begins at the place: the message that it begins with and what follows it, or,
-- where it begins with none, the rest or why it is refused. The content of an UPDATE begins 19 bytes behind its message.
pub data ShowsFrom : ℕ → List ℕ → List ℕ → Type 0 where
  message : (place : ℕ) (m : Message) (stream more shown later text : List ℕ) → Fits m → stream ≡ spelling m ++ more → ShowsMessage m shown
      → ShowsFrom (place + length (spelling m)) more later → text ≡ shown ++ later → ShowsFrom place stream text
  bad_update : (place : ℕ) (body stream more text : List ℕ) (inside : ℕ) → Fits (messages.Update body) → stream ≡ spelling (messages.Update body) ++ more
      → RefusedUpdate body inside → text ≡ refused_line 3 1 (place + 19 + inside) → ShowsFrom place stream text
  refusal : (place : ℕ) (stream text : List ℕ) (told : Told) → RefusedMessage stream told → text ≡ refused_line told.code told.subcode (place + told.place)
      → ShowsFrom place stream text
  rest : (place : ℕ) (stream text : List ℕ) → Held stream → text ≡ rest_line (length stream) → ShowsFrom place stream text

-- the text shows the whole stream
abbrev pub ShowsBgp : List ℕ → List ℕ → Type 0
ShowsBgp stream text = ShowsFrom 0 stream text
