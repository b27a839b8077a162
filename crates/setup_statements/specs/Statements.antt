-- The statements of a setup: the words that each one is spelled with, and its line.
use Rattle.std.specs.Prelude.{◌≡◌, ℕ, ◌/◌, ◌%◌, Bool, true, false, List, [], ◌∷◌, ◌++◌, codes}
use Rattle.std.specs.Fmt.{decimal}
use Rattle.text_words.specs.Numbers.{IsWithin}
use Rattle.text_words.specs.Names.{IsName}
use Rattle.text_words.specs.Hexadecimal.{hexadecimal, IsOctets}
use Rattle.text_words.specs.Addresses.{dotted, address_text, IsAddress}
use Rattle.bgp_session.specs.declared.local_sides.Local.{Local as LocalSide}
use Rattle.bgp_session.specs.LocalSide.{IsLocal}
use Rattle.sfc_routes.specs.declared.entries.ForwarderEntry.{ForwarderEntry}
use Rattle.sfc_routes.specs.declared.entries.InstanceEntry.{InstanceEntry}
use Rattle.service_functions.specs.Functions.{IsFunction}
use Rattle.classifier.specs.Rules.{IsRule}
use Rattle.setup_statements.specs.declared.keywords.Keyword.{Keyword}
use Rattle.setup_statements.specs.declared.keywords.Keyword.TheVariants as keyword
use Rattle.setup_statements.specs.declared.statements.Bound.{Bound}
use Rattle.setup_statements.specs.declared.statements.Statement.{Statement}
use Rattle.setup_statements.specs.declared.statements.Statement.TheVariants.{Local, Target, Peer, Forwarder, Ingress, Instance, Rule}
use Rattle.setup_statements.specs.Keywords.{keyword_text}
use Rattle.setup_statements.specs.FunctionText.{function_words}
use Rattle.setup_statements.specs.RuleText.{rule_words, star_or, protocol_text, TellsRule}

-- the four bytes of a number below 2 ^ 32, the highest first
abbrev pub octets_of : ℕ → List ℕ
octets_of n = n / 16777216 ∷ n / 65536 % 256 ∷ n / 256 % 256 ∷ n % 256 ∷ []

-- AS number, identifier and hold time (RFC 4271, section 4.2)
abbrev pub local_words : LocalSide → List (List ℕ)
local_words l = decimal l.asn ∷ dotted (octets_of l.id) ∷ decimal l.hold ∷ []

-- a peer's number and AS
abbrev pub IsPeer : ℕ × ℕ → Type 0
IsPeer p = IsWithin 1 65535 p.0 × IsWithin 1 4294967295 p.1

abbrev pub peer_words : ℕ × ℕ → List (List ℕ)
peer_words p = decimal p.0 ∷ decimal p.1 ∷ []

-- a forwarder's name and address
abbrev pub IsForwarder : ForwarderEntry → Type 0
IsForwarder f = IsName f.name × IsAddress f.address

abbrev pub forwarder_words : ForwarderEntry → List (List ℕ)
forwarder_words f = f.name ∷ address_text f.address ∷ []

-- whether an instance sees the header, or stands behind a proxy (RFC 7665, section 4.6)
abbrev pub mode_text : Bool → List ℕ
mode_text true = codes "proxy"
mode_text false = codes "aware"

-- an instance's name, RD (RFC 4364, section 4.2) and type (RFC 9015, section 3.1), and what serves there
abbrev pub IsInstance : InstanceEntry × Bound → Type 0
IsInstance i = IsName i.0.name × IsOctets 8 i.0.rd × IsWithin 32 65535 i.0.kind × IsFunction i.1.function

abbrev pub instance_words : InstanceEntry × Bound → List (List ℕ)
instance_words i = i.0.name ∷ hexadecimal i.0.rd ∷ decimal i.0.kind ∷ mode_text i.1.proxy ∷ function_words i.1.function

-- the first word
abbrev pub keyword_of : Statement → Keyword
keyword_of (Local l) = keyword.Local
keyword_of (Target t) = keyword.Target
keyword_of (Peer p) = keyword.Peer
keyword_of (Forwarder f) = keyword.Forwarder
keyword_of (Ingress name) = keyword.Ingress
keyword_of (Instance i bound) = keyword.Instance
keyword_of (Rule r) = keyword.Rule

-- the words behind the first one, as they are printed
abbrev pub words_behind : Statement → List (List ℕ)
words_behind (Local l) = local_words l
words_behind (Target t) = hexadecimal t ∷ []
words_behind (Peer p) = peer_words p
words_behind (Forwarder f) = forwarder_words f
words_behind (Ingress name) = name ∷ []
words_behind (Instance i bound) = instance_words (i, bound)
words_behind (Rule r) = rule_words (star_or protocol_text r.protocol) r

-- a statement whose parts have their forms and ranges; a target is any 8 bytes (RFC 4360, section 4)
abbrev pub IsStatement : Statement → Type 0
IsStatement (Local l) = IsLocal l
IsStatement (Target t) = IsOctets 8 t
IsStatement (Peer p) = IsPeer p
IsStatement (Forwarder f) = IsForwarder f
IsStatement (Ingress name) = IsName name
IsStatement (Instance i bound) = IsInstance (i, bound)
IsStatement (Rule r) = IsRule r

-- The words behind the first one tell the statement. Only a rule can be told in two ways, by the number of a protocol
-- that has a name.
abbrev pub Tells : List (List ℕ) → Statement → Type 0
Tells words (Rule r) = TellsRule words r
Tells words s = IsStatement s × (words ≡ words_behind s)

-- the words of a line spell the statement
pub record Spells (words : List (List ℕ)) (s : Statement) : Type 0 where
  pub behind : List (List ℕ)
  pub first : words ≡ keyword_text (keyword_of s) ∷ behind
  pub told : Tells behind s

-- what was written, and then words, each after a space
abbrev pub said : List ℕ → List (List ℕ) → List ℕ
said out [] = out
said out (w ∷ ws) = said (out ++ 32 ∷ w) ws

-- the line of a statement, as it is printed, without and with the byte that ends it
abbrev pub line_of : Statement → List ℕ
line_of s = said (keyword_text (keyword_of s)) (words_behind s)

abbrev pub ended_line : Statement → List ℕ
ended_line s = line_of s ++ 10 ∷ []
