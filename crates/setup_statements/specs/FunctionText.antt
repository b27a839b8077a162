-- The words of a function: its own word, and what it is told.
use Rattle.std.specs.Prelude.{ℕ, ◌==◌, if◌then◌else◌, List, [], ◌∷◌, codes}
use Rattle.std.specs.Fmt.{decimal}
use Rattle.net_frames.specs.declared.contents.Side.{Side}
use Rattle.net_frames.specs.declared.contents.Side.TheVariants.{Source, Destination}
use Rattle.arrayvec.specs.ArrayVec.{ArrayVec}
use Rattle.text_words.specs.Hexadecimal.{four_digits, octets_or_dash}
use Rattle.text_words.specs.Addresses.{dotted}
use Rattle.service_functions.specs.declared.functions.Function.{Function}
use Rattle.service_functions.specs.declared.functions.Function.TheVariants.{Pass, Firewall, Remark, Nat, HopLimit, PushVlan, PopVlan, Stamp, RequireMeta, ClearMeta}
use Rattle.setup_statements.specs.declared.keywords.FunctionWord.{FunctionWord}
use Rattle.setup_statements.specs.declared.keywords.FunctionWord.TheVariants as function
use Rattle.setup_statements.specs.Keywords.{function_word_text}

-- TCP (6) and UDP (17) by their names
abbrev pub port_protocol : ℕ → List ℕ
port_protocol p = if p == 6 then codes "tcp" else codes "udp"

-- one end of a packet's way
abbrev pub side_text : Side → List ℕ
side_text Source = codes "source"
side_text Destination = codes "destination"

-- what a firewall is told: a protocol with ports, and the lowest and the highest port
abbrev pub firewall_words : ℕ × ℕ × ℕ → List (List ℕ)
firewall_words t = port_protocol t.0 ∷ decimal t.1 ∷ decimal t.2 ∷ []

-- what address translation is told: the side, the address there, and the one in its place
abbrev pub nat_words : Side × List ℕ × List ℕ → List (List ℕ)
nat_words t = side_text t.0 ∷ dotted t.1 ∷ dotted t.2 ∷ []

-- a context item's class and type
abbrev pub meta_words : ℕ × ℕ → List (List ℕ)
meta_words t = four_digits t.0 ∷ decimal t.1 ∷ []

-- a whole context item: its class, its type and its body
abbrev pub stamp_words : ℕ × ℕ × ArrayVec ℕ → List (List ℕ)
stamp_words t = four_digits t.0 ∷ decimal t.1 ∷ octets_or_dash t.2.items ∷ []

-- the word of a function
abbrev pub word_of : Function → FunctionWord
word_of Pass = function.Pass
word_of (Firewall p low high) = function.Firewall
word_of (Remark dscp) = function.Remark
word_of (Nat side from to) = function.Nat
word_of HopLimit = function.HopLimit
word_of (PushVlan vid) = function.PushVlan
word_of PopVlan = function.PopVlan
word_of (Stamp class kind body) = function.Stamp
word_of (RequireMeta class kind) = function.RequireMeta
word_of ClearMeta = function.ClearMeta

-- what a function is told, behind its word
abbrev pub told_words : Function → List (List ℕ)
told_words Pass = []
told_words (Firewall p low high) = firewall_words (p, low, high)
told_words (Remark dscp) = decimal dscp ∷ []
told_words (Nat side from to) = nat_words (side, from, to)
told_words HopLimit = []
told_words (PushVlan vid) = decimal vid ∷ []
told_words PopVlan = []
told_words (Stamp class kind body) = stamp_words (class, kind, body)
told_words (RequireMeta class kind) = meta_words (class, kind)
told_words ClearMeta = []

-- all words of a function
abbrev pub function_words : Function → List (List ℕ)
function_words f = function_word_text (word_of f) ∷ told_words f
