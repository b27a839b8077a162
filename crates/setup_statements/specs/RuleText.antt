-- The words of a rule: a star where a field is not asked for, and what a frame with the fields gets.
use Rattle.std.specs.Prelude.{◌≡◌, ℕ, ◌≤◌, ◌⊎◌, true, if◌then◌else◌, List, [], ◌∷◌, ◌++◌, Option, Some, None, codes}
use Rattle.std.specs.Fmt.{decimal}
use Rattle.nsh_metadata.specs.declared.contexts.Context.{Context}
use Rattle.nsh_metadata.specs.declared.contexts.Context.TheVariants.{Fixed16, Items}
use Rattle.text_words.specs.Hexadecimal.{hexadecimal}
use Rattle.text_words.specs.Addresses.{address_text}
use Rattle.service_functions.specs.Functions.{has_ports}
use Rattle.classifier.specs.Rules.{IsRule}
use Rattle.classifier.specs.declared.rules.Prefix.{Prefix}
use Rattle.classifier.specs.declared.rules.Rule.{Rule}
use Rattle.classifier.specs.declared.rules.Action.{Action}
use Rattle.classifier.specs.declared.rules.Action.TheVariants.{Path, Bypass, Refuse}
use Rattle.setup_statements.specs.FunctionText.{port_protocol}

-- a part that is asked for, or a star
abbrev pub star_or : {X : Type 0} → (X → List ℕ) → Option X → List ℕ
star_or spelling None = codes "*"
star_or spelling (Some x) = spelling x

-- an address, a slash and how many of its bits are compared
abbrev pub prefix_text : Prefix → List ℕ
prefix_text p = address_text p.address ++ 47 ∷ decimal p.bits

-- the lowest and the highest port with a dash between them
abbrev pub ports_text : ℕ × ℕ → List ℕ
ports_text p = decimal p.0 ++ 45 ∷ decimal p.1

-- TCP and UDP are printed by their names, every other protocol by its number
abbrev pub protocol_text : ℕ → List ℕ
protocol_text p = if has_ports p then port_protocol p else decimal p

-- A protocol may be read by its number also where it has a name.
abbrev pub IsProtocolText : Option ℕ → List ℕ → Type 0
IsProtocolText None word = word ≡ codes "*"
IsProtocolText (Some p) word = (p ≤ 255) × ((word ≡ decimal p) ⊎ ((has_ports p ≡ true) × (word ≡ port_protocol p)))

-- the context that a path begins with
abbrev pub context_text : Context → List ℕ
context_text (Fixed16 bytes) = codes "md1:" ++ hexadecimal bytes
context_text (Items items) = codes "md2"

-- a path's SPI, SI, TTL and context
abbrev pub path_words : ℕ × ℕ × ℕ × Context → List (List ℕ)
path_words p = decimal p.0 ∷ decimal p.1 ∷ decimal p.2 ∷ context_text p.3 ∷ []

-- what a frame gets
abbrev pub action_words : Action → List (List ℕ)
action_words (Path spi si ttl context) = codes "path" ∷ path_words (spi, si, ttl, context)
action_words Bypass = codes "bypass" ∷ []
action_words Refuse = codes "refuse" ∷ []

-- the words of a rule, with the word of its protocol
abbrev pub rule_words : List ℕ → Rule → List (List ℕ)
rule_words protocol r =
    star_or decimal r.vlan ∷ star_or prefix_text r.from ∷ star_or prefix_text r.to
    ∷ protocol ∷ star_or ports_text r.ports ∷ action_words r.action

-- the words tell the rule, whose parts are in their ranges
pub record TellsRule (words : List (List ℕ)) (r : Rule) : Type 0 where
  pub fits : IsRule r
  pub protocol : List ℕ
  pub protocol_told : IsProtocolText r.protocol protocol
  pub told : words ≡ rule_words protocol r
