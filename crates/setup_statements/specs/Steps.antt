-- What the readers of parts of a statement answer, step by step. The grammar does not stand on it.
use Rattle.std.specs.Prelude.{◌≡◌, ℕ, ◌≤◌, ◌<◌, ◌^◌, true, List, [], ◌∷◌}
use Rattle.std.specs.Fmt.{decimal}
use Rattle.net_frames.specs.declared.contents.Side.{Side}
use Rattle.arrayvec.specs.ArrayVec.{ArrayVec}
use Rattle.nsh_metadata.specs.declared.contexts.Context.{Context}
use Rattle.text_words.specs.Hexadecimal.{IsOctets, IsUpToOctets}
use Rattle.text_words.specs.Addresses.{address_text}
use Rattle.service_functions.specs.Functions.{has_ports, IsFunction}
use Rattle.service_functions.specs.declared.functions.Function.{Function}
use Rattle.classifier.specs.Rules.{IsAction}
use Rattle.classifier.specs.declared.rules.Prefix.{Prefix}
use Rattle.classifier.specs.declared.rules.Action.TheVariants.{Path}
use Rattle.setup_statements.specs.declared.keywords.FunctionWord.{FunctionWord}
use Rattle.setup_statements.specs.FunctionText.{word_of}

-- what a firewall is told: a protocol with ports, and the lowest and the highest port, in its ranges
abbrev pub IsFirewall : ℕ × ℕ × ℕ → Type 0
IsFirewall t = (has_ports t.0 ≡ true) × (t.1 ≤ t.2) × (t.2 ≤ 65535)

-- what address translation is told: the side, the address there, and the one in its place, in its ranges
abbrev pub IsNat : Side × List ℕ × List ℕ → Type 0
IsNat t = IsOctets 4 t.1 × IsOctets 4 t.2

-- a context item's class and type, in its ranges
abbrev pub IsMeta : ℕ × ℕ → Type 0
IsMeta t = (t.0 < 2 ^ 16) × (t.1 ≤ 255)

-- a whole context item: its class, its type and its body, in its ranges
abbrev pub IsStamp : ℕ × ℕ × ArrayVec ℕ → Type 0
IsStamp t = (t.0 < 2 ^ 16) × (t.1 ≤ 255) × IsUpToOctets 127 t.2.items

-- a function with this word, in its ranges
abbrev pub IsFunctionOf : FunctionWord → Function → Type 0
IsFunctionOf word f = (word_of f ≡ word) × IsFunction f

-- the two parts of a network, and of a range of ports
abbrev pub prefix_parts : Prefix → List (List ℕ)
prefix_parts p = address_text p.address ∷ decimal p.bits ∷ []

abbrev pub ports_parts : ℕ × ℕ → List (List ℕ)
ports_parts p = decimal p.0 ∷ decimal p.1 ∷ []

-- a path's SPI, SI, TTL and context, in their ranges
abbrev pub IsPath : ℕ × ℕ × ℕ × Context → Type 0
IsPath p = IsAction (Path p.0 p.1 p.2 p.3)
