-- The ranges of a rule (the fields that it asks for, and what it does with a frame that has them).
use Rattle.std.specs.Prelude.{◌≡◌, ℕ, ◌<◌, ◌≤◌, ◌^◌, List, [], length, All, Option, Some, None}
use Rattle.wire_base.specs.declared.next_hops.NextHop.{NextHop}
use Rattle.wire_base.specs.declared.next_hops.NextHop.TheVariants.{Four, Sixteen}
use Rattle.nsh_metadata.specs.declared.contexts.Context.{Context}
use Rattle.nsh_metadata.specs.declared.contexts.Context.TheVariants.{Fixed16, Items}
use Rattle.text_words.specs.Hexadecimal.{IsOctets}
use Rattle.text_words.specs.Addresses.{IsAddress}
use Rattle.classifier.specs.declared.rules.Prefix.{Prefix}
use Rattle.classifier.specs.declared.rules.Rule.{Rule}
use Rattle.classifier.specs.declared.rules.Action.{Action}
use Rattle.classifier.specs.declared.rules.Action.TheVariants.{Path, Bypass, Refuse}

-- a part that is asked for fits; one that is not always does
abbrev pub FitsIfAsked : {X : Type 0} → (X → Type 0) → Option X → Type 0
FitsIfAsked P None = Unit {0}
FitsIfAsked P (Some x) = P x

-- the bits that an address has
abbrev pub address_bits : NextHop → ℕ
address_bits (Four octets) = 32
address_bits (Sixteen octets) = 128

-- an address and at most as many bits as it has
abbrev pub IsPrefix : Prefix → Type 0
IsPrefix p = IsAddress p.address × (p.bits ≤ address_bits p.address)

-- a range of ports
abbrev pub IsPorts : ℕ × ℕ → Type 0
IsPorts p = (p.0 ≤ p.1) × (p.1 ≤ 65535)

-- the context that a rule may give: no items, or 16 bytes
abbrev pub IsRuleContext : Context → Type 0
IsRuleContext (Fixed16 bytes) = IsOctets 16 bytes
IsRuleContext (Items items) = items ≡ []

-- a path's SPI, SI from 1 to 255, TTL from 1 to 63 and context
abbrev pub IsAction : Action → Type 0
IsAction (Path spi si ttl context) = (spi < 2 ^ 24) × ((1 ≤ si) × (si ≤ 255)) × ((1 ≤ ttl) × (ttl ≤ 63)) × IsRuleContext context
IsAction Bypass = Unit {0}
IsAction Refuse = Unit {0}

-- a rule whose parts are in their ranges
pub record IsRule (r : Rule) : Type 0 where
  pub vlan : FitsIfAsked (λ v. v ≤ 4095) r.vlan
  pub from_fits : FitsIfAsked IsPrefix r.from
  pub to_fits : FitsIfAsked IsPrefix r.to
  pub protocol : FitsIfAsked (λ p. p ≤ 255) r.protocol
  pub ports : FitsIfAsked IsPorts r.ports
  pub action : IsAction r.action

-- what a list of rules keeps
pub record AreRules (rules : List Rule) : Type 0 where
  pub each : All IsRule rules
  pub few : length rules ≤ 256
