-- What a setup says, and what it keeps of it.
use Rattle.std.specs.Prelude.{◌≡◌, ◌≢◌, ℕ, ◌<◌, ◌≤◌, ◌&&◌, false, List, length, All}
use Rattle.std.specs.List.{AllPairs}
use Rattle.wire_base.specs.declared.ids.ForwarderId.{ForwarderId}
use Rattle.text_words.specs.Numbers.{IsWithin}
use Rattle.bgp_session.specs.declared.local_sides.Local.{Local}
use Rattle.bgp_session.specs.LocalSide.{IsLocal}
use Rattle.sfc_routes.specs.Entries.{Entries, IsRoster}
use Rattle.service_functions.specs.Functions.{IsFunction, on_metadata}
use Rattle.classifier.specs.declared.rules.Rule.{Rule}
use Rattle.classifier.specs.Rules.{AreRules}
use Rattle.setup_statements.specs.declared.statements.Bound.{Bound}
use Rattle.setup_statements.specs.Statements.{IsPeer}

-- the parts of a setup; an instance's number is its place in both lists
pub record Parts : Type 0 where
  pub local : Local
  pub peers : List (ℕ × ℕ)
  pub roster : Entries
  pub ingress : ForwarderId
  pub instances : List Bound
  pub rules : List Rule

-- no proxy has a function on metadata, which must see the header
abbrev pub FitsMode : Bound → Type 0
FitsMode b = (b.proxy && on_metadata b.function) ≡ false

-- what a setup keeps: ranges, counts, that numbers and names differ, and that what it refers to is there
pub record AreParts (p : Parts) : Type 0 where
  pub local_fits : IsLocal p.local
  pub peers_fit : All IsPeer p.peers
  pub few_peers : length p.peers ≤ 16
  pub peers_differ : AllPairs (λ q r. q.0 ≢ r.0) p.peers
  pub roster_fits : IsRoster p.roster
  pub kinds_fit : All (λ i. IsWithin 32 65535 i.kind) p.roster.instances
  pub ingress_known : p.ingress.0 < length p.roster.forwarders
  pub all_bound : length p.instances ≡ length p.roster.instances
  pub functions_fit : All (λ b. IsFunction b.function) p.instances
  pub modes_fit : All FitsMode p.instances
  pub rules_fit : AreRules p.rules
