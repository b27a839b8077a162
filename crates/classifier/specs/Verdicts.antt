-- The verdict on a frame: NSH at the ingress, else what the first rule that matches does, else bypass.
use Rattle.std.specs.Prelude.{◌≡◌, ℕ, ◌<◌, ◌≤◌, ◌^◌, ◌⊎◌, List, ◌∷◌, ◌++◌, All, Some}
use Rattle.net_frames.specs.declared.contents.Fields.{Fields}
use Rattle.net_frames.specs.Contents.{fields_of}
use Rattle.classifier.specs.declared.rules.Rule.{Rule}
use Rattle.classifier.specs.declared.rules.Action.{Action}
use Rattle.classifier.specs.declared.rules.Action.TheVariants as Does
use Rattle.classifier.specs.declared.verdicts.Verdict.{Verdict}
use Rattle.classifier.specs.declared.verdicts.Verdict.TheVariants.{Path, Bypass, Refuse, NshIngress}
use Rattle.classifier.specs.Rules.{IsRuleContext}
use Rattle.classifier.specs.Matching.{Matches}

-- the verdict that a rule's action gives
abbrev pub verdict_of : Action → Verdict
verdict_of (Does.Path spi si ttl context) = Path spi si ttl context
verdict_of Does.Bypass = Bypass
verdict_of Does.Refuse = Refuse

-- the frame bears NSH behind its Ethernet header, whose type is then 894F (RFC 8300, section 10.1)
abbrev pub BearsNsh : Fields → Type 0
BearsNsh f = f.ether ≡ Some 0x894F

-- a rule of the list matches, and every earlier one does not
pub record Decides (rules : List Rule) (f : Fields) (rule : Rule) : Type 0 where
  pub earlier : List Rule
  pub later : List Rule
  pub listed : rules ≡ earlier ++ rule ∷ later
  pub matching : Matches rule f
  pub unmatched : All (λ r. ¬ (Matches r f)) earlier

-- the verdict is that of the rule that decides
pub record Decided (rules : List Rule) (f : Fields) (verdict : Verdict) : Type 0 where
  pub rule : Rule
  pub decides : Decides rules f rule
  pub value : verdict ≡ verdict_of rule.action

-- no rule matches, and the frame is let out as it is
pub record Undecided (rules : List Rule) (f : Fields) (verdict : Verdict) : Type 0 where
  pub unmatched : All (λ r. ¬ (Matches r f)) rules
  pub value : verdict ≡ Bypass

-- what the rules say, where the frame does not bear NSH
abbrev pub Ruled : List Rule → Fields → Verdict → Type 0
Ruled rules f verdict = Decided rules f verdict ⊎ Undecided rules f verdict

-- the verdict on a frame with these captured bytes
abbrev pub Start : List Rule → List ℕ → Verdict → Type 0
Start rules bytes verdict = let f = fields_of bytes in
    (BearsNsh f × (verdict ≡ NshIngress)) ⊎ (¬ (BearsNsh f) × Ruled rules f verdict)

-- the ranges of a path's SPI, SI and TTL, and its context: no items, or 16 bytes
abbrev pub IsVerdict : Verdict → Type 0
IsVerdict (Path spi si ttl context) = (spi < 2 ^ 24) × ((1 ≤ si) × (si ≤ 255)) × ((1 ≤ ttl) × (ttl ≤ 63)) × IsRuleContext context
IsVerdict Bypass = Unit {0}
IsVerdict Refuse = Unit {0}
IsVerdict NshIngress = Unit {0}
