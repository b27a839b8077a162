-- no rule before the place matches
use Rattle.std.proofs.Common.{ℕ, ◌<◌, slice_index_or}
use Rattle.classifier.specs.declared.rules.Rule.{Rule}
use Rattle.classifier.specs.Matching.{Matches}
use Rattle.classifier.proofs.rule_lists.rule_on.Given as goal

abbrev pub invariant-loop-rule : goal.invariant-loop-rule
invariant-loop-rule l = (k : ℕ) (d : Rule) → k < l.rule-index → Matches (slice_index_or l.rules k d) l.fields → ⊥
