-- The rule at the loop's place decides where it matches; where it does not, no rule before the next place matches.
use Rattle.std.proofs.Common.{ℕ, subst, sym, ◌∙◌, get_or, below_more, MatchBool}
use Rattle.std.proofs.lemmas.List.{get_or_default}
use Rattle.classifier.specs.Matching.{Matches}
use Rattle.classifier.proofs.RuleLemmas.{decided}
use Rattle.classifier.proofs.rule_lists.rule_on.Goals as goal

pub returns-then-is_match-clause-value : goal.returns-then-is_match-clause-value
returns-then-is_match-clause-value c =
    let matching = subst (λ b. MatchBool b (Matches c.rule-item.result c.args.fields.now) (¬ (Matches c.rule-item.result c.args.fields.now))) c.if-is_match.true c.is_match.ensures in
    decided c.args.rules.now c.args.fields.now c.loop-rule.rule-index c.rule-item.result c.verdict_by.result
    c.loop-rule-test.true c.rule-item.is c.loop-rule.invariant matching c.verdict_by.ensures.value

pub loop-rule-preserved : goal.loop-rule-preserved
loop-rule-preserved c = λ k d lt.
    let P : ℕ → Type 0 = λ k. Matches (get_or c.args.rules.now k d) c.args.fields.now → ⊥ in
    let unmatched = subst (λ b. MatchBool b (Matches c.rule-item.result c.args.fields.now) (¬ (Matches c.rule-item.result c.args.fields.now))) c.if-is_match.false c.is_match.ensures in
    below_more P _ (λ k lt. c.loop-rule.invariant k d lt) (λ matching.
    let same = get_or_default c.args.rules.now c.loop-rule.rule-index d c.rule-item.result c.loop-rule-test.true in
    unmatched (subst (λ r. Matches r c.args.fields.now) (same ∙ sym c.rule-item.is) matching)) k lt
