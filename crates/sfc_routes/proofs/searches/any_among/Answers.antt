-- What holds of no target before a place, and not of the target there, holds of none before the next place.
use Rattle.std.proofs.Common.{◌∙◌, sym, ℕ, [], get_or, subst, arith, below_more}
use Rattle.std.specs.List.{Contains}
use Rattle.std.proofs.lemmas.List.{get_or_default}
use Rattle.sfc_routes.proofs.searches.any_among.Goals as goal

pub loop-target-preserved : goal.loop-target-preserved
loop-target-preserved c = λ k d lt.
    let P : ℕ → Type 0 = λ k. Contains c.args.own.now (get_or c.args.targets.now k d) → ⊥ in
    below_more P _ (λ k lt. c.loop-target.invariant k d lt) (λ has.
    let same = get_or_default c.args.targets.now c.loop-target.target-index d c.target-item.result c.loop-target-test.true in
    let yes = c.is_among.ensures.1 (subst (Contains c.args.own.now) (same ∙ sym c.target-item.is) has) in
    let no = c.if-is_among.false in
    cc) k lt

pub returns : goal.returns
returns c = (λ no. absurd cc, λ has. absurd (c.loop-target.invariant has.0 [] (omega (arith, has.1.0, c.loop-target-test.false)) (has.1.1 [])))
