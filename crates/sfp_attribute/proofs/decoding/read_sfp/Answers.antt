-- One part more fits behind those before, or what it is refused for is told; at the end there was a hop, or none.
use Rattle.std.proofs.Common.{ℕ, List, [], ◌∷◌, ◌++◌, sym, subst, inr}
use Rattle.std.proofs.lemmas.Bool.{eqb-true}
use Rattle.std.proofs.lemmas.Result.{err_from_is_err_and}
use Rattle.sfp_attribute.specs.declared.sfps.Part.{Part}
use Rattle.sfp_attribute.proofs.StepLemmas.{ReadSoFar, part_step, inside_refused, no_hop}
use Rattle.sfp_attribute.proofs.decoding.read_sfp.Goals as goal

pub returns-in_err-part : goal.returns-in_err-part
returns-in_err-part c =
    let p = err_from_is_err_and c.from_residual-in_err-part.result c.from_residual-in_err-part.ensures.1 in
    let piece = c.in_ok-piece.piece in
    rw (p.1, p.2) (inside_refused c.args.value.now c.loop-rest.parts c.loop-rest.rest.now c.loop-rest.bound piece.kind piece.value.now piece.rest.now _
    c.loop-rest.invariant c.in_ok-piece.ensures.part c.in_err-part.ensures)

pub loop-rest-preserved : goal.loop-rest-preserved
loop-rest-preserved c =
    let part = c.in_ok-part.part in
    let piece = c.in_ok-piece.piece in
    subst (λ (l : List Part). ReadSoFar c.args.value.now l piece.rest.now c.bound_behind-bound.result) (sym c.in_ok-push.ensures.ok)
    (subst (λ (b : ℕ). ReadSoFar c.args.value.now (c.loop-rest.parts ++ part ∷ []) piece.rest.now b) (sym c.bound_behind-bound.ensures)
    (part_step c.args.value.now c.loop-rest.parts c.loop-rest.rest.now c.loop-rest.bound part piece.kind piece.value.now piece.rest.now
    c.loop-rest.invariant c.in_ok-piece.ensures.part.parts c.in_ok-part.ensures))

pub returns-then-bound-eq-FIRST_BOUND : goal.returns-then-bound-eq-FIRST_BOUND
returns-then-bound-eq-FIRST_BOUND c =
    inr (inr (no_hop c.args.value.now c.loop-rest.parts c.loop-rest.rest.now c.loop-rest.bound c.loop-rest.invariant
    (eqb-true _ 0 (sym c.loop-rest-test.ensures)) c.if-bound-eq-FIRST_BOUND.true))
