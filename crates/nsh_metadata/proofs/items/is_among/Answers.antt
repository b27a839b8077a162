use Rattle.std.proofs.Common.{arith, sym, ap, ◌∙◌, subst, drop, List, ℕ}
use Rattle.nsh_metadata.proofs.ChangeLemmas.{Left, left_all, begins, found, passed, none_left}
use Rattle.nsh_metadata.proofs.items.is_among.Goals as goal

-- all is left
pub loop-rest-init : goal.loop-rest-init
loop-rest-init c = left_all _ _ _ c.requires

-- some bytes are left, so an item stands at the front
pub is_at-requires : goal.is_at-requires
is_at-requires c = (begins _ _ _ _ c.loop-rest.invariant (sym c.loop-rest-test.true ∙ c.is_empty.ensures)).long

pub returns-then-is_at : goal.returns-then-is_at
returns-then-is_at c = found _ _ _ _ (begins _ _ _ _ c.loop-rest.invariant (sym c.loop-rest-test.true ∙ c.is_empty.ensures)) (sym c.is_at.ensures ∙ c.if-is_at.true)

pub size_at-requires : goal.size_at-requires
size_at-requires c = (begins _ _ _ _ c.loop-rest.invariant (sym c.loop-rest-test.true ∙ c.is_empty.ensures)).long

pub split_at-requires : goal.split_at-requires
split_at-requires c =
    let front = begins _ _ _ _ c.loop-rest.invariant (sym c.loop-rest-test.true ∙ c.is_empty.ensures) in
    omega (arith, front.within, c.size_at.ensures.size)

-- behind it the others are left
pub loop-rest-preserved : goal.loop-rest-preserved
loop-rest-preserved c =
    let front = begins _ _ _ _ c.loop-rest.invariant (sym c.loop-rest-test.true ∙ c.is_empty.ensures) in
    subst (λ (t : List ℕ). Left c.args.bytes.now t c.args.class c.args.kind) (ap (λ (n : ℕ). drop n c.loop-rest.rest.now) (sym c.size_at.ensures.size) ∙ sym c.split_at.ensures.back)
    (passed _ _ _ _ front (sym c.is_at.ensures ∙ c.if-is_at.false))

pub returns : goal.returns
returns c = none_left _ _ _ _ c.loop-rest.invariant (sym c.loop-rest-test.false ∙ c.is_empty.ensures)
