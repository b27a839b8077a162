-- Bytes share their first bits exactly where they share the whole bytes among these, and the first bits of the next byte.
use Rattle.std.proofs.Common.{◌≡◌, ℕ, ◌%◌, ◌<◌, ◌≤◌, List, take, get_or, true, false, refl, ap, sym, ◌∙◌, arith}
use Rattle.std.proofs.lemmas.Bool.{not-false, not_from_true}
use Rattle.std.proofs.lemmas.Bool.Decides.{Decides-eqb}
use Rattle.std.proofs.lemmas.Slice.Eq.{slice_eq-Decides}
use Rattle.std.proofs.lemmas.List.Elements.{All-from_get_or}
use Rattle.wire_base.specs.Numbers.{AreBytes}
use Rattle.classifier.proofs.BitLemmas.{same_whole_bytes, same_bytes, same_bits, matched}
use Rattle.classifier.proofs.prefixes.share_bits.Goals as goal

-- what a slice of bytes holds
are_bytes : (xs : List ℕ) → ((i : ℕ) → get_or xs i 0 < 256) → AreBytes xs
are_bytes xs small = All-from_get_or (λ b. b < 256) xs 0 (λ i _. small i)

pub returns-then-ne : goal.returns-then-ne
returns-then-ne c = λ same.
    let fronts = same_whole_bytes c.args.bits c.args.asked.now c.args.found.now (are_bytes c.args.asked.now (λ i. omega (arith, c.type_inv.asked i))) (are_bytes c.args.found.now (λ i. omega (arith, c.type_inv.found i)))
    c.requires.same_length c.requires.in_range same in
    let cut : take c.from-whole.result c.args.asked.now ≡ take c.from-whole.result c.args.found.now =
    ap (λ i. take i c.args.asked.now) c.from-whole.ensures ∙ fronts ∙ ap (λ i. take i c.args.found.now) (sym c.from-whole.ensures) in
    let equal = (slice_eq-Decides Decides-eqb (take c.from-whole.result c.args.asked.now) (take c.from-whole.result c.args.found.now) _ refl).1 cut in
    let e : true ≡ false = sym c.if-ne.true ∙ c.ne.ensures ∙ not_from_true _ equal in
    absurd cc

pub returns-then-rest-eq0 : goal.returns-then-rest-eq0
returns-then-rest-eq0 c =
    let equal = not-false _ (sym c.ne.ensures ∙ c.if-ne.false) in
    let cut = (slice_eq-Decides Decides-eqb (take c.from-whole.result c.args.asked.now) (take c.from-whole.result c.args.found.now) _ refl).0 equal in
    let fronts = ap (λ i. take i c.args.asked.now) (sym c.from-whole.ensures) ∙ cut ∙ ap (λ i. take i c.args.found.now) c.from-whole.ensures in
    same_bytes c.args.bits c.args.asked.now c.args.found.now (are_bytes c.args.asked.now (λ i. omega (arith, c.type_inv.asked i))) (are_bytes c.args.found.now (λ i. omega (arith, c.type_inv.found i)))
    c.requires.same_length c.requires.in_range c.if-rest-eq0.true fronts

pub returns : goal.returns
returns c =
    let equal = not-false _ (sym c.ne.ensures ∙ c.if-ne.false) in
    let cut = (slice_eq-Decides Decides-eqb (take c.from-whole.result c.args.asked.now) (take c.from-whole.result c.args.found.now) _ refl).0 equal in
    let fronts = ap (λ i. take i c.args.asked.now) (sym c.from-whole.ensures) ∙ cut ∙ ap (λ i. take i c.args.found.now) c.from-whole.ensures in
    let some : 1 ≤ c.args.bits % 8 = omega (arith, c.if-rest-eq0.false) in
    let both = same_bits c.args.bits c.args.asked.now c.args.found.now 0 (are_bytes c.args.asked.now (λ i. omega (arith, c.type_inv.asked i))) (are_bytes c.args.found.now (λ i. omega (arith, c.type_inv.found i)))
    c.requires.same_length c.requires.in_range some fronts in
    matched _ _ _ (rw (sym c.from-whole.ensures) at both)
