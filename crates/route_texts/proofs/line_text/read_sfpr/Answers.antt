-- The list behind the SPI spells no targets, or the hops do not fall.
use Rattle.std.proofs.Common.{ℕ, List, ◌∷◌, Option, Ok, ap, subst, ◌∙◌}
use Rattle.std.specs.Fmt.{decimal}
use Rattle.text_words.specs.Hexadecimal.{hexadecimal}
use Rattle.sfp_attribute.specs.declared.sfps.Part.{Part}
use Rattle.sfp_attribute.specs.Sfps.{sis, FallFrom}
use Rattle.route_texts.specs.RouteLines.{Each, SpellsTargets, SpellsHop}
use Rattle.route_texts.specs.Steps.{Found}
use Rattle.route_texts.proofs.LineLemmas.{no_sfpr_targets, no_sfpr_fall}
use Rattle.route_texts.proofs.line_text.read_sfpr.Goals as goal

pub returns-in_default-2 : goal.returns-in_default-2
returns-in_default-2 c =
    let list = c.in-Some-next.list.now in
    let cut = c.in-Some.ensures.1 ∙ ap (λ (r : List (List ℕ)). hexadecimal c.in-Some.rd ∷ r) (c.in-Some-next_number.ensures.1
    ∙ ap (λ (r : List (List ℕ)). decimal c.in-Some-next_number.number ∷ r) c.in-Some-next.ensures) in
    no_sfpr_targets c.args.words.now c.in-Some.rd c.in-Some-next_number.number list c.next.new.self cut
    (subst (λ (o : Option (List (List ℕ))). Found SpellsTargets list (Ok o)) c.in_default-2.is c.in_ok-targets.ensures)

pub returns-then-not-all_fall : goal.returns-then-not-all_fall
returns-then-not-all_fall c =
    let list = c.in-Some-next.list.now in
    let path = c.in-Some-3.parts in
    let cut = c.in-Some.ensures.1 ∙ ap (λ (r : List (List ℕ)). hexadecimal c.in-Some.rd ∷ r) (c.in-Some-next_number.ensures.1
    ∙ ap (λ (r : List (List ℕ)). decimal c.in-Some-next_number.number ∷ r) c.in-Some-next.ensures) in
    no_sfpr_fall c.args.words.now c.in-Some.rd c.in-Some-next_number.number list c.next.new.self path cut
    (subst (λ (o : Option (List Part)). Found (λ ws p. Each SpellsHop ws p) c.next.new.self (Ok o)) c.in-Some-3.is c.in_ok-parts.ensures)
    (subst (λ (l : List Part). FallFrom 256 (sis l) → ⊥) c.as_slice.ensures c.if-not-all_fall.ensures)
