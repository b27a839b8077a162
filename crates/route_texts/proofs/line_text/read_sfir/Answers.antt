-- The list behind the address spells no targets.
use Rattle.std.proofs.Common.{ℕ, List, ◌∷◌, Option, Ok, ap, subst, ◌∙◌}
use Rattle.std.specs.Fmt.{decimal}
use Rattle.text_words.specs.Hexadecimal.{hexadecimal}
use Rattle.text_words.specs.Addresses.{address_text}
use Rattle.route_texts.specs.RouteLines.{SpellsTargets}
use Rattle.route_texts.specs.Steps.{Found}
use Rattle.route_texts.proofs.LineLemmas.{no_sfir}
use Rattle.route_texts.proofs.line_text.read_sfir.Goals as goal

pub returns-in-None : goal.returns-in-None
returns-in-None c =
    let list = c.in-Some-next.list.now in
    let cut = c.in-Some.ensures.1 ∙ ap (λ (r : List (List ℕ)). hexadecimal c.in-Some.rd ∷ r) (c.in-Some-next_number.ensures.1
    ∙ ap (λ (r : List (List ℕ)). decimal c.in-Some-next_number.kind ∷ r) (c.in-Some-next_address.ensures.1
    ∙ ap (λ (r : List (List ℕ)). address_text c.in-Some-next_address.address ∷ r) (c.in-Some-next.ensures
    ∙ ap (λ (r : List (List ℕ)). list ∷ r) (c.is_done.ensures.0 c.if-not-is_done.false)))) in
    no_sfir c.args.words.now c.in-Some.rd c.in-Some-next_number.kind c.in-Some-next_address.address list cut
    (subst (λ (o : Option (List (List ℕ))). Found SpellsTargets list (Ok o)) c.in-None.is c.in_ok-targets.ensures)
