-- The source is its first bytes and those that were counted.
use Rattle.std.proofs.Common.{◌≡◌, ◌++◌, take, drop, length, IfOk, List, ℕ, ap, ◌∙◌, subst, arith}
use Rattle.std.proofs.lemmas.List.{take-append-drop, length-take, length-drop}
use Rattle.sfc_texts.specs.NshText.{ShowsNsh}
use Rattle.show_command.proofs.header_texts.text_of_front.Goals as goal

pub returns : goal.returns
returns c = λ input is all.
    let front : c.as_slice-front.result.now ≡ take 252 input = c.as_slice-front.ensures ∙ is in
    subst (λ (b : List ℕ). IfOk c.nsh_lines_of_front.result (ShowsNsh b)) (ap (λ (f : List ℕ). f ++ drop 252 input) front ∙ take-append-drop 252 input)
    (c.nsh_lines_of_front.ensures (drop 252 input) (omega (arith, length-drop 252 input, ap length c.as_slice-front.ensures, c.requires.kept, all)))
