-- The first run, and each other behind a comma.
use Rattle.std.proofs.Common.{ℕ, List, ◌++◌, ◌∙◌, ap}
use Rattle.text_words.specs.Hexadecimal.{hexadecimal}
use Rattle.route_texts.proofs.PrintedLemmas.{all_joined}
use Rattle.route_texts.proofs.printing.print_digits.Goals as goal

pub returns-in_ok-print_other_digits-in-Some : goal.returns-in_ok-print_other_digits-in-Some
returns-in_ok-print_other_digits-in-Some c =
    all_joined 44 hexadecimal c.args.runs.now c.in-Some.first.now c.in-Some.others.now c.args.out.now c.print_octets.new.out c.print_other_digits.new.out c.in-Some.ensures.cases.0
    (c.in_ok-print_octets-in-Some.ensures.ok ∙ ap (λ (b : List ℕ). c.args.out.now ++ hexadecimal b) c.bytes.ensures.value)
    c.in_ok-print_other_digits-in-Some.ensures
