-- What is written of the runs.
use Rattle.std.proofs.Common.{◌≡◌, ◌++◌, ◌∷◌, take}
use Rattle.std.specs.List.{flat_map}
use Rattle.std.specs.Prelude.{List, ℕ}
use Rattle.text_words.specs.Hexadecimal.{hexadecimal}
use Rattle.route_texts.proofs.printing.print_other_digits.Given as goal

abbrev pub invariant-loop-run : goal.invariant-loop-run
invariant-loop-run l = l.out ≡ l.initial.out ++ flat_map (λ (run : List ℕ). 44 ∷ hexadecimal run) (take l.run-index l.runs)
