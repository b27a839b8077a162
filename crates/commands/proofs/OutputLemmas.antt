-- What stands at an output, and what waits, from one call that puts bytes to the next.
use Rattle.std.proofs.Common.{◌≡◌, ℕ, List, ◌++◌, ap, ◌∙◌, subst}
use Rattle.sfc_desk.specs.declared.ports.Port.{Port}
use Rattle.sfc_desk.specs.Desks.{Shown}
use Rattle.commands.specs.Fronts.{IsFront}
use Rattle.commands.proofs.FrontLemmas.{front_of_same}

-- what was put stands behind what was there
pub put_behind : (p q : Port) (then now : Port → Shown) (waited waits more start : List ℕ) → p ≡ q → (then q).written ++ waited ≡ start → (now p).written ++ waits ≡ ((then p).written ++ waited) ++ more → (now q).written ++ waits ≡ start ++ more
put_behind p q then now waited waits more start same was is =
    subst (λ (r : Port). (now r).written ++ waits ≡ ((then r).written ++ waited) ++ more) same is ∙ ap (λ zs. zs ++ more) was

-- or a front of it does
pub front_put : (p q : Port) (then now : Port → Shown) (waited more start : List ℕ) → p ≡ q → (then q).written ++ waited ≡ start → IsFront (now p).written (((then p).written ++ waited) ++ more) → IsFront (now q).written (start ++ more)
front_put p q then now waited more start same was front =
    front_of_same (now q).written _ _ (ap (λ zs. zs ++ more) was) (subst (λ (r : Port). IsFront (now r).written (((then r).written ++ waited) ++ more)) same front)

-- what waited was written
pub all_written : (p q : Port) (then now : Port → Shown) (waited start : List ℕ) → p ≡ q → (then q).written ++ waited ≡ start → (now p).written ≡ (then p).written ++ waited → (now q).written ≡ start
all_written p q then now waited start same was is =
    subst (λ (r : Port). (now r).written ≡ (then r).written ++ waited) same is ∙ was

-- or a front of it was
pub front_written : (p q : Port) (then now : Port → Shown) (waited start : List ℕ) → p ≡ q → (then q).written ++ waited ≡ start → IsFront (now p).written ((then p).written ++ waited) → IsFront (now q).written start
front_written p q then now waited start same was front =
    front_of_same (now q).written _ _ was (subst (λ (r : Port). IsFront (now r).written ((then r).written ++ waited)) same front)
