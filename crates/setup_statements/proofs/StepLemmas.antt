-- A list that is shown in two ways has one head and one tail.
use Rattle.std.proofs.Common.{◌≡◌, List, ◌∷◌}

pub head_is : {X : Type 0} (xs : List X) (x y : X) (ps qs : List X) → xs ≡ x ∷ ps → xs ≡ y ∷ qs → x ≡ y
head_is xs x y ps qs p q = cc

pub tail_is : {X : Type 0} (xs : List X) (x y : X) (ps qs : List X) → xs ≡ x ∷ ps → xs ≡ y ∷ qs → ps ≡ qs
tail_is xs x y ps qs p q = cc
