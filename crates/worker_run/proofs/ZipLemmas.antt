-- Lists whose items are related place by place, up to a place, and are the same from there on.
use Rattle.std.proofs.Common.{◌≡◌, ℕ, zero, suc, ◌+◌, ◌<◌, ◌≤◌, List, [], ◌∷◌, length, take, drop, set, get_or, All, sym, subst, ◌∙◌, arith}
use Rattle.std.specs.List.{AllZip}
use Rattle.std.proofs.lemmas.List.{get_or-take, length-set, length-take-le}

pub record Forwarding {X : Type 0} (R : X → X → Type 0) (old new : List X) (i : ℕ) : Type 0 where
  pub many : length new ≡ length old
  pub done : AllZip R (take i old) (take i new)
  pub behind : drop i new ≡ drop i old

first_of : {X : Type 0} (o n : X) (os ns : List X) → n ∷ ns ≡ o ∷ os → n ≡ o
first_of o n os ns e = cc

rest_of : {X : Type 0} (o n : X) (os ns : List X) → n ∷ ns ≡ o ∷ os → ns ≡ os
rest_of o n os ns e = cc

-- the item at the place is put by one to which it is related
one_more : {X : Type 0} (R : X → X → Type 0) (old new : List X) (i : ℕ) (was x : X) → length new ≡ length old → i < length old
    → AllZip R (take i old) (take i new) → drop i new ≡ drop i old → was ≡ get_or new i was → R was x
    → AllZip R (take (suc i) old) (take (suc i) (set new i x)) × (drop (suc i) (set new i x) ≡ drop (suc i) old)
one_more R [] new i was x many lt done behind is related = absurd (omega (arith, lt))
one_more R (o ∷ os) [] i was x many lt done behind is related = absurd (omega (arith, many))
one_more {X} R (o ∷ os) (n ∷ ns) zero was x many lt done behind is related =
    ((subst (λ (y : X). R y x) (is ∙ first_of o n os ns behind) related, tt), rest_of o n os ns behind)
one_more R (o ∷ os) (n ∷ ns) (suc i) was x many lt done behind is related =
    let more = one_more R os ns i was x (omega (arith, many)) (omega (arith, lt)) done.1 behind is related in
    ((done.0, more.0), more.1)

pub put_one : {X : Type 0} (R : X → X → Type 0) (old new : List X) (i : ℕ) (was x : X) → Forwarding R old new i → i < length old → was ≡ get_or new i was → R was x → Forwarding R old (set new i x) (i + 1)
put_one R old new i was x f lt is related =
    let more = one_more R old new i was x f.many lt f.done f.behind is related in
    let next : suc i ≡ i + 1 = omega arith in
    record {
      many = length-set new i x ∙ f.many;
      done = subst (λ (k : ℕ). AllZip R (take k old) (take k (set new i x))) next more.0;
      behind = subst (λ (k : ℕ). drop k (set new i x) ≡ drop k old) next more.1;
    }

same_at : {X : Type 0} (old new : List X) (i : ℕ) (was : X) → length new ≡ length old → i < length old → drop i new ≡ drop i old → was ≡ get_or new i was → was ≡ get_or old i was
same_at [] new i was many lt behind is = absurd (omega (arith, lt))
same_at (o ∷ os) [] i was many lt behind is = absurd (omega (arith, many))
same_at (o ∷ os) (n ∷ ns) zero was many lt behind is = is ∙ first_of o n os ns behind
same_at (o ∷ os) (n ∷ ns) (suc i) was many lt behind is = same_at os ns i was (omega (arith, many)) (omega (arith, lt)) behind is

-- the item at the place is the one that was there
pub still_there : {X : Type 0} (R : X → X → Type 0) (old new : List X) (i : ℕ) (was : X) → Forwarding R old new i → i < length old → was ≡ get_or new i was → was ≡ get_or old i was
still_there R old new i was f lt is = same_at old new i was f.many lt f.behind is

-- an item of the front is one of those that all are so
pub of_front : {X : Type 0} (P : X → Type 0) (used : ℕ) (xs : List X) (i : ℕ) (was : X) → All P (take used xs) → i < used → used ≤ length xs → was ≡ get_or xs i was → P was
of_front P used xs i was all lt le is =
    let many : length (take used xs) ≡ used = length-take-le used xs le in
    let here : P (get_or (take used xs) i was) = all i was (omega (arith, many, lt)) in
    subst P (sym (is ∙ sym (get_or-take used xs i was lt))) here
