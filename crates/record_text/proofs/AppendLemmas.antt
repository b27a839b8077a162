-- What stands after parts that were appended in turn, where there was no memory for one of them.
use Rattle.std.proofs.Common.{◌≡◌, ℕ, ◌+◌, ◌<◌, ◌≤◌, suc, List, [], ◌∷◌, ◌++◌, length, take, drop, get_or, append_assoc, append-nil, drop-cons, add-one, refl, sym, ap, ◌∙◌}
use Rattle.std.specs.Prelude.{map}
use Rattle.std.specs.List.{flat_map, join_with_byte}
use Rattle.std.proofs.lemmas.List.{flat_map_more, take_more, take_all, take-append-drop}
use Rattle.std.proofs.lemmas.List.Concat.{flat_map-append}
use Rattle.text_words.specs.Printing.{AppendsFront}

-- a front of the first part
pub front_here : (a s t b : List ℕ) → AppendsFront a s b → AppendsFront a (s ++ t) b
front_here a s t b h = record {
  front = h.front;
  rest = h.rest ++ t;
  cut = sym (append_assoc h.front h.rest t) ∙ ap (λ x. x ++ t) h.cut;
  appended = h.appended;
}

-- the first part, and a front of the others
pub front_behind : (a s t m b : List ℕ) → m ≡ a ++ s → AppendsFront m t b → AppendsFront a (s ++ t) b
front_behind a s t m b e h = record {
  front = s ++ h.front;
  rest = h.rest;
  cut = append_assoc s h.front h.rest ∙ ap (λ x. s ++ x) h.cut;
  appended = h.appended ∙ ap (λ x. x ++ h.front) e ∙ append_assoc a s h.front;
}

-- the first part, and the others
pub all_behind : (a s t m b : List ℕ) → m ≡ a ++ s → b ≡ m ++ t → b ≡ a ++ (s ++ t)
all_behind a s t m b e h = h ∙ ap (λ x. x ++ t) e ∙ append_assoc a s t

-- a front of a text that is told in another way
pub front_same : (a s t b : List ℕ) → s ≡ t → AppendsFront a s b → AppendsFront a t b
front_same a s t b e h = record { front = h.front; rest = h.rest; cut = h.cut ∙ e; appended = h.appended }

-- nothing of it
pub front_none : (a t b : List ℕ) → b ≡ a → AppendsFront a t b
front_none a t b e = record { front = []; rest = t; cut = refl; appended = e ∙ sym (append-nil a) }

-- the element at a place, and those behind it
pub here : {X : Type 0} (xs : List X) (i : ℕ) (x : X) → i < length xs → ((d : X) → x ≡ get_or xs i d) → drop i xs ≡ x ∷ drop (i + 1) xs
here xs i x lt at = drop-cons xs i x lt ∙ ap (λ y. y ∷ drop (suc i) xs) (sym (at x)) ∙ ap (λ k. x ∷ drop k xs) (sym (add-one i))

-- what is written of a list whose elements are written in turn
abbrev pub SoFar : {X : Type 0} → (X → List ℕ) → List X → ℕ → List ℕ → List ℕ → Type 0
SoFar f xs i before now = now ≡ before ++ flat_map f (take i xs)

-- one more
pub next_so_far : {X : Type 0} (f : X → List ℕ) (xs : List X) (i : ℕ) (x : X) (a m b : List ℕ) → i < length xs → ((d : X) → x ≡ get_or xs i d)
    → b ≡ m ++ f x → SoFar f xs i a m → SoFar f xs (i + 1) a b
next_so_far f xs i x a m b lt at wrote so_far =
    wrote ∙ ap (λ o. o ++ f x) so_far ∙ flat_map_more f a (take i xs) x
    ∙ ap (λ ys. a ++ flat_map f ys) (ap (λ y. take i xs ++ y ∷ []) (at x) ∙ sym (take_more xs i x lt))

-- all of them
pub all_so_far : {X : Type 0} (f : X → List ℕ) (xs : List X) (i : ℕ) (a m : List ℕ) → length xs ≤ i → SoFar f xs i a m → m ≡ a ++ flat_map f xs
all_so_far f xs i a m all so_far = so_far ∙ ap (λ ys. a ++ flat_map f ys) (take_all i xs all)

-- a front of the one at the place
pub front_so_far : {X : Type 0} (f : X → List ℕ) (xs : List X) (i : ℕ) (x : X) (a m b : List ℕ) → i < length xs → ((d : X) → x ≡ get_or xs i d)
    → AppendsFront m (f x) b → SoFar f xs i a m → AppendsFront a (flat_map f xs) b
front_so_far f xs i x a m b lt at h so_far =
    front_same a (flat_map f (take i xs) ++ flat_map f (drop i xs)) (flat_map f xs) b
    (sym (flat_map-append f (take i xs) (drop i xs)) ∙ ap (flat_map f) (take-append-drop i xs))
    (front_behind a (flat_map f (take i xs)) (flat_map f (drop i xs)) m b so_far
    (front_same m (f x ++ flat_map f (drop (i + 1) xs)) (flat_map f (drop i xs)) b (ap (flat_map f) (sym (here xs i x lt at)))
    (front_here m (f x) (flat_map f (drop (i + 1) xs)) b h)))

-- joined words are the first one and each other behind the mark
pub join_behind : {X : Type 0} (mark : ℕ) (f : X → List ℕ) (w : List ℕ) (xs : List X)
    → join_with_byte mark (w ∷ map f xs) ≡ w ++ flat_map (λ x. mark ∷ f x) xs
join_behind mark f w [] = sym (append-nil w)
join_behind mark f w (x ∷ xs) = ap (λ r. w ++ mark ∷ r) (join_behind mark f (f x) xs)
