-- A list of pieces of which what fits, and what ends, depends on the pieces before: there is one way to read it.
use Rattle.std.proofs.Common.{◌≡◌, ℕ, List, [], ◌∷◌, ◌++◌, refl, sym, subst, ◌∙◌, append_assoc}
use Rattle.std.specs.List.{flat_map}
use Rattle.std.proofs.lemmas.List.{append-nil}

-- each piece fits behind those before it
abbrev pub AllBehind : {X : Type 0} → (List X → X → Type 0) → List X → List X → Type 0
AllBehind Fits before [] = Unit {0}
AllBehind Fits before (x ∷ xs) = Fits before x × AllBehind Fits (before ++ x ∷ []) xs

-- each piece is known from what it begins, and an end begins with no piece that fits there
pub record ReadsBehind {X : Type 0} (f : X → List ℕ) (Fits : List X → X → Type 0) (Ends : List X → List ℕ → Type 0) : Type 0 where
  pub same : (before : List X) (x y : X) (r s : List ℕ) → Fits before x → Fits before y → f x ++ r ≡ f y ++ s → (x ≡ y) × (r ≡ s)
  pub ended : (before : List X) (x : X) (r : List ℕ) → Fits before x → Ends before (f x ++ r) → ⊥

pub one_split_behind : {X : Type 0} (f : X → List ℕ) (Fits : List X → X → Type 0) (Ends : List X → List ℕ → Type 0) → ReadsBehind f Fits Ends
    → (before xs ys : List X) (r s : List ℕ) → AllBehind Fits before xs → AllBehind Fits before ys → Ends (before ++ xs) r → Ends (before ++ ys) s
    → flat_map f xs ++ r ≡ flat_map f ys ++ s → (xs ≡ ys) × (r ≡ s)
one_split_behind f Fits Ends reads before [] [] r s fx fy er es e = (refl, e)
one_split_behind f Fits Ends reads before [] (y ∷ ys) r s fx fy er es e =
    absurd (reads.ended before y (flat_map f ys ++ s) fy.0 (subst (λ (b : List _). Ends b (f y ++ (flat_map f ys ++ s))) (append-nil before) (subst (Ends (before ++ [])) (e ∙ append_assoc (f y) (flat_map f ys) s) er)))
one_split_behind f Fits Ends reads before (x ∷ xs) [] r s fx fy er es e =
    absurd (reads.ended before x (flat_map f xs ++ r) fx.0 (subst (λ (b : List _). Ends b (f x ++ (flat_map f xs ++ r))) (append-nil before) (subst (Ends (before ++ [])) (sym e ∙ append_assoc (f x) (flat_map f xs) r) es)))
one_split_behind f Fits Ends reads before (x ∷ xs) (y ∷ ys) r s fx fy er es e =
    let heads = reads.same before x y (flat_map f xs ++ r) (flat_map f ys ++ s) fx.0 fy.0 (sym (append_assoc (f x) (flat_map f xs) r) ∙ e ∙ append_assoc (f y) (flat_map f ys) s) in
    let head_is : x ≡ y = heads.0 in
    let later = subst (λ (z : _). AllBehind Fits (before ++ z ∷ []) ys) (sym head_is) fy.1 in
    let end_x = subst (λ (b : List _). Ends b r) (sym (append_assoc before (x ∷ []) xs)) er in
    let end_y = subst (λ (z : _). Ends ((before ++ z ∷ []) ++ ys) s) (sym head_is) (subst (λ (b : List _). Ends b s) (sym (append_assoc before (y ∷ []) ys)) es) in
    let tails = one_split_behind f Fits Ends reads (before ++ x ∷ []) xs ys r s fx.1 later end_x end_y heads.1 in
    let tail_is : xs ≡ ys = tails.0 in
    (cc, tails.1)
