-- Pieces that spell values, taken one after another.
use Rattle.std.proofs.Common.{◌≡◌, ℕ, List, [], ◌∷◌, ◌++◌, refl, sym, ap, subst, ◌∙◌, append_assoc}
use Rattle.std.proofs.lemmas.List.{append-nil}
use Rattle.route_texts.specs.RouteLines.{Each}

each_push : {V : Type 0} (Spells : List ℕ → V → Type 0) (ps : List (List ℕ)) (vs : List V) (p : List ℕ) (v : V) → Each Spells ps vs → Spells p v → Each Spells (ps ++ p ∷ []) (vs ++ v ∷ [])
each_push Spells [] [] p v each one = (one, tt)
each_push Spells [] (w ∷ vs) p v each one = absurd each
each_push Spells (q ∷ ps) [] p v each one = absurd each
each_push Spells (q ∷ ps) (w ∷ vs) p v each one = (each.0, each_push Spells ps vs p v each.1 one)

each_bad : {V : Type 0} (Spells : List ℕ → V → Type 0) (ps : List (List ℕ)) (vs : List V) (p : List ℕ) (more : List (List ℕ)) (ws : List V) → Each Spells ps vs
    → ((v : V) → Spells p v → ⊥) → Each Spells (ps ++ p ∷ more) ws → ⊥
each_bad Spells [] [] p more [] each bad all = all
each_bad Spells [] [] p more (w ∷ ws) each bad all = bad w all.0
each_bad Spells [] (v ∷ vs) p more ws each bad all = each
each_bad Spells (q ∷ ps) [] p more ws each bad all = each
each_bad Spells (q ∷ ps) (v ∷ vs) p more [] each bad all = all
each_bad Spells (q ∷ ps) (v ∷ vs) p more (w ∷ ws) each bad all = each_bad Spells ps vs p more ws each.1 bad all.1

-- where a piece spells at most one value, pieces spell at most one list
pub each_one : {V : Type 0} (Spells : List ℕ → V → Type 0) → ((p : List ℕ) (v w : V) → Spells p v → Spells p w → v ≡ w) → (ps : List (List ℕ)) (vs ws : List V)
    → Each Spells ps vs → Each Spells ps ws → vs ≡ ws
each_one Spells one [] [] [] a b = refl
each_one Spells one [] [] (w ∷ ws) a b = absurd b
each_one Spells one [] (v ∷ vs) ws a b = absurd a
each_one Spells one (p ∷ ps) [] ws a b = absurd a
each_one Spells one (p ∷ ps) (v ∷ vs) [] a b = absurd b
each_one Spells one (p ∷ ps) (v ∷ vs) (w ∷ ws) a b =
    let head : v ≡ w = one p v w a.0 b.0 in
    let tail : vs ≡ ws = each_one Spells one ps vs ws a.1 b.1 in
    cc

-- the values that were found in the pieces before those that are left
pub record Seen {V : Type 0} (Spells : List ℕ → V → Type 0) (all left : List (List ℕ)) (vs : List V) : Type 0 where
  pub front : List (List ℕ)
  pub split : all ≡ front ++ left
  pub each : Each Spells front vs

pub seen_none : {V : Type 0} (Spells : List ℕ → V → Type 0) (all left : List (List ℕ)) (vs : List V) → left ≡ all → vs ≡ [] → Seen Spells all left vs
seen_none Spells all left vs same none = record { front = []; split = sym same; each = subst (Each Spells []) (sym none) tt }

pub seen_more : {V : Type 0} (Spells : List ℕ → V → Type 0) (all left : List (List ℕ)) (p : List ℕ) (rest : List (List ℕ)) (vs : List V) (v : V) → Seen Spells all left vs → left ≡ p ∷ rest → Spells p v
    → Seen Spells all rest (vs ++ v ∷ [])
seen_more Spells all left p rest vs v seen next one = record {
  front = seen.front ++ p ∷ [];
  split = seen.split ∙ ap (λ (l : List (List ℕ)). seen.front ++ l) next ∙ sym (append_assoc seen.front (p ∷ []) rest);
  each = each_push Spells seen.front vs p v seen.each one;
}

pub seen_bad : {V : Type 0} (Spells : List ℕ → V → Type 0) (all left : List (List ℕ)) (p : List ℕ) (rest : List (List ℕ)) (vs : List V) → Seen Spells all left vs → left ≡ p ∷ rest
    → ((v : V) → Spells p v → ⊥) → (ws : List V) → Each Spells all ws → ⊥
seen_bad Spells all left p rest vs seen next bad ws each =
    each_bad Spells seen.front vs p rest ws seen.each bad (subst (λ (l : List (List ℕ)). Each Spells l ws) (seen.split ∙ ap (λ (l : List (List ℕ)). seen.front ++ l) next) each)

pub seen_all : {V : Type 0} (Spells : List ℕ → V → Type 0) (all left : List (List ℕ)) (vs : List V) → Seen Spells all left vs → left ≡ [] → Each Spells all vs
seen_all Spells all left vs seen none =
    subst (λ (l : List (List ℕ)). Each Spells l vs) (sym (seen.split ∙ ap (λ (l : List (List ℕ)). seen.front ++ l) none ∙ append-nil seen.front)) seen.each
