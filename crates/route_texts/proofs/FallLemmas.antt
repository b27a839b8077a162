-- Hops that fall, one more, and the first that does not.
use Rattle.std.proofs.Common.{◌≡◌, ℕ, ◌+◌, ◌<◌, List, [], ◌∷◌, ◌++◌, length, get_or, take, drop, sym, ap, subst, ◌∙◌}
use Rattle.std.proofs.lemmas.List.{take_more, take-append-drop, append-nil}
use Rattle.std.proofs.lemmas.Grind.{flat_map-append}
use Rattle.sfp_attribute.specs.declared.sfps.Part.{Part}
use Rattle.sfp_attribute.specs.Sfps.{si_of, sis, FallFrom}
use Rattle.sfp_attribute.specs.Refusals.{last_of}
use Rattle.sfp_attribute.proofs.StepLemmas.{last_of-append, FallFrom-append, FallFrom-parts}

sis_more : (path : List Part) (i : ℕ) (p : Part) → i < length path → p ≡ get_or path i p → sis (take (i + 1) path) ≡ sis (take i path) ++ si_of p
sis_more path i p there here =
    ap sis (take_more path i p there ∙ ap (λ (q : Part). take i path ++ q ∷ []) (sym here))
    ∙ flat_map-append si_of (take i path) (p ∷ []) ∙ ap (λ (l : List ℕ). sis (take i path) ++ l) (append-nil (si_of p))

pub falls_more : (path : List Part) (i : ℕ) (p : Part) (bound next : ℕ) → i < length path → p ≡ get_or path i p → FallFrom 256 (sis (take i path)) → bound ≡ last_of 256 (sis (take i path))
    → FallFrom bound (si_of p) → next ≡ last_of bound (si_of p) → FallFrom 256 (sis (take (i + 1) path)) × (next ≡ last_of 256 (sis (take (i + 1) path)))
falls_more path i p bound next there here falls last one is =
    let more = sis_more path i p there here in (
      subst (FallFrom 256) (sym more) (FallFrom-append 256 (sis (take i path)) (si_of p) falls (subst (λ (b : ℕ). FallFrom b (si_of p)) last one)),
      is ∙ ap (λ (b : ℕ). last_of b (si_of p)) last ∙ sym (last_of-append 256 (sis (take i path)) (si_of p)) ∙ ap (last_of 256) (sym more),
    )

pub falls_not : (path : List Part) (i : ℕ) (p : Part) (bound : ℕ) → i < length path → p ≡ get_or path i p → bound ≡ last_of 256 (sis (take i path)) → (FallFrom bound (si_of p) → ⊥)
    → FallFrom 256 (sis path) → ⊥
falls_not path i p bound there here last rises all =
    let split : sis path ≡ sis (take (i + 1) path) ++ sis (drop (i + 1) path) = ap sis (sym (take-append-drop (i + 1) path)) ∙ flat_map-append si_of (take (i + 1) path) (drop (i + 1) path) in
    let front = FallFrom-parts 256 (sis (take (i + 1) path)) (sis (drop (i + 1) path)) (subst (FallFrom 256) split all) in
    let parts = FallFrom-parts 256 (sis (take i path)) (si_of p) (subst (FallFrom 256) (sis_more path i p there here) front.0) in
    rises (subst (λ (b : ℕ). FallFrom b (si_of p)) (sym last) parts.1)
