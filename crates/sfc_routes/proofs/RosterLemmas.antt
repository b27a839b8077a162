-- What a roster with targets takes.
use Rattle.std.proofs.Common.{◌≡◌, ℕ, Bool, List, length, subst, ap, inl, inr, IsTrue, ◌↔◌, ◌∙◌}
use Rattle.std.specs.List.{Contains}
use Rattle.sfc_routes.specs.Entries.{Entries, IsAt, Accepts}

-- where there is a target, a route is taken by one of its own
pub takes_by_target : (e : Entries) (own targets shown : List (List ℕ)) (b : Bool) → own ≡ e.targets → shown ≡ targets
    → (length own ≡ 0 → ⊥) → (IsTrue b ↔ ((i : ℕ) × IsAt (Contains own) shown i)) → (IsTrue b ↔ Accepts e targets)
takes_by_target e own targets shown b o t some h =
    let Own : List (List ℕ) → Type 0 = λ xs. IsTrue b ↔ ((i : ℕ) × IsAt (Contains xs) shown i) in
    let Shown : List (List ℕ) → Type 0 = λ xs. IsTrue b ↔ ((i : ℕ) × IsAt (Contains e.targets) xs i) in
    let is = subst Shown t (subst Own o h) in
    (λ yes. inr (is.0 yes), λ taken. elim taken [ inl none ↦ absurd (some (ap length o ∙ none)) | inr found ↦ is.1 found ])
