-- Tables in order, and what a change makes of them.
use Rattle.std.proofs.Common.{◌≡◌, ◌≢◌, ℕ, zero, suc, ◌+◌, ◌<◌, ◌≤◌, List, [], ◌∷◌, ◌++◌, length, take, drop, get_or, arith, nat_lt, slice_set, refl, sym, ◌∙◌, le_refl, inl, inr, zero-le}
use Rattle.std.specs.List.{All, HoldsAt, insert, remove}
use Rattle.std.specs.List.Sorted.{IsPartitionedBy, IsPartitionPoint}
use Rattle.std.proofs.lemmas.Bool.{cases_order, le-ltb, lt-ltb}
use Rattle.std.proofs.lemmas.Bool.Decides.{nat_tests}
use Rattle.std.proofs.lemmas.List.{set_split, take-append-drop}
use Rattle.std.proofs.lemmas.List.Elements.{All-cons}
use Rattle.path_selection.specs.Answers.{HasNoPath}
use Rattle.path_selection.specs.Changes.{above, below}
use Rattle.path_selection.specs.Paths.{ArePathRows, IsTable, RisesFrom, ServicePath}

pub rises_over : (least : ℕ) (xs : List ServicePath) → RisesFrom least xs → (j : ℕ) (d : ServicePath) → j < length xs → least ≤ (get_or xs j d).spi
rises_over least [] r j d h = absurd (omega arith)
rises_over least (x ∷ xs) r zero d h = r.0
rises_over least (x ∷ xs) r (suc j) d h = omega (arith, r.0, rises_over (x.spi + 1) xs r.2 j d (omega arith))

pub rises_at : (least : ℕ) (xs : List ServicePath) → RisesFrom least xs → (i j : ℕ) (d : ServicePath) → i ≤ j → j < length xs → (get_or xs i d).spi ≤ (get_or xs j d).spi
rises_at least [] r i j d le h = absurd (omega arith)
rises_at least (x ∷ xs) r zero zero d le h = omega arith
rises_at least (x ∷ xs) r zero (suc j) d le h = omega (arith, rises_over (x.spi + 1) xs r.2 j d (omega arith))
rises_at least (x ∷ xs) r (suc i) zero d le h = absurd (omega arith)
rises_at least (x ∷ xs) r (suc i) (suc j) d le h = rises_at (x.spi + 1) xs r.2 i j d (omega arith) (omega arith)

-- the paths with smaller identifiers come before the others
pub rises_parts : (least spi : ℕ) (xs : List ServicePath) → RisesFrom least xs → IsPartitionedBy (λ (path : ServicePath). nat_lt path.spi spi) xs
rises_parts least spi xs r i j d le h e = grind (arith, nat_tests, rises_at least xs r i j d le h, e)

pub rises_lower : (least less : ℕ) (xs : List ServicePath) → less ≤ least → RisesFrom least xs → RisesFrom less xs
rises_lower least less [] le r = tt
rises_lower least less (x ∷ xs) le r = (omega (arith, r.0), r.1, r.2)

-- where all identifiers are greater
pub all_above : (spi least : ℕ) (xs : List ServicePath) → spi < least → RisesFrom least xs → (below spi xs ≡ []) × (above spi xs ≡ xs)
all_above spi least [] lt r = (refl, refl)
all_above spi least (x ∷ xs) lt r =
    let rest = all_above spi (x.spi + 1) xs (omega (arith, r.0)) r.2 in
    (grind (arith, nat_tests, rest.0, r.0), grind (arith, nat_tests, rest.1, r.0))

-- where the path at a place has the identifier, the smaller ones stand before it and the greater ones behind it
pub around_found : (least spi : ℕ) (xs : List ServicePath) (i : ℕ) (d : ServicePath) → RisesFrom least xs → i < length xs → (get_or xs i d).spi ≡ spi → (take i xs ≡ below spi xs) × (drop (suc i) xs ≡ above spi xs)
around_found least spi [] i d r h e = absurd (omega arith)
around_found least spi (x ∷ xs) zero d r h e =
    let rest = all_above spi (x.spi + 1) xs (omega (arith, e)) r.2 in
    (grind (arith, nat_tests, rest.0, e), grind (arith, nat_tests, rest.1, e))
around_found least spi (x ∷ xs) (suc i) d r h e =
    let rest = around_found (x.spi + 1) spi xs i d r.2 (omega arith) e in
    let less = rises_over (x.spi + 1) xs r.2 i d (omega arith) in
    (grind (arith, nat_tests, rest.0, less, e), grind (arith, nat_tests, rest.1, less, e))

nothing : (P : ServicePath → Type 0) → All P []
nothing P = λ k d h. absurd (omega arith)

none_above : (spi least : ℕ) (xs : List ServicePath) → spi < least → RisesFrom least xs → HasNoPath xs spi
none_above spi least [] lt r = nothing (λ (path : ServicePath). path.spi ≢ spi)
none_above spi least (x ∷ xs) lt r = All-cons (λ (path : ServicePath). path.spi ≢ spi) x xs (λ e. absurd (omega (arith, lt, r.0, e))) (none_above spi (x.spi + 1) xs (omega (arith, lt, r.0)) r.2)

-- where no path has the identifier, the smaller ones stand before a place and the greater ones from it on
pub around_absent : (least spi : ℕ) (xs : List ServicePath) (i : ℕ) → RisesFrom least xs → i ≤ length xs → ((k : ℕ) (d : ServicePath) → 0 ≤ k → k < i → (get_or xs k d).spi < spi) → ((k : ℕ) (d : ServicePath) → i ≤ k → k < length xs → spi ≤ (get_or xs k d).spi) → ((i < length xs) × HoldsAt (λ (path : ServicePath). path.spi ≡ spi) xs i → ⊥) → (take i xs ≡ below spi xs) × (drop i xs ≡ above spi xs) × HasNoPath xs spi
around_absent least spi [] zero r h front back other = (refl, refl, nothing (λ (path : ServicePath). path.spi ≢ spi))
around_absent least spi [] (suc i) r h front back other = absurd (omega arith)
around_absent least spi (x ∷ xs) zero r h front back other =
    let unlike : x.spi ≢ spi = λ e. other (omega arith, λ d. e) in
    let greater : spi < x.spi = omega (arith, back zero x (omega arith) (omega arith), unlike) in
    let rest = all_above spi x.spi (x ∷ xs) greater (le_refl x.spi, r.1, r.2) in
    (sym rest.0, sym rest.1, none_above spi x.spi (x ∷ xs) greater (le_refl x.spi, r.1, r.2))
around_absent least spi (x ∷ xs) (suc i) r h front back other =
    let less : x.spi < spi = front zero x (omega arith) (omega arith) in
    let rest = around_absent (x.spi + 1) spi xs i r.2 (omega arith) (λ k d z lt. front (suc k) d (omega arith) (omega arith)) (λ k d le lt. back (suc k) d (omega arith) (omega arith)) (λ at. other (omega (arith, at.0), at.1)) in
    (grind (arith, nat_tests, rest.0, less), grind (arith, nat_tests, rest.1, less), All-cons (λ (path : ServicePath). path.spi ≢ spi) x xs (λ e. absurd (omega (arith, less, e))) rest.2)

-- a path that is put among the others leaves them in order
pub rises_put : (least : ℕ) (path : ServicePath) (xs : List ServicePath) → ArePathRows path.rows → RisesFrom least xs → least ≤ path.spi → RisesFrom least (below path.spi xs ++ path ∷ above path.spi xs)
rises_put least path [] kept r le = (le, kept, tt)
rises_put least path (x ∷ xs) kept r le = elim (cases_order x.spi path.spi) [
  | inl same ↦ rw (le-ltb x.spi path.spi (omega (arith, same)), le-ltb path.spi x.spi (omega (arith, same)), (all_above path.spi (x.spi + 1) xs (omega (arith, same)) r.2).0, (all_above path.spi (x.spi + 1) xs (omega (arith, same)) r.2).1) (le, kept, rises_lower (x.spi + 1) (path.spi + 1) xs (omega (arith, same)) r.2)
  | inr (inl less) ↦ rw (lt-ltb x.spi path.spi less, le-ltb path.spi x.spi (omega (arith, less))) (r.0, r.1, rises_put (x.spi + 1) path xs kept r.2 (omega (arith, less)))
  | inr (inr more) ↦ rw (le-ltb x.spi path.spi (omega (arith, more)), lt-ltb path.spi x.spi more, (all_above path.spi (x.spi + 1) xs (omega (arith, more)) r.2).0, (all_above path.spi (x.spi + 1) xs (omega (arith, more)) r.2).1) (le, kept, (omega (arith, more), r.1, r.2))
]

-- and so does one that is cut
pub rises_cut : (least spi : ℕ) (xs : List ServicePath) → RisesFrom least xs → RisesFrom least (below spi xs ++ above spi xs)
rises_cut least spi [] r = tt
rises_cut least spi (x ∷ xs) r = elim (cases_order x.spi spi) [
  | inl same ↦ rw (le-ltb x.spi spi (omega (arith, same)), le-ltb spi x.spi (omega (arith, same)), (all_above spi (x.spi + 1) xs (omega (arith, same)) r.2).0, (all_above spi (x.spi + 1) xs (omega (arith, same)) r.2).1) (rises_lower (x.spi + 1) least xs (omega (arith, r.0)) r.2)
  | inr (inl less) ↦ rw (lt-ltb x.spi spi less, le-ltb spi x.spi (omega (arith, less))) (r.0, r.1, rises_cut (x.spi + 1) spi xs r.2)
  | inr (inr more) ↦ rw (le-ltb x.spi spi (omega (arith, more)), lt-ltb spi x.spi more, (all_above spi (x.spi + 1) xs (omega (arith, more)) r.2).0, (all_above spi (x.spi + 1) xs (omega (arith, more)) r.2).1) r
]

-- a path is put in the place of the one with its identifier
pub set_changes : (xs : List ServicePath) (i : ℕ) (path : ServicePath) → IsTable xs → (i < length xs) × HoldsAt (λ (p : ServicePath). p.spi ≡ path.spi) xs i → slice_set xs i path ≡ below path.spi xs ++ path ∷ above path.spi xs
set_changes xs i path r at =
    let around = around_found 0 path.spi xs i path r at.0 (at.1 path) in
    rw (set_split xs i path at.0, around.0, around.1) refl

-- a path joins where it has its place
pub insert_changes : (xs : List ServicePath) (i : ℕ) (path : ServicePath) → IsTable xs → i ≤ length xs → IsPartitionPoint (λ (p : ServicePath). p.spi < path.spi) (λ (p : ServicePath). path.spi ≤ p.spi) xs i → ((i < length xs) × HoldsAt (λ (p : ServicePath). p.spi ≡ path.spi) xs i → ⊥) → insert xs i path ≡ below path.spi xs ++ path ∷ above path.spi xs
insert_changes xs i path r h point other =
    let around = around_absent 0 path.spi xs i r h point.0 point.1 other in
    rw (around.0, around.1) refl

-- the path with an identifier is taken out
pub remove_changes : (xs : List ServicePath) (i spi : ℕ) (d : ServicePath) → IsTable xs → (i < length xs) × HoldsAt (λ (p : ServicePath). p.spi ≡ spi) xs i → remove xs i ≡ below spi xs ++ above spi xs
remove_changes xs i spi d r at =
    let around = around_found 0 spi xs i d r at.0 (at.1 d) in
    rw (around.0, around.1) refl

-- where no path has an identifier, all stay
pub nothing_changes : (xs : List ServicePath) (i spi : ℕ) → IsTable xs → i ≤ length xs → IsPartitionPoint (λ (p : ServicePath). p.spi < spi) (λ (p : ServicePath). spi ≤ p.spi) xs i → ((i < length xs) × HoldsAt (λ (p : ServicePath). p.spi ≡ spi) xs i → ⊥) → xs ≡ below spi xs ++ above spi xs
nothing_changes xs i spi r h point other =
    let around = around_absent 0 spi xs i r h point.0 point.1 other in
    let joined : take i xs ++ drop i xs ≡ below spi xs ++ above spi xs = rw (around.0, around.1) refl in
    sym (take-append-drop i xs) ∙ joined

pub set_keeps : (xs : List ServicePath) (i : ℕ) (path : ServicePath) → ArePathRows path.rows → IsTable xs → (i < length xs) × HoldsAt (λ (p : ServicePath). p.spi ≡ path.spi) xs i → IsTable (slice_set xs i path)
set_keeps xs i path kept r at = rw (set_changes xs i path r at) (rises_put 0 path xs kept r zero-le)

pub insert_keeps : (xs : List ServicePath) (i : ℕ) (path : ServicePath) → ArePathRows path.rows → IsTable xs → i ≤ length xs → IsPartitionPoint (λ (p : ServicePath). p.spi < path.spi) (λ (p : ServicePath). path.spi ≤ p.spi) xs i → ((i < length xs) × HoldsAt (λ (p : ServicePath). p.spi ≡ path.spi) xs i → ⊥) → IsTable (insert xs i path)
insert_keeps xs i path kept r h point other = rw (insert_changes xs i path r h point other) (rises_put 0 path xs kept r zero-le)
