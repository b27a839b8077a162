-- Parts in a window: their seats, and what they keep from one step to the next.
use Rattle.std.proofs.Common.{◌≡◌, ℕ, ◌<◌, List, [], ◌∷◌, None, length, All, refl, sym, ap, subst, arith, suc, slice_index_or}
use Rattle.std.specs.List.{AllByRecursion, AllZip}
use Rattle.std.proofs.lemmas.List.Elements.{All-from_recursion}
use Rattle.logbook.specs.Pages.{Book}
use Rattle.path_selection.specs.Paths.{ServicePath}
use Rattle.sfc_config.specs.Parts.{Parts}
use Rattle.table_publish.specs.Publications.{Publications}
use Rattle.worker_run.specs.declared.parts.Part.{Part}
use Rattle.worker_run.specs.Batches.{AreWithinLimits}
use Rattle.worker_run.specs.Shares.{Filled, IsOfWindow, IsReady, MayLook, SameShape, Seated, Unseated}
use Rattle.worker_run.proofs.ShareLemmas.{fresh_of, fresh_ready, shapes}

ready_each : (window : Book) (published : Publications) (ps qs : List Part) → AllByRecursion (λ p. AreWithinLimits p.slots.items) ps → AllZip (Seated window published) ps qs → AllByRecursion IsReady qs
ready_each window published [] [] limits x = tt
ready_each window published [] (q ∷ qs) limits x = absurd x
ready_each window published (p ∷ ps) [] limits x = absurd x
ready_each window published (p ∷ ps) (q ∷ qs) limits x =
    (record { limits = subst AreWithinLimits (sym x.0.slots) limits.0; seat = fresh_ready window published q.seat x.0.seat }, ready_each window published ps qs limits.1 x.1)

pub seated_ready : (window : Book) (published : Publications) (ps qs : List Part) → AllByRecursion (λ p. AreWithinLimits p.slots.items) ps → AllZip (Seated window published) ps qs → All IsReady qs
seated_ready window published ps qs limits x = All-from_recursion IsReady qs (ready_each window published ps qs limits x)

still_each : (ps : List Part) → AllByRecursion (λ p. AreWithinLimits p.slots.items) ps → AllByRecursion (λ p. p.seat ≡ None) ps → AllByRecursion IsReady ps
still_each [] limits none = tt
still_each (p ∷ ps) limits none = (record { limits = limits.0; seat = subst MayLook (sym none.0) tt }, still_each ps limits.1 none.1)

-- without seats
pub still_ready : (ps : List Part) → AllByRecursion (λ p. AreWithinLimits p.slots.items) ps → AllByRecursion (λ p. p.seat ≡ None) ps → All IsReady ps
still_ready ps limits none = All-from_recursion IsReady ps (still_each ps limits none)

pub filled_windows : (setup : Parts) (table : List ServicePath) (version : ℕ) (window : Book) (published : Publications) (ps qs rs : List Part) → AllZip (Seated window published) ps qs → AllZip (Filled setup table version) qs rs
    → AllByRecursion (λ r. IsOfWindow window r.seat) rs
filled_windows setup table version window published [] [] [] a b = tt
filled_windows setup table version window published [] [] (r ∷ rs) a b = absurd b
filled_windows setup table version window published [] (q ∷ qs) rs a b = absurd a
filled_windows setup table version window published (p ∷ ps) [] rs a b = absurd a
filled_windows setup table version window published (p ∷ ps) (q ∷ qs) [] a b = absurd b
filled_windows setup table version window published (p ∷ ps) (q ∷ qs) (r ∷ rs) a b =
    (fresh_of window published q.seat r.seat a.0.seat b.0.window, filled_windows setup table version window published ps qs rs a.1 b.1)

seated_shape : (window : Book) (published : Publications) (ps qs : List Part) → AllZip (Seated window published) ps qs → AllZip SameShape ps qs
seated_shape window published [] [] x = tt
seated_shape window published [] (q ∷ qs) x = absurd x
seated_shape window published (p ∷ ps) [] x = absurd x
seated_shape window published (p ∷ ps) (q ∷ qs) x = (record { worker = x.0.worker; many = ap length x.0.slots }, seated_shape window published ps qs x.1)

pub filled_shape : (setup : Parts) (table : List ServicePath) (version : ℕ) (ps qs : List Part) → AllZip (Filled setup table version) ps qs → AllZip SameShape ps qs
filled_shape setup table version [] [] x = tt
filled_shape setup table version [] (q ∷ qs) x = absurd x
filled_shape setup table version (p ∷ ps) [] x = absurd x
filled_shape setup table version (p ∷ ps) (q ∷ qs) x = (x.0.shape, filled_shape setup table version ps qs x.1)

unseated_shape : (ps qs : List Part) → AllZip Unseated ps qs → AllZip SameShape ps qs
unseated_shape [] [] x = tt
unseated_shape [] (q ∷ qs) x = absurd x
unseated_shape (p ∷ ps) [] x = absurd x
unseated_shape (p ∷ ps) (q ∷ qs) x = (record { worker = x.0.worker; many = ap length x.0.slots }, unseated_shape ps qs x.1)

pub window_shape : (setup : Parts) (table : List ServicePath) (version : ℕ) (window : Book) (published : Publications) (ps qs rs ss : List Part) → AllZip (Seated window published) ps qs → AllZip (Filled setup table version) qs rs
    → AllZip Unseated rs ss → AllZip SameShape ps ss
window_shape setup table version window published ps qs rs ss a b c =
    shapes ps rs ss (shapes ps qs rs (seated_shape window published ps qs a) (filled_shape setup table version qs rs b)) (unseated_shape rs ss c)

pub unseated_same : (ps : List Part) → AllZip Unseated ps ps
unseated_same [] = tt
unseated_same (p ∷ ps) = (record { worker = refl; slots = refl; done = refl }, unseated_same ps)

-- as the clause of `for_each_mut` has it: x is what a call was given, and y what it left
each_zip : {A : Type 0} (R : A → A → Type 0) (xs ys : List A) → length ys ≡ length xs → ((i : ℕ) (d : A) → i < length xs → R (slice_index_or xs i d) (slice_index_or ys i d)) → AllZip R xs ys
each_zip R [] [] e h = tt
each_zip R [] (y ∷ ys) e h = absurd (omega (arith, e))
each_zip R (x ∷ xs) [] e h = absurd (omega (arith, e))
each_zip R (x ∷ xs) (y ∷ ys) e h = (h 0 x (omega arith), each_zip R xs ys (omega (arith, e)) (λ i d lt. h (suc i) d (omega (arith, lt))))

pub each_changed : {A : Type 0} (R : A → A → Type 0) (xs ys : List A) → length ys ≡ length xs
    → ((i : ℕ) (d : A) → i < length xs → (x : A) × (y : A) × (x ≡ slice_index_or xs i d) × R x y × (y ≡ slice_index_or ys i d)) → AllZip R xs ys
each_changed R xs ys e h = each_zip R xs ys e (λ i d lt. let k = h i d lt in subst (λ x. R x (slice_index_or ys i d)) k.2 (subst (λ y. R k.0 y) k.4 k.3))
