-- The exchange that adds an entry keeps the rule of the book.
use Rattle.std.proofs.Common.{◌≡◌, ℕ, ◌+◌, ◌-◌, ◌<◌, ◌==◌, Bool, true, false, true≢false, MatchBool, List, [], ◌∷◌, ◌++◌, length, refl, ap, sym, subst, arith, inl, length-append, None}
use Rattle.std.proofs.lemmas.List.{append-nil}
use Rattle.std.proofs.lemmas.Bool.Decides.{nat_tests}
use mathlib.Core.List.{IsPrefix}
use prog.Atomic.{either}
use Rattle.logbook.specs.Pages.{Cell, cell, keeps, no_nib, step, Moves, Goes}
use Rattle.table_publish.specs.declared.entries.Entry.{Entry}
use Rattle.table_publish.specs.Entries.{IsSealed, LacksMark}
use Rattle.table_publish.specs.Pages.{IsKept, Added}
use Rattle.table_publish.proofs.Marks.{prefix_whole, snoc_sealed}

abbrev pub shown : List Entry → List Entry
shown log = []

abbrev pub moved : List Entry → List Entry → ℕ → Type 0
moved xs ys n = Unit {0}

adds_goes : (log v : List Entry) (e : Entry) (old : ℕ) → length v ≡ old + 1 → LacksMark v → IsSealed log → 0 < length log → IsPrefix v log
    → (b : Bool) → (length log - 1 == old) ≡ b
    → Goes IsKept shown moved 0 (v, (no_nib, None)) (λ n. either (n == old) (old + 1) n) (Added (step 0 old (old + 1) e) (v, (no_nib, None))) ((length log - 1, true) ∷ []) log
adds_goes log v e old len lacks sealed some pre true is =
    let here : length log - 1 ≡ old = grind (arith, nat_tests) in
    let same : v ≡ log = prefix_whole v log pre (omega arith) in
    let lacks' : LacksMark log = subst LacksMark same lacks in
    let n : either (length log - 1 == old) (old + 1) (length log - 1) ≡ length (log ++ e ∷ []) - 1 = rw is (omega (arith, length-append log (e ∷ []))) in (
      keeps,
      e ∷ [],
      None,
      tt,
      record { words = ap (λ (k : ℕ). (k, true) ∷ []) n; some = omega (arith, length-append log (e ∷ [])); sealed = snoc_sealed log e lacks' },
      inl (refl, refl),
      rw is (ap (λ w. w ++ e ∷ []) (sym same)),
    )
adds_goes log v e old len lacks sealed some pre false is =
    let all : log ++ [] ≡ log = append-nil log in
    let n : either (length log - 1 == old) (old + 1) (length log - 1) ≡ length (log ++ []) - 1 = rw is (ap (λ l. length l - 1) (sym all)) in (
      keeps,
      [],
      None,
      tt,
      record { words = ap (λ (k : ℕ). (k, true) ∷ []) n; some = subst (λ (l : List Entry). 0 < length l) (sym all) some; sealed = subst IsSealed (sym all) sealed },
      inl (refl, refl),
      rw is tt,
    )

-- whatever the book is, the exchange adds the entry to all that was seen, or finds that the list is longer
pub adds_moves : (v : List Entry) (e : Entry) (old new : ℕ) → length v ≡ old + 1 → new ≡ old + 1 → LacksMark v
    → Moves IsKept shown moved 0 (v, (no_nib, None)) (λ n. either (n == old) new n) (Added (step 0 old new e) (v, (no_nib, None)))
adds_moves v e old new len is lacks cs log kept pre away =
    let P : List Cell → ℕ → Type 0 = λ c m. (0 < length c) × ((cell c 0).1 ≡ true) × Goes IsKept shown moved 0 (v, (no_nib, None)) (λ n. either (n == old) m n) (Added (step 0 old m e) (v, (no_nib, None))) c log in
    subst (λ (m : ℕ). P cs m) (sym is) (subst (λ (c : List Cell). P c (old + 1)) (sym kept.words) (omega arith, refl, adds_goes log v e old len lacks kept.sealed kept.some pre (length log - 1 == old) refl))

pub if_true : (b : Bool) (A B : Type 0) → b ≡ true → MatchBool b A B → A
if_true true A B e h = h
if_true false A B e h = absurd (true≢false (sym e))
