-- What a list of published tables has under a version.
use Rattle.std.proofs.Common.{◌≡◌, refl, drop, slice_index, ℕ, zero, suc, ◌+◌, ◌<◌, ◌≤◌, List, [], ◌∷◌, length, get_or, Some, arith}
use Rattle.std.proofs.lemmas.Bool.Decides.{nat_tests}
use Rattle.path_selection.specs.Paths.{ServicePath}
use Rattle.path_selection.specs.Published.{table_at}
use Rattle.path_selection.specs.Scripted.{TakesPick, numbered}

-- numbered tables stand under their numbers
pub table_at-numbered : (first v i : ℕ) (ts : List (List ServicePath)) (t : List ServicePath) → v ≡ first + i → i < length ts → t ≡ get_or ts i t → table_at (numbered first ts) v ≡ Some t
table_at-numbered first v i [] t e h is = absurd (omega arith)
table_at-numbered first v zero (x ∷ xs) t e h is = grind (arith, nat_tests)
table_at-numbered first v (suc i) (x ∷ xs) t e h is = grind (arith, nat_tests, table_at-numbered (first + 1) v i xs t (omega arith) (omega arith) is)

-- where a pick stands behind one, it is the next
pub takes_next : (picks : List ℕ) (place : ℕ) → place + 1 < length picks → TakesPick (drop place picks) (slice_index picks place) (drop (suc place) picks)
takes_next [] place h = absurd (omega arith)
takes_next (a ∷ []) place h = absurd (omega arith)
takes_next (a ∷ b ∷ rest) zero h = (refl, refl)
takes_next (a ∷ b ∷ rest) (suc place) h = takes_next (b ∷ rest) place (omega arith)

-- the last pick stays
pub takes_last : (picks : List ℕ) (place : ℕ) → place < length picks → length picks ≤ place + 1 → TakesPick (drop place picks) (slice_index picks place) (drop place picks)
takes_last [] place h last = absurd (omega arith)
takes_last (a ∷ []) zero h last = (refl, refl)
takes_last (a ∷ b ∷ rest) zero h last = absurd (omega arith)
takes_last (a ∷ rest) (suc place) h last = takes_last rest place (omega arith) (omega arith)
