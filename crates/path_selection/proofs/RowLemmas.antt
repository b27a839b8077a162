-- Rows whose service indexes fall, and the one that serves.
use Rattle.std.proofs.Common.{ℕ, zero, suc, ◌<◌, ◌≤◌, List, [], ◌∷◌, length, get_or, arith, nat_lt, inl, inr}
use Rattle.std.specs.List.Sorted.{IsPartitionedBy}
use Rattle.std.proofs.lemmas.Bool.{cases_lt}
use Rattle.std.proofs.lemmas.Bool.Decides.{nat_tests}
use Rattle.std.proofs.lemmas.List.Elements.{Contains-get_or, All-from_get_or}
use Rattle.path_selection.specs.declared.hops.HopRow.{HopRow}
use Rattle.path_selection.specs.Answers.{NoneServes, Serves}
use Rattle.path_selection.specs.Paths.{FallsBelow}

pub falls_under : (top : ℕ) (rows : List HopRow) → FallsBelow top rows → (j : ℕ) (d : HopRow) → j < length rows → (get_or rows j d).si < top
falls_under top [] f j d h = absurd (omega arith)
falls_under top (x ∷ xs) f zero d h = f.0
falls_under top (x ∷ xs) f (suc j) d h = omega (arith, f.0, falls_under x.si xs f.2 j d (omega arith))

-- a later row is not for a greater index
pub falls_at : (top : ℕ) (rows : List HopRow) → FallsBelow top rows → (i j : ℕ) (d : HopRow) → i ≤ j → j < length rows → (get_or rows j d).si ≤ (get_or rows i d).si
falls_at top [] f i j d le h = absurd (omega arith)
falls_at top (x ∷ xs) f zero zero d le h = omega arith
falls_at top (x ∷ xs) f zero (suc j) d le h = omega (arith, falls_under x.si xs f.2 j d (omega arith))
falls_at top (x ∷ xs) f (suc i) zero d le h = absurd (omega arith)
falls_at top (x ∷ xs) f (suc i) (suc j) d le h = falls_at x.si xs f.2 i j d (omega arith) (omega arith)

-- the rows above an index come before the others
pub falls_parts : (top si : ℕ) (rows : List HopRow) → FallsBelow top rows → IsPartitionedBy (λ (row : HopRow). nat_lt si row.si) rows
falls_parts top si rows f i j d le h e = grind (arith, nat_tests, falls_at top rows f i j d le h, e)

-- where all rows are above the index, none serves
pub none_serves : (si : ℕ) (rows : List HopRow) (place : ℕ) (d : HopRow) → length rows ≤ place → ((k : ℕ) (e : HopRow) → k < place → si < (get_or rows k e).si) → NoneServes rows si
none_serves si rows place d le over = All-from_get_or (λ (row : HopRow). si < row.si) rows d (λ k h. over k d (omega arith))

-- the first row that is not above the index has the greatest of those that are not
greatest_first : (top si : ℕ) (rows : List HopRow) (place k : ℕ) (d : HopRow) → FallsBelow top rows → ((j : ℕ) (e : HopRow) → j < place → si < (get_or rows j e).si) → k < length rows → (get_or rows k d).si ≤ si → (get_or rows k d).si ≤ (get_or rows place d).si
greatest_first top si rows place k d f over h le = elim (cases_lt k place) [
  | inl before ↦ absurd (omega (arith, over k d before, le))
  | inr behind ↦ falls_at top rows f place k d behind h
]

pub first_serves : (top si : ℕ) (rows : List HopRow) (place : ℕ) (d : HopRow) → FallsBelow top rows → place < length rows → ((k : ℕ) (e : HopRow) → k < place → si < (get_or rows k e).si) → (get_or rows place d).si ≤ si → Serves rows si (get_or rows place d)
first_serves top si rows place d f h over not_above = record {
  there = Contains-get_or rows place d h;
  not_above = not_above;
  greatest = All-from_get_or (λ (other : HopRow). other.si ≤ si → other.si ≤ (get_or rows place d).si) rows d (λ k in_rows le. greatest_first top si rows place k d f over in_rows le);
}
