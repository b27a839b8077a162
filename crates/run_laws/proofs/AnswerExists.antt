-- A table has an answer for every identifier and index.
use Rattle.std.proofs.Common.{◌≡◌, ℕ, ◌<◌, ◌≤◌, List, [], ◌∷◌, All, Option, Some, None, arith, inl, inr, refl, ◌⊎◌}
use Rattle.std.proofs.lemmas.Bool.{cases_eq, cases_lt}
use Rattle.std.proofs.lemmas.List.Elements.{All-cons, All-nil}
use Rattle.wire_base.specs.declared.ids.ForwarderId.{ForwarderId}
use Rattle.wire_base.specs.declared.ids.InstanceId.{InstanceId}
use Rattle.path_selection.specs.Answers.{HasNoPath, HasPath, IsAnswer, IsServing, NoneServes, Serves}
use Rattle.path_selection.specs.Paths.{ServicePath}
use Rattle.path_selection.specs.declared.answers.Answer.{Answer}
use Rattle.path_selection.specs.declared.answers.Answer.TheVariants.{At, Ended, NoInstance, NoPath}
use Rattle.path_selection.specs.declared.hops.HopRow.{HopRow}
use Rattle.sfc_routes.proofs.MemberLemmas.{at_front, behind}

-- ---- the hop that serves

NotAbove : ℕ → HopRow → HopRow → Type 0
NotAbove si most row = row.si ≤ si → row.si ≤ most.si

abbrev Serving : List HopRow → ℕ → Type 0
Serving rows si = ((row : HopRow) × Serves rows si row) ⊎ NoneServes rows si

-- the greatest stays the greatest, where a hop above the index, or one that is not greater, joins
stays : (row : HopRow) (rows : List HopRow) (si : ℕ) (most : HopRow) → (row.si ≤ si → row.si ≤ most.si) → Serves rows si most → Serves (row ∷ rows) si most
stays row rows si most low s = record {
  there = behind row rows most s.there;
  not_above = s.not_above;
  greatest = All-cons (λ (other : HopRow). other.si ≤ si → other.si ≤ most.si) row rows low s.greatest;
}

-- a hop that is not above the index serves, where it is not below those behind it
takes : (row : HopRow) (rows : List HopRow) (si : ℕ) → row.si ≤ si → All (λ (other : HopRow). other.si ≤ si → other.si ≤ row.si) rows → Serves (row ∷ rows) si row
takes row rows si not_above rest = record {
  there = at_front row rows;
  not_above = not_above;
  greatest = All-cons (λ (other : HopRow). other.si ≤ si → other.si ≤ row.si) row rows (λ _. omega arith) rest;
}

serving : (rows : List HopRow) (si : ℕ) → Serving rows si
serving [] si = inr (All-nil (λ (row : HopRow). si < row.si))
serving (row ∷ rows) si = elim (serving rows si) [
  | inl found ↦ elim (cases_lt si row.si) [
    | inl above ↦ inl (found.0, stays row rows si found.0 (λ le. absurd (omega (arith, le, above))) found.1)
    | inr not_above ↦ elim (cases_lt found.0.si row.si) [
      | inl greater ↦ inl (row, takes row rows si not_above (λ k d lt. λ le. let most = found.1.greatest k d lt le in omega (arith, most, greater)))
      | inr low ↦ inl (found.0, stays row rows si found.0 (λ le. low) found.1)
    ]
  ]
  | inr none ↦ elim (cases_lt si row.si) [
    | inl above ↦ inr (All-cons (λ (r : HopRow). si < r.si) row rows above none)
    | inr not_above ↦ inl (row, takes row rows si not_above (λ k d lt. λ le. let over = none k d lt in absurd (omega (arith, le, over))))
  ]
]

-- ---- the path of an identifier

named : (table : List ServicePath) (spi : ℕ) → ((path : ServicePath) × HasPath table spi path) ⊎ HasNoPath table spi
named [] spi = inr (All-nil (λ (path : ServicePath). path.spi ≡ spi → ⊥))
named (path ∷ table) spi = elim (cases_eq path.spi spi) [
  | inl same ↦ inl (path, record { there = at_front path table; named = same })
  | inr other ↦ elim (named table spi) [
    | inl found ↦ inl (found.0, record { there = behind path table found.0 found.1.there; named = found.1.named })
    | inr none ↦ inr (All-cons (λ (p : ServicePath). p.spi ≡ spi → ⊥) path table other none)
  ]
]

by_choice : (table : List ServicePath) (spi si : ℕ) (row : HopRow) → IsServing table spi si row → (choice : Option (ForwarderId × InstanceId)) → row.choice ≡ choice → (answer : Answer) × IsAnswer table spi si answer
by_choice table spi si row serves None is = (NoInstance row.si, (row, serves, refl, is))
by_choice table spi si row serves (Some pair) is = (At row.si pair.0 pair.1, (row, serves, refl, is))

pub some_answer : (table : List ServicePath) (spi si : ℕ) → (answer : Answer) × IsAnswer table spi si answer
some_answer table spi si = elim (named table spi) [
  | inl found ↦ elim (serving found.0.rows si) [
    | inl hop ↦ by_choice table spi si hop.0 (found.0, found.1, hop.1) hop.0.choice refl
    | inr ended ↦ (Ended, (found.0, found.1, ended))
  ]
  | inr none ↦ (NoPath, none)
]
