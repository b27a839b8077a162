-- What a lookup of a seat says of the tables that the seat knows.
use Rattle.std.proofs.Common.{◌≡◌, ℕ, ◌+◌, ◌≤◌, Option, Some, None, MatchOption, IfSome, refl, sym, ap, subst, ◌∙◌, arith, length, take, le_refl}
use Rattle.std.proofs.lemmas.List.{take_all}
use Rattle.logbook.specs.declared.tokens.Seen.{Seen}
use Rattle.path_selection.specs.declared.lookups.Found.{Found}
use Rattle.path_selection.specs.Answers.{IsAnswer}
use Rattle.path_selection.specs.Published.{Answers, StartsWith, table_at}
use Rattle.path_selection.proofs.Versions.{table_at-numbered}
use Rattle.table_publish.specs.declared.books.Law.{Law}
use Rattle.table_publish.specs.declared.entries.Entry.{Entry}
use Rattle.table_publish.specs.declared.rules.View.{View}
use Rattle.table_publish.specs.declared.tolds.Sight.{Sight}
use Rattle.table_publish.specs.Entries.{published_of}
use Rattle.table_publish.specs.Looks.{IsSight}
use Rattle.table_publish.specs.Rules.{Tells}
use Rattle.table_publish.specs.Publications.{Publications, Extends, after, known_of, table_of, tables_of, version_of}
use Rattle.table_publish.specs.Views.{SeatView, HasLooked}
use Rattle.table_publish.proofs.Marks.{whole}
use Rattle.table_publish.proofs.PublicationLemmas.{grown, known_grows, length-tables_of, nth_table, version_up}

-- a version names the table after so many of the lists
pub known_at : (p : Publications) (n : ℕ) → n ≤ length p.lists → table_at (known_of p) (p.first + n) ≡ Some (after p.opening (take n p.lists))
known_at p n le =
    let table = after p.opening (take n p.lists) in
    table_at-numbered p.first (p.first + n) n (tables_of p.opening p.lists) table refl (omega (arith, length-tables_of p.opening p.lists, le)) (nth_table p.opening p.lists n table le)

-- the answer of the table after all lists is that of the last version
pub known_answers : (p : Publications) (spi si : ℕ) (f : Found) → f.version ≡ version_of p → IsAnswer (table_of p) spi si f.answer → Answers (known_of p) spi si f
known_answers p spi si f version answer = (
  table_of p,
  ap (table_at (known_of p)) version ∙ (known_at p (length p.lists) (le_refl (length p.lists)) ∙ ap (λ lists. Some (after p.opening lists)) (take_all (length p.lists) p.lists (le_refl (length p.lists)))),
  answer,
)

-- what a seat's look ensures
abbrev pub Look : Option Found → SeatView → SeatView → ℕ → ℕ → Type 0
Look o before after spi si = MatchOption o (after ≡ record { window = before.window; seen = before.seen; newest = before.newest; refused = before.refused + 1 }) (HasLooked before after spi si)

pub look_grows : (o : Option Found) (before after : SeatView) (spi si : ℕ) → Look o before after spi si → StartsWith (known_of after.seen) (known_of before.seen)
look_grows None before after spi si h = subst (λ (s : SeatView). StartsWith (known_of s.seen) (known_of before.seen)) (sym h) (whole (known_of before.seen))
look_grows (Some f) before after spi si h = known_grows after.seen before.seen h.own

pub look_answers : (o : Option Found) (before after : SeatView) (spi si : ℕ) → Look o before after spi si → IfSome o (λ f. Answers (known_of after.seen) spi si f)
look_answers None before after spi si h = tt
look_answers (Some f) before after spi si h = known_answers after.seen spi si f h.version h.answer

pub look_names : (o : Option Found) (before after : SeatView) (spi si : ℕ) → Look o before after spi si → IfSome o (λ f. (version_of before.newest ≤ f.version) × (version_of after.newest ≡ f.version))
look_names None before after spi si h = tt
look_names (Some f) before after spi si h =
    let up = version_up after.seen before.newest h.learned in
    (omega (arith, up, h.version), ap version_of h.newest ∙ sym h.version)

-- a reader that has seen a list looks: the list that it then sees goes on from it
pub looked : (v w : View) (seen : Seen Entry ℕ Law) (named spi si : ℕ) (t : Sight) → Tells v seen named → IsSight v w spi si t → (t.seen.book ≡ seen.book) × Extends (published_of t.seen.log) (published_of seen.log) × IsAnswer (table_of (published_of t.seen.log)) spi si t.answer
looked v w seen named spi si t told sight = (
  sym sight.same ∙ ap (λ (u : View). u.window) told.now,
  grown t.seen.log seen.log told.begins (subst (λ (u : View). StartsWith t.seen.log u.list) told.now sight.begins),
  sight.answer,
)
