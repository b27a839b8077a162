-- The versions of a round: one change more, those of many changes, and the table that a version names.
use Rattle.std.proofs.Common.{◌≡◌, ℕ, ◌+◌, ◌≤◌, Bool, true, false, cond, eq-eqb, List, [], ◌∷◌, ◌++◌, Option, Some, None, length, take, refl, sym, ap, subst, ◌∙◌, arith, append_assoc, append-nil, length-append, inl, inr}
use Rattle.std.proofs.lemmas.Bool.{cases_eq, ne_eqb}
use Rattle.std.proofs.lemmas.List.{take-append-le, take_all}
use Rattle.path_selection.specs.declared.changes.Change.{Change}
use Rattle.path_selection.specs.Paths.{ServicePath}
use Rattle.path_selection.specs.Published.{table_at}
use Rattle.path_selection.specs.Scripted.{numbered}
use Rattle.sfc_routes.specs.Entries.{Entries}
use Rattle.sfc_routes.specs.declared.route_changes.RouteChange.{RouteChange}
use Rattle.table_publish.specs.Publications.{after, changed_by, tables_of}
use Rattle.control_histories.specs.Versions.{IsVersion, TableAfter}
use Rattle.worker_run.specs.declared.versions.Versions.{Versions}
use Rattle.worker_run.specs.Publications.{Adds, AddsOne, AreVersions, latest}

-- ---- one behind the other

pub versions_join : (roster : Entries) (changes more later : List RouteChange) (table : List ServicePath) (lists rest : List (List Change))
    → AreVersions roster changes more table lists → AreVersions roster (changes ++ more) later (after table lists) rest → AreVersions roster changes (more ++ later) table (lists ++ rest)
versions_join roster changes [] later table [] rest x y = subst (λ (l : List RouteChange). AreVersions roster l later table rest) (append-nil changes) y
versions_join roster changes [] later table (l ∷ ls) rest x y = absurd x
versions_join roster changes (m ∷ ms) later table [] rest x y = absurd x
versions_join roster changes (m ∷ ms) later table (l ∷ ls) rest x y = (
  x.0,
  versions_join roster (changes ++ m ∷ []) ms later (changed_by table l) ls rest x.1
      (subst (λ (c : List RouteChange). AreVersions roster c later (after (changed_by table l) ls) rest) (sym (append_assoc changes (m ∷ []) ms)) y),
)

after_append : (table : List ServicePath) (lists rest : List (List Change)) → after table (lists ++ rest) ≡ after (after table lists) rest
after_append table [] rest = refl
after_append table (l ∷ ls) rest = after_append (changed_by table l) ls rest

pub adds_none : (roster : Entries) (changes : List RouteChange) (opening : List ServicePath) (v : Versions) → TableAfter roster changes (latest opening v.last) → Adds roster changes [] opening v v
adds_none roster changes opening v x = record { made = []; lists_are = sym (append-nil v.lists.items); are = x; last_is = refl }

pub adds_more : (roster : Entries) (changes more later : List RouteChange) (opening : List ServicePath) (old mid new : Versions)
    → Adds roster changes more opening old mid → Adds roster (changes ++ more) later opening mid new → Adds roster changes (more ++ later) opening old new
adds_more roster changes more later opening old mid new x y = record {
  made = x.made ++ y.made;
  lists_are = y.lists_are ∙ ap (λ (l : List (List Change)). l ++ y.made) x.lists_are ∙ append_assoc old.lists.items x.made y.made;
  are = versions_join roster changes more later (latest opening old.last) x.made y.made x.are (subst (λ (t : List ServicePath). AreVersions roster (changes ++ more) later t y.made) x.last_is y.are);
  last_is = y.last_is ∙ ap (λ (t : List ServicePath). after t y.made) x.last_is ∙ sym (after_append (latest opening old.last) x.made y.made);
}

pub adds_one : (roster : Entries) (changes : List RouteChange) (change : RouteChange) (opening : List ServicePath) (old new : Versions)
    → TableAfter roster changes (latest opening old.last) → AddsOne roster (changes ++ change ∷ []) opening old new → Adds roster changes (change ∷ []) opening old new
adds_one roster changes change opening old new before x = record {
  made = x.list ∷ [];
  lists_are = x.lists_are;
  are = (before, subst (TableAfter roster (changes ++ change ∷ [])) x.last_is x.table_is);
  last_is = x.last_is;
}

pub last_version : (roster : Entries) (changes more : List RouteChange) (table : List ServicePath) (lists : List (List Change))
    → AreVersions roster changes more table lists → TableAfter roster (changes ++ more) (after table lists) × (length lists ≡ length more)
last_version roster changes [] table [] x = (subst (λ (l : List RouteChange). TableAfter roster l table) (sym (append-nil changes)) x, refl)
last_version roster changes [] table (l ∷ ls) x = absurd x
last_version roster changes (m ∷ ms) table [] x = absurd x
last_version roster changes (m ∷ ms) table (l ∷ ls) x =
    let rest = last_version roster (changes ++ m ∷ []) ms (changed_by table l) ls x.1 in
    let many = rest.1 in
    (subst (λ (c : List RouteChange). TableAfter roster c (after (changed_by table l) ls)) (append_assoc changes (m ∷ []) ms) rest.0, omega (arith, many))

-- ---- the table of a version

pub named_here : (b : Bool) (table t : List ServicePath) (o : Option (List ServicePath)) → cond b (Some table) o ≡ Some t → b ≡ true → t ≡ table
named_here b table t o e is = let found : Some table ≡ Some t = subst (λ (c : Bool). cond c (Some table) o ≡ Some t) is e in cc

pub named_later : (b : Bool) (table t : List ServicePath) (o : Option (List ServicePath)) → cond b (Some table) o ≡ Some t → b ≡ false → o ≡ Some t
named_later b table t o e is = subst (λ (c : Bool). cond c (Some table) o ≡ Some t) is e

first_version : (roster : Entries) (changes more : List RouteChange) (table t : List ServicePath) (n v : ℕ) → n ≡ length changes → n ≡ v → t ≡ table → TableAfter roster changes table → IsVersion roster (changes ++ more) v t
first_version roster changes more table t n v is same named x =
    let few : v ≤ length changes = omega (arith, is, same) in
    let all : take v (changes ++ more) ≡ changes = take-append-le v changes more few ∙ take_all v changes (omega (arith, is, same)) in
    record {
      made = omega (arith, few, length-append changes more);
      table_is = subst (λ (l : List RouteChange). TableAfter roster l t) (sym all) (subst (TableAfter roster changes) (sym named) x);
    }

-- the table that is published under a version is that after so many changes
pub version_named : (roster : Entries) (changes more : List RouteChange) (table t : List ServicePath) (lists : List (List Change)) (n v : ℕ)
    → AreVersions roster changes more table lists → n ≡ length changes → table_at (numbered n (tables_of table lists)) v ≡ Some t → IsVersion roster (changes ++ more) v t
version_named roster changes [] table t [] n v x is named = elim (cases_eq n v) [
  | inl same ↦ first_version roster changes [] table t n v is same (named_here _ table t None named (eq-eqb n v same)) x
  | inr apart ↦ let never : None ≡ Some t = named_later _ table t None named (ne_eqb n v apart) in absurd (cc)
]
version_named roster changes [] table t (l ∷ ls) n v x is named = absurd x
version_named roster changes (m ∷ ms) table t [] n v x is named = absurd x
version_named roster changes (m ∷ ms) table t (l ∷ ls) n v x is named = elim (cases_eq n v) [
  | inl same ↦ first_version roster changes (m ∷ ms) table t n v is same (named_here _ table t _ named (eq-eqb n v same)) x.0
  | inr apart ↦
      subst (λ (c : List RouteChange). IsVersion roster c v t) (append_assoc changes (m ∷ []) ms)
      (version_named roster (changes ++ m ∷ []) ms (changed_by table l) t ls (n + 1) v x.1 (omega (arith, is, length-append changes (m ∷ []))) (named_later _ table t _ named (ne_eqb n v apart)))
]
