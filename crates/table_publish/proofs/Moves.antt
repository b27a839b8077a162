-- Each step keeps the rule of a window.
use Rattle.std.proofs.Common.{◌≡◌, ◌≢◌, ℕ, zero, suc, ◌+◌, List, [], ◌∷◌, ◌++◌, set, false, true≢false, Result, Ok, Err, MatchResult, refl, sym, ap, ◌∙◌, subst, ⊎_elim}
use Rattle.std.specs.Prelude.{is_err, OnErr}
use mathlib.Core.Option.{some, some-ne-none, some-injective}
use lib.ListN.{get_elem?}
use Rattle.crossbeam_utils.specs.Register.{Admits, TurnsAt, Forks, Merges}
use Rattle.atomic_table.proofs.Lists.{at_set, at_snoc}
use Rattle.logbook.specs.declared.tokens.Seen.{Seen}
use Rattle.path_selection.specs.declared.changes.Change.{Change}
use Rattle.path_selection.specs.Published.{StartsWith}
use Rattle.table_publish.specs.declared.books.Law.{Law}
use Rattle.table_publish.specs.declared.stores.Store.{Store}
use Rattle.table_publish.specs.declared.stores.Content.{Content}
use Rattle.table_publish.specs.declared.entries.Entry.{Entry}
use Rattle.table_publish.specs.declared.entries.Entry.TheVariants.{Changes}
use Rattle.table_publish.specs.declared.stores.Operation.TheVariants.{Enter}
use Rattle.table_publish.specs.declared.rules.View.{View}
use Rattle.table_publish.specs.Contents.{content_of, absorbed}
use Rattle.table_publish.specs.Entries.{begun, published_of, LacksMark}
use Rattle.table_publish.specs.Publications.{changed_by, longer, table_of, version_of}
use Rattle.table_publish.specs.Rules.{newcomer, view_at, Stands, Fits, IsHeld, Sees}
use Rattle.table_publish.proofs.Marks.{snoc_lacks, whole, starts_trans}
use Rattle.table_publish.proofs.PublicationLemmas.{begun-append, published-snoc, table_of-longer, version_of-longer}

new_fits : (x : Store) → Fits x newcomer
new_fits x o = absurd (true≢false (sym o))

fits_set : (x : Store) (seat : ℕ) (views : List View) (w : View) → ((j : ℕ) (u : View) → get_elem? views j ≡ some u → Fits x u) → Fits x w
    → (j : ℕ) (u : View) → get_elem? (set views seat w) j ≡ some u → Fits x u
fits_set x seat views w others mine j u e =
    ⊎_elim
    (λ (t : (j ≡ seat) × (w ≡ u)). subst (Fits x) t.1 mine)
    (λ (t : (j ≢ seat) × (get_elem? views j ≡ some u)). others j u t.1)
    (at_set views seat j w u e)

fits_snoc : (x : Store) (views : List View) (w : View) → ((j : ℕ) (u : View) → get_elem? views j ≡ some u → Fits x u) → Fits x w
    → (j : ℕ) (u : View) → get_elem? (views ++ w ∷ []) j ≡ some u → Fits x u
fits_snoc x views w others new j u e =
    ⊎_elim (λ (was : get_elem? views j ≡ some u). others j u was) (λ (same : w ≡ u). subst (Fits x) same new) (at_snoc views w u j e)

fits_longer : (x y : Store) (v : View) → y.seen.book ≡ x.seen.book → StartsWith y.seen.log x.seen.log → Fits x v → Fits y v
fits_longer x y v book more f o = let k = f o in (k.0 ∙ sym book, starts_trans y.seen.log x.seen.log v.list more k.1)

-- a window begins
pub begins : (x : Store) → Stands x → IsHeld x (newcomer ∷ [])
begins x s = record { stands = s; each = one }
  where
    one : (seat : ℕ) (v : View) → get_elem? (newcomer ∷ []) seat ≡ some v → Fits x v
    one zero v e = subst (Fits x) (some-injective _ _ e) (new_fits x)
    one (suc seat) v e = absurd (some-ne-none v (sym e))

-- a reader is made
pub admits : Admits IsHeld newcomer
admits x views h = record { stands = h.stands; each = fits_snoc x views newcomer h.each (new_fits x) }

-- the published value becomes one with a longer list, which is then seen
turns : (seat : ℕ) (v : View) (x y : Store) → Stands y → y.seen.book ≡ x.seen.book → StartsWith y.seen.log x.seen.log → TurnsAt IsHeld seat v x y Sees
turns seat v x y s book more views h here = (
  view_at y.seen,
  record { stands = s; each = fits_set y seat views (view_at y.seen) (λ j u e. fits_longer x y u book more (h.each j u e)) (λ o. (refl, whole y.seen.log)) },
  record { now = refl; fits = fits_longer x y v book more (h.each seat v here); stands = s },
)

-- a reader looks
pub looks : (seat : ℕ) (v : View) (x : Store) → TurnsAt IsHeld seat v x x Sees
looks seat v x views h here = turns seat v x x h.stands refl (whole x.seen.log) views h here

pub stands_as : (x y : Store) → content_of y ≡ content_of x → Stands x → Stands y
stands_as x y is s =
    let log : y.seen.log ≡ x.seen.log = ap (λ (c : Content). c.seen.log) is in
    let table : y.table ≡ x.table = ap (λ (c : Content). c.table) is in
    let version : y.version ≡ x.version = ap (λ (c : Content). c.version) is in record {
      table = table ∙ (s.table ∙ ap (λ (es : List Entry). table_of (published_of es)) (sym log));
      version = version ∙ (s.version ∙ ap (λ (es : List Entry). version_of (published_of es)) (sym log));
      begins = ap begun log ∙ s.begins;
      lacks = subst LacksMark (sym log) s.lacks;
    }

-- the publisher opens the window
pub opens : (seat : ℕ) (v : View) (x next : Store) → Stands x → content_of next ≡ content_of x → TurnsAt IsHeld seat v x next Sees
opens seat v x next s is =
    let log : next.seen.log ≡ x.seen.log = ap (λ (c : Content). c.seen.log) is in
    turns seat v x next (stands_as x next is s) (ap (λ (c : Content). c.seen.book) is) (subst (λ (es : List Entry). StartsWith es x.seen.log) (sym log) (whole x.seen.log))

-- the publisher publishes
pub sends : (seat : ℕ) (v : View) (x next : Store) (cs : List Change) (seen : Seen Entry ℕ Law) → Stands x → seen.book ≡ x.seen.book → seen.log ≡ x.seen.log ++ Changes cs ∷ []
    → content_of next ≡ absorbed (content_of x) (Enter cs seen) → TurnsAt IsHeld seat v x next Sees
sends seat v x next cs seen s book list is =
    let log : next.seen.log ≡ x.seen.log ++ Changes cs ∷ [] = ap (λ (c : Content). c.seen.log) is ∙ list in
    let published : published_of next.seen.log ≡ longer (published_of x.seen.log) cs = ap published_of log ∙ published-snoc x.seen.log cs s.begins in
    let table : next.table ≡ changed_by x.table cs = ap (λ (c : Content). c.table) is in
    let version : next.version ≡ x.version + 1 = ap (λ (c : Content). c.version) is in
    let stands : Stands next = record {
      table = table ∙ (ap (λ t. changed_by t cs) s.table ∙ (sym (table_of-longer (published_of x.seen.log) cs) ∙ ap table_of (sym published)));
      version = version ∙ (ap (λ n. n + 1) s.version ∙ (sym (version_of-longer (published_of x.seen.log) cs) ∙ ap version_of (sym published)));
      begins = ap begun log ∙ begun-append x.seen.log (Changes cs ∷ []) s.begins;
      lacks = subst LacksMark (sym log) (snoc_lacks x.seen.log cs s.lacks);
    } in
    turns seat v x next stands (ap (λ (c : Content). c.seen.book) is ∙ book) (Changes cs ∷ [], log)

-- the publisher tells
pub tells : (seat : ℕ) (v : View) → Forks IsHeld seat v v v
tells seat v x views h here = record {
  stands = h.stands;
  each = fits_snoc x (set views seat v) v (fits_set x seat views v h.each (h.each seat v here)) (h.each seat v here);
}

-- a new reader learns
pub learns : (seat : ℕ) (v : View) (other : ℕ) (w : View) → Merges IsHeld seat v other w w newcomer
learns seat v other w x views h here apart there =
    let told : Fits x w = ⊎_elim (λ (t : (other ≡ seat) × (w ≡ w)). absurd (apart t.0)) (λ (t : (other ≢ seat) × (get_elem? views other ≡ some w)). h.each other w t.1) (at_set views seat other w w there) in record {
      stands = h.stands;
      each = fits_set x other (set views seat w) newcomer (fits_set x seat views w h.each told) (new_fits x);
    }

pub unless_err : {E : Type 0} (r : Result (Unit {0}) E) (A : Type 0) (B : E → Type 0) → false ≡ is_err r → MatchResult r (λ _. A) B → A
unless_err (Ok x) A B e h = h
unless_err (Err x) A B e h = absurd (true≢false (sym e))

pub on_any_err : {A E : Type 0} (r : Result A E) (P : Type 0) → P → OnErr r P
on_any_err (Ok x) P p = tt
on_any_err (Err e) P p = p
