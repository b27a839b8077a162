-- A path that goes, joins or is put in place of another, where the first paths of the new table stand before those of the old one.
use Rattle.std.proofs.Common.{◌≡◌, ℕ, zero, suc, ◌+◌, ◌<◌, ◌≤◌, inl, inr, List, [], ◌∷◌, ◌++◌, length, take, drop, get_or, refl, sym, ap, subst, ◌∙◌, arith, append_assoc, length-append, nat_lt, zero-le, le_refl}
use Rattle.std.proofs.lemmas.Bool.Decides.{nat_tests}
use Rattle.std.proofs.lemmas.List.{append-nil, drop_at, drop_more, get_or_at, drop_all, take-append-drop, take_all, take_at, take_more}
use Rattle.std.proofs.lemmas.List.Elements.{filter-append}
use Rattle.std.proofs.lemmas.List.Sums.{fold-append}
use Rattle.path_selection.specs.declared.changes.Change.{Change}
use Rattle.path_selection.specs.declared.changes.Change.TheVariants.{Cut, Put}
use Rattle.path_selection.specs.Changes.{above, below, changed}
use Rattle.path_selection.specs.Paths.{ArePathRows, IsTable, RisesFrom, ServicePath}
use Rattle.path_selection.proofs.TableLemmas.{all_above, around_found, rises_cut, rises_over, rises_put}
use Rattle.table_publish.specs.Differences.{Brings, Replaces}
use Rattle.table_publish.specs.Publications.{changed_by}

-- the path at the place of a table that is cut in two
around : (front : List ServicePath) (p : ServicePath) (back : List ServicePath) (spi : ℕ) → IsTable (front ++ p ∷ back) → p.spi ≡ spi → (below spi (front ++ p ∷ back) ≡ front) × (above spi (front ++ p ∷ back) ≡ back)
around front p back spi r e =
    let xs = front ++ p ∷ back in
    let n = length front in
    let inside : n < length xs = omega (arith, length-append front (p ∷ back)) in
    let there : (get_or xs n p).spi ≡ spi = ap (λ (q : ServicePath). q.spi) (get_or_at front p back p n refl) ∙ e in
    let found = around_found 0 spi xs n p r inside there in
    let behind : drop (suc n) xs ≡ back = ap (λ (l : List ServicePath). drop (suc n) l) (sym (append_assoc front (p ∷ []) back)) ∙ drop_at (front ++ p ∷ []) back (suc n) (omega (arith, length-append front (p ∷ []))) in
    (sym found.0 ∙ take_at front (p ∷ back) n refl, sym found.1 ∙ behind)

pub cut_at : (front : List ServicePath) (p : ServicePath) (back : List ServicePath) → IsTable (front ++ p ∷ back) → changed (front ++ p ∷ back) (Cut p.spi) ≡ front ++ back
cut_at front p back r = let x = around front p back p.spi r refl in λ i. x.0 i ++ x.1 i

pub put_over : (front : List ServicePath) (p q : ServicePath) (back : List ServicePath) → IsTable (front ++ p ∷ back) → q.spi ≡ p.spi → changed (front ++ p ∷ back) (Put q) ≡ front ++ q ∷ back
put_over front p q back r e = let x = around front p back q.spi r (sym e) in λ i. x.0 i ++ q ∷ x.1 i

-- the rest of a table rises from its first path on
rises_back : (least : ℕ) (front : List ServicePath) (p : ServicePath) (back : List ServicePath) → RisesFrom least (front ++ p ∷ back) → RisesFrom p.spi (p ∷ back)
rises_back least [] p back r = (le_refl p.spi, r.1, r.2)
rises_back least (x ∷ front) p back r = rises_back (x.spi + 1) front p back r.2

-- all before a path of a table are smaller
front_below : (least : ℕ) (front : List ServicePath) (q : ServicePath) (back : List ServicePath) → RisesFrom least (front ++ q ∷ back) → (below q.spi front ≡ front) × (above q.spi front ≡ [])
front_below least [] q back r = (refl, refl)
front_below least (x ∷ front) q back r =
    let rest = front_below (x.spi + 1) front q back r.2 in
    let inside : length front < length (front ++ q ∷ back) = omega (arith, length-append front (q ∷ back)) in
    let less : x.spi < q.spi = omega (arith, rises_over (x.spi + 1) (front ++ q ∷ back) r.2 (length front) q inside, ap (λ (p : ServicePath). p.spi) (get_or_at front q back q (length front) refl)) in
    (grind (arith, nat_tests, rest.0, less), grind (arith, nat_tests, rest.1, less))

-- whether a path's identifier is smaller than those of a list
abbrev pub IsBefore : ServicePath → List ServicePath → Type 0
IsBefore q [] = Unit {0}
IsBefore q (p ∷ ps) = q.spi < p.spi

back_above : (front : List ServicePath) (q : ServicePath) (back : List ServicePath) → IsTable (front ++ back) → IsBefore q back → (below q.spi back ≡ []) × (above q.spi back ≡ back)
back_above front q [] r less = (refl, refl)
back_above front q (p ∷ ps) r less = all_above q.spi p.spi (p ∷ ps) less (rises_back 0 front p ps r)

pub put_before : (front : List ServicePath) (q : ServicePath) (more back : List ServicePath) → IsTable (front ++ q ∷ more) → IsTable (front ++ back) → IsBefore q back → changed (front ++ back) (Put q) ≡ front ++ q ∷ back
put_before front q more back r s less =
    let f = front_below 0 front q more r in
    let b = back_above front q back s less in
    let smaller : below q.spi (front ++ back) ≡ front = filter-append (λ (p : ServicePath). nat_lt p.spi q.spi) front back ∙ ((λ i. f.0 i ++ b.0 i) ∙ append-nil front) in
    let greater : above q.spi (front ++ back) ≡ back = filter-append (λ (p : ServicePath). nat_lt q.spi p.spi) front back ∙ (λ i. f.1 i ++ b.1 i) in
    λ i. smaller i ++ q ∷ greater i

-- ---- steps

rows_of : (front : List ServicePath) (q : ServicePath) (back : List ServicePath) → (least : ℕ) → RisesFrom least (front ++ q ∷ back) → ArePathRows q.rows
rows_of [] q back least r = r.1
rows_of (x ∷ front) q back least r = rows_of front q back (x.spi + 1) r.2

-- what stands after one more change
more : (old : List ServicePath) (changes : List Change) (c : Change) (state next : List ServicePath) → changed_by old changes ≡ state → changed state c ≡ next → changed_by old (changes ++ c ∷ []) ≡ next
more old changes c state next e n = fold-append changed old changes (c ∷ []) ∙ (ap (λ (t : List ServicePath). changed t c) e ∙ n)

first_paths : (xs : List ServicePath) (n : ℕ) (p : ServicePath) → n < length xs → p ≡ get_or xs n p → (drop n xs ≡ p ∷ drop (n + 1) xs) × (take (n + 1) xs ≡ take n xs ++ p ∷ [])
first_paths xs n p lt is =
    (drop_more xs n p lt ∙ ap (λ (q : ServicePath). q ∷ drop (n + 1) xs) (sym is), take_more xs n p lt ∙ ap (λ (q : ServicePath). take n xs ++ q ∷ []) (sym is))

whole_at : (xs : List ServicePath) (n : ℕ) (p : ServicePath) → n < length xs → p ≡ get_or xs n p → xs ≡ take n xs ++ p ∷ drop (n + 1) xs
whole_at xs n p lt is = sym (take-append-drop n xs) ∙ ap (λ (l : List ServicePath). take n xs ++ l) (first_paths xs n p lt is).0

-- a path that goes is cut
pub goes : (old new : List ServicePath) (i j : ℕ) (changes : List Change) (p : ServicePath) → Brings old new i j changes → i < length old → p ≡ get_or old i p → Brings old new (i + 1) j (changes ++ Cut p.spi ∷ [])
goes old new i j changes p x lt is =
    let front = take j new in
    let rest = (first_paths old i p lt is).0 in
    let state : changed_by old changes ≡ front ++ p ∷ drop (i + 1) old = x.so_far ∙ ap (λ (l : List ServicePath). front ++ l) rest in
    let table : IsTable (front ++ p ∷ drop (i + 1) old) = subst (λ (l : List ServicePath). IsTable (front ++ l)) rest x.table in
    let cut = cut_at front p (drop (i + 1) old) table in
    record {
      gone_some = omega (arith, lt);
      made_some = x.made_some;
      so_far = more old changes (Cut p.spi) (front ++ p ∷ drop (i + 1) old) (front ++ drop (i + 1) old) state cut;
      table = subst IsTable cut (rises_cut 0 p.spi (front ++ p ∷ drop (i + 1) old) table);
    }

-- a path with a smaller identifier than the next one stands before all that is left
pub before_rest : (old : List ServicePath) (i : ℕ) (q : ServicePath) → ((p : ServicePath) → (i < length old) × (p ≡ get_or old i p) → q.spi < p.spi) → IsBefore q (drop i old)
before_rest [] zero q less = tt
before_rest [] (suc i) q less = tt
before_rest (p ∷ ps) zero q less = less p (omega arith, refl)
before_rest (p ∷ ps) (suc i) q less = before_rest ps i q (λ r at. less r (omega (arith, at.0), at.1))

-- a path that joins is put
pub joins : (old new : List ServicePath) (i j : ℕ) (changes : List Change) (q : ServicePath) → Brings old new i j changes → IsTable new → j < length new → q ≡ get_or new j q → IsBefore q (drop i old) → Brings old new i (j + 1) (changes ++ Put q ∷ [])
joins old new i j changes q x kept lt is less =
    let front = take j new in
    let back = drop i old in
    let whole : IsTable (front ++ q ∷ drop (j + 1) new) = subst IsTable (whole_at new j q lt is) kept in
    let put = put_before front q (drop (j + 1) new) back whole x.table less in
    let next : front ++ q ∷ back ≡ take (j + 1) new ++ back = sym (append_assoc front (q ∷ []) back) ∙ ap (λ (l : List ServicePath). l ++ back) (sym (first_paths new j q lt is).1) in
    record {
      gone_some = x.gone_some;
      made_some = omega (arith, lt);
      so_far = more old changes (Put q) (front ++ back) (take (j + 1) new ++ back) x.so_far (put ∙ next);
      table = subst IsTable (put ∙ next) (rises_put 0 q (front ++ back) (rows_of front q (drop (j + 1) new) 0 whole) x.table zero-le);
    }

-- a path with an identifier of both stands in the place of the other one
pub stays : (old new : List ServicePath) (i j : ℕ) (changes after : List Change) (p q : ServicePath) → Brings old new i j changes → IsTable new → i < length old → j < length new → p ≡ get_or old i p → q ≡ get_or new j q → q.spi ≡ p.spi
    → Replaces p q changes after → Brings old new (i + 1) (j + 1) after
stays old new i j changes after p q x kept lt lt' is is' e done =
    let front = take j new in
    let back = drop (i + 1) old in
    let rest = (first_paths old i p lt is).0 in
    let state : changed_by old changes ≡ front ++ p ∷ back = x.so_far ∙ ap (λ (l : List ServicePath). front ++ l) rest in
    let table : IsTable (front ++ p ∷ back) = subst (λ (l : List ServicePath). IsTable (front ++ l)) rest x.table in
    let next : front ++ q ∷ back ≡ take (j + 1) new ++ back = sym (append_assoc front (q ∷ []) back) ∙ ap (λ (l : List ServicePath). l ++ back) (sym (first_paths new j q lt' is').1) in
    let put = put_over front p q back table e in
    let whole : IsTable (front ++ q ∷ drop (j + 1) new) = subst IsTable (whole_at new j q lt' is') kept in
    elim done [
      | inl same ↦
          let stands : front ++ p ∷ back ≡ take (j + 1) new ++ back = ap (λ (r : ServicePath). front ++ r ∷ back) same.0 ∙ next in
          record {
            gone_some = omega (arith, lt);
            made_some = omega (arith, lt');
            so_far = ap (λ (cs : List Change). changed_by old cs) same.1 ∙ (state ∙ stands);
            table = subst IsTable stands table;
          }
      | inr longer ↦ record {
        gone_some = omega (arith, lt);
        made_some = omega (arith, lt');
        so_far = ap (λ (cs : List Change). changed_by old cs) longer ∙ more old changes (Put q) (front ++ p ∷ back) (take (j + 1) new ++ back) state (put ∙ next);
        table = subst IsTable (put ∙ next) (rises_put 0 q (front ++ p ∷ back) (rows_of front q (drop (j + 1) new) 0 whole) table zero-le);
      }
    ]

pub same_spi : (xs : List ServicePath) (i : ℕ) (p r : ServicePath) → p ≡ get_or xs i p → r ≡ get_or xs i p → p.spi ≡ r.spi
same_spi xs i p r e f = ap (λ (q : ServicePath). q.spi) (e ∙ sym f)

pub brings_none : (old new : List ServicePath) → IsTable old → Brings old new 0 0 []
brings_none old new kept = record { gone_some = omega arith; made_some = omega arith; so_far = refl; table = kept }

pub all_brought : (old new : List ServicePath) (i j : ℕ) (changes : List Change) → Brings old new i j changes → length old ≤ i → length new ≤ j → changed_by old changes ≡ new
all_brought old new i j changes x le le' = x.so_far ∙ ((λ k. take_all j new le' k ++ drop_all i old le k) ∙ append-nil new)
