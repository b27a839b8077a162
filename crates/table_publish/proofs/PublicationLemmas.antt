-- What a list of entries says was published, and publications that go on.
use Rattle.std.proofs.Common.{◌≡◌, ℕ, zero, suc, ◌+◌, ◌≤◌, ◌⊎◌, ⊎_elim, inl, inr, Bool, true, false, true≢false, MatchBool, nat_lt, List, [], ◌∷◌, ◌++◌, length, take, get_or, refl, sym, ap, subst, ◌∙◌, arith, append-nil, length-append}
use Rattle.std.proofs.lemmas.Bool.{ltb-true, ltb-false}
use Rattle.std.proofs.lemmas.List.Sums.{fold-append}
use mathlib.Core.List.{IsPrefix}
use Rattle.path_selection.specs.declared.changes.Change.{Change}
use Rattle.path_selection.specs.Paths.{ServicePath}
use Rattle.path_selection.specs.Published.{StartsWith}
use Rattle.path_selection.specs.Scripted.{numbered}
use Rattle.table_publish.specs.declared.entries.Entry.{Entry}
use Rattle.table_publish.specs.declared.entries.Entry.TheVariants.{Open, Changes, Mark}
use Rattle.table_publish.specs.Entries.{begun, lists_of, published_of}
use Rattle.table_publish.specs.Publications.{Publications, Extends, after, changed_by, known_of, longer, table_of, tables_of, version_of}
use Rattle.table_publish.proofs.Marks.{whole, starts_trans}

lists_of-append : (xs ys : List Entry) → lists_of (xs ++ ys) ≡ lists_of xs ++ lists_of ys
lists_of-append [] ys = refl
lists_of-append (Changes cs ∷ xs) ys = ap (λ ls. cs ∷ ls) (lists_of-append xs ys)
lists_of-append (Open o ∷ xs) ys = lists_of-append xs ys
lists_of-append (Mark ∷ xs) ys = lists_of-append xs ys

pub begun-append : (es more : List Entry) → begun es ≡ true → begun (es ++ more) ≡ true
begun-append [] more e = absurd (true≢false (sym e))
begun-append (Open o ∷ es) more e = refl
begun-append (Changes cs ∷ es) more e = absurd (true≢false (sym e))
begun-append (Mark ∷ es) more e = absurd (true≢false (sym e))

-- an entry with changes is one list more
pub published-snoc : (es : List Entry) (cs : List Change) → begun es ≡ true → published_of (es ++ Changes cs ∷ []) ≡ longer (published_of es) cs
published-snoc [] cs e = absurd (true≢false (sym e))
published-snoc (Open o ∷ es) cs e = ap (λ (ls : List (List Change)). record { opening = o.table; first = o.version; lists = ls }) (lists_of-append es (Changes cs ∷ []))
published-snoc (Changes ds ∷ es) cs e = absurd (true≢false (sym e))
published-snoc (Mark ∷ es) cs e = absurd (true≢false (sym e))

pub table_of-longer : (p : Publications) (cs : List Change) → table_of (longer p cs) ≡ changed_by (table_of p) cs
table_of-longer p cs = fold-append changed_by p.opening p.lists (cs ∷ [])

pub version_of-longer : (p : Publications) (cs : List Change) → version_of (longer p cs) ≡ version_of p + 1
version_of-longer p cs = omega (arith, length-append p.lists (cs ∷ []))

pub extends_refl : (p : Publications) → Extends p p
extends_refl p = record { opening = refl; first = refl; lists = whole p.lists }

pub extends_trans : (p q r : Publications) → Extends p q → Extends q r → Extends p r
extends_trans p q r g h = record { opening = g.opening ∙ h.opening; first = g.first ∙ h.first; lists = starts_trans p.lists q.lists r.lists g.lists h.lists }

-- what goes on has no smaller version
pub version_up : (p q : Publications) → Extends p q → version_of q ≤ version_of p
version_up p q e = omega (arith, e.first, ap (λ (ls : List (List Change)). length ls) e.lists.1, length-append q.lists e.lists.0)

says_more : (es more : List Entry) → begun es ≡ true → Extends (published_of (es ++ more)) (published_of es)
says_more [] more e = absurd (true≢false (sym e))
says_more (Open o ∷ es) more e = record { opening = refl; first = refl; lists = (lists_of more, lists_of-append es more) }
says_more (Changes cs ∷ es) more e = absurd (true≢false (sym e))
says_more (Mark ∷ es) more e = absurd (true≢false (sym e))

-- entries that go on say more
pub grown : (all front : List Entry) → begun front ≡ true → StartsWith all front → Extends (published_of all) (published_of front)
grown all front e s = subst (λ (es : List Entry). Extends (published_of es) (published_of front)) (sym s.1) (says_more front s.0 e)

nil_from : {A : Type 0} (xs : List A) → length xs ≡ 0 → xs ≡ []
nil_from [] e = refl
nil_from (x ∷ xs) e = absurd (omega arith)

-- what goes on, and has no greater version, is the same
no_longer : (p q : Publications) → Extends p q → version_of p ≤ version_of q → Extends q p
no_longer p q e le =
    let rest = e.lists.0 in
    let none : rest ≡ [] = nil_from rest (omega (arith, le, e.first, ap (λ (ls : List (List Change)). length ls) e.lists.1, length-append q.lists rest)) in
    let same : p.lists ≡ q.lists = e.lists.1 ∙ (ap (λ (ls : List (List Change)). q.lists ++ ls) none ∙ append-nil q.lists) in
    record { opening = sym e.opening; first = sym e.first; lists = ([], sym same ∙ sym (append-nil p.lists)) }

shorter_first : {A : Type 0} (xs ys zs : List A) → IsPrefix xs zs → IsPrefix ys zs → (StartsWith ys xs) ⊎ (StartsWith xs ys)
shorter_first [] ys zs p q = inl (ys, refl)
shorter_first (x ∷ xs) [] zs p q = inr (x ∷ xs, refl)
shorter_first (x ∷ xs) (y ∷ ys) [] p q = absurd (cc (p.1))
shorter_first {A} (x ∷ xs) (y ∷ ys) (z ∷ zs) p q =
    let heads : x ≡ y = cc (p.1, q.1) in
    ⊎_elim
    (λ (r : StartsWith ys xs). inl (r.0, cc (heads, r.1)))
    (λ (r : StartsWith xs ys). inr (r.0, cc (heads, r.1)))
    (shorter_first xs ys zs (p.0, cc (p.1)) (q.0, cc (q.1)))

-- of two beginnings of one list, that with the version which is not smaller goes on from the other
pub newer_extends : (xs ys zs : List Entry) → IsPrefix xs zs → IsPrefix ys zs → begun xs ≡ true → begun ys ≡ true → version_of (published_of xs) ≤ version_of (published_of ys) → Extends (published_of ys) (published_of xs)
newer_extends xs ys zs p q ex ey le =
    ⊎_elim
    (λ (r : StartsWith ys xs). grown ys xs ex r)
    (λ (r : StartsWith xs ys). no_longer (published_of xs) (published_of ys) (grown xs ys ey r) le)
    (shorter_first xs ys zs p q)

told_apart_by : (b : Bool) (xs ys zs : List Entry) (v w : ℕ) → nat_lt v w ≡ b → IsPrefix xs zs → IsPrefix ys zs → begun xs ≡ true → begun ys ≡ true → v ≡ version_of (published_of xs) → w ≡ version_of (published_of ys)
    → MatchBool b (Extends (published_of ys) (published_of xs)) (Extends (published_of xs) (published_of ys))
told_apart_by true xs ys zs v w less p q ex ey vx wy = newer_extends xs ys zs p q ex ey (omega (arith, ltb-true v w less, vx, wy))
told_apart_by false xs ys zs v w less p q ex ey vx wy = newer_extends ys xs zs q p ey ex (omega (arith, ltb-false v w less, vx, wy))

-- which of two beginnings of one list goes on from the other is told by their versions
pub told_apart : (xs ys zs : List Entry) (v w : ℕ) → IsPrefix xs zs → IsPrefix ys zs → begun xs ≡ true → begun ys ≡ true → v ≡ version_of (published_of xs) → w ≡ version_of (published_of ys)
    → MatchBool (nat_lt v w) (Extends (published_of ys) (published_of xs)) (Extends (published_of xs) (published_of ys))
told_apart xs ys zs v w p q ex ey vx wy = told_apart_by (nat_lt v w) xs ys zs v w refl p q ex ey vx wy

first_table : (n : ℕ) (table : List ServicePath) (lists : List (List Change)) → StartsWith (numbered n (tables_of table lists)) (numbered n (table ∷ []))
first_table n table [] = ([], refl)
first_table n table (cs ∷ lists) = (numbered (n + 1) (tables_of (changed_by table cs) lists), refl)

tables_grow : (n : ℕ) (table : List ServicePath) (front rest : List (List Change)) → StartsWith (numbered n (tables_of table (front ++ rest))) (numbered n (tables_of table front))
tables_grow n table [] rest = first_table n table rest
tables_grow n table (cs ∷ front) rest =
    let r = tables_grow (n + 1) (changed_by table cs) front rest in
    (r.0, ap (λ ps. record { version = n; table = table } ∷ ps) r.1)

-- what goes on knows the same tables, and further ones behind them
pub known_grows : (p q : Publications) → Extends p q → StartsWith (known_of p) (known_of q)
known_grows p q e = rw (e.opening, e.first, e.lists.1) (tables_grow q.first q.opening q.lists e.lists.0)

pub length-tables_of : (table : List ServicePath) (lists : List (List Change)) → length (tables_of table lists) ≡ length lists + 1
length-tables_of table [] = refl
length-tables_of table (cs ∷ lists) = omega (arith, length-tables_of (changed_by table cs) lists)

-- the table at a place is that after so many lists
pub nth_table : (table : List ServicePath) (lists : List (List Change)) (n : ℕ) (d : List ServicePath) → n ≤ length lists → after table (take n lists) ≡ get_or (tables_of table lists) n d
nth_table table [] zero d le = refl
nth_table table [] (suc n) d le = absurd (omega arith)
nth_table table (cs ∷ lists) zero d le = refl
nth_table table (cs ∷ lists) (suc n) d le = nth_table (changed_by table cs) lists n d (omega arith)
