-- In a table whose codes rise and whose names differ a code finds its name, and a name its code.
use Rattle.std.proofs.Common.{◌≡◌, ◌≢◌, ℕ, zero, suc, ◌<◌, ◌==◌, ◌&&◌, Bool, true, false, not, nat_lt, cond, Option, Some, None, IfSome, List, [], ◌∷◌, ◌++◌, find, slice_index_or, refl, sym, ap, subst, ◌∙◌, arith}
use Rattle.std.specs.List.{Contains}
use Rattle.std.specs.Option.{option_map}
use Rattle.std.specs.Str.{bytes_eq}
use Rattle.std.proofs.lemmas.Bool.{and_parts}
use Rattle.std.proofs.lemmas.Bool.Decides.{Decides-eqb, Decides-ltb}
use Rattle.std.proofs.lemmas.Slice.Eq.{bytes_eq-Decides}
use Rattle.std.proofs.lemmas.List.Elements.{All-nil, All-cons, All-append}
use Rattle.wire_base.specs.Codes.{Row, row, IsTable, is_new, takes, name_in, code_in, IsFoundBothWays}

-- what stands between a row and a later one
abbrev Apart : Row → Row → Type 0
Apart r s = (r.code < s.code) × (r.name ≢ s.name)

apart : (r s : Row) → (nat_lt r.code s.code && not (bytes_eq r.name s.name)) ≡ true → Apart r s
apart r s is =
    let parts = and_parts (nat_lt r.code s.code) (not (bytes_eq r.name s.name)) is in
    let names : not (bytes_eq r.name s.name) ≡ true = parts.1 in
    ((Decides-ltb r.code s.code).0 parts.0, λ same. let eq : bytes_eq r.name s.name ≡ true = (bytes_eq-Decides r.name s.name).1 same in cc)

-- a table with a new row behind its rows
pub table_longer : (rows : List Row) (new : Row) → IsTable rows → is_new rows new ≡ true → IsTable (rows ++ new ∷ [])
table_longer [] new table is = (All-nil (Apart new), tt)
table_longer (r ∷ rows) new table is =
    let parts = and_parts (nat_lt r.code new.code && not (bytes_eq r.name new.name)) (is_new rows new) is in (
      All-append (Apart r) rows (new ∷ []) table.0 (All-cons (Apart r) new [] (apart r new parts.0) (All-nil (Apart r))),
      table_longer rows new table.1 parts.1,
    )

-- a row found behind another
behind : (x : Row) (xs : List Row) (r : Row) → Contains xs r → Contains (x ∷ xs) r
behind x xs r (k, lt, is) = (suc k, omega (arith, lt), is)

not_true : (b : Bool) → (b ≡ true → ⊥) → b ≡ false
not_true true never = absurd (never refl)
not_true false never = refl

name_found : (rows : List Row) → IsTable rows → (r : Row) → Contains rows r → name_in rows r.code ≡ Some r.name
name_found [] table r (k, lt, is) = absurd (omega (arith, lt))
name_found (x ∷ xs) table r (zero, lt, is) =
    let same : x ≡ r = is in
    let test : (x.code == r.code) ≡ true = (Decides-eqb x.code r.code).1 (ap (λ r. r.code) same) in
    let name : x.name ≡ r.name = ap (λ r. r.name) same in
    rw (test, name) refl
name_found (x ∷ xs) table r (suc k, lt, is) =
    let later : Apart x (slice_index_or xs k r) = table.0 k r (omega (arith, lt)) in
    let less : x.code < r.code = subst (λ (s : Row). x.code < s.code) is later.0 in
    let test : (x.code == r.code) ≡ false = not_true (x.code == r.code) (λ e. let same : x.code ≡ r.code = (Decides-eqb x.code r.code).0 e in absurd (omega (arith, same, less))) in
    rw test (name_found xs table.1 r (k, omega (arith, lt), is))

code_found : (rows : List Row) → IsTable rows → (r : Row) → Contains rows r → code_in rows r.name ≡ Some r.code
code_found [] table r (k, lt, is) = absurd (omega (arith, lt))
code_found (x ∷ xs) table r (zero, lt, is) =
    let same : x ≡ r = is in
    let test : bytes_eq x.name r.name ≡ true = (bytes_eq-Decides x.name r.name).1 (ap (λ r. r.name) same) in
    let code : x.code ≡ r.code = ap (λ r. r.code) same in
    rw (test, code) refl
code_found (x ∷ xs) table r (suc k, lt, is) =
    let later : Apart x (slice_index_or xs k r) = table.0 k r (omega (arith, lt)) in
    let differ : x.name ≢ r.name = subst (λ (s : Row). x.name ≢ s.name) is later.1 in
    let test : bytes_eq x.name r.name ≡ false = not_true (bytes_eq x.name r.name) (λ e. differ ((bytes_eq-Decides x.name r.name).0 e)) in
    rw test (code_found xs table.1 r (k, omega (arith, lt), is))

-- the row at the front
at_front : (x : Row) (xs : List Row) (code : ℕ) (name : List ℕ) → x.code ≡ code → x.name ≡ name → Contains (x ∷ xs) (row code name)
at_front x xs code name is_code is_name =
    let same : row x.code x.name ≡ row code name = cc in
    (0, omega arith, same)

name_is_of : (rows : List Row) (code : ℕ) (name : List ℕ) → name_in rows code ≡ Some name → Contains rows (row code name)
name_is_of [] code name is = absurd cc
name_is_of (x ∷ xs) code name is =
    elim (x.code == code)
    as (λ v. (x.code == code) ≡ v → option_map (λ (r : Row). r.name) (cond v (Some x) (find (λ r. r.code == code) xs)) ≡ Some name → Contains (x ∷ xs) (row code name)) [
      | true ↦ λ test found. let is_name : x.name ≡ name = cc in at_front x xs code name ((Decides-eqb x.code code).0 test) is_name
      | false ↦ λ test found. behind x xs (row code name) (name_is_of xs code name found)
    ] refl is

code_is_of : (rows : List Row) (code : ℕ) (name : List ℕ) → code_in rows name ≡ Some code → Contains rows (row code name)
code_is_of [] code name is = absurd cc
code_is_of (x ∷ xs) code name is =
    elim (bytes_eq x.name name)
    as (λ v. bytes_eq x.name name ≡ v → option_map (λ (r : Row). r.code) (cond v (Some x) (find (λ r. bytes_eq r.name name) xs)) ≡ Some code → Contains (x ∷ xs) (row code name)) [
      | true ↦ λ test found. let is_code : x.code ≡ code = cc in at_front x xs code name is_code ((bytes_eq-Decides x.name name).0 test)
      | false ↦ λ test found. behind x xs (row code name) (code_is_of xs code name found)
    ] refl is

pub found_both_ways : (rows : List Row) → IsTable rows → IsFoundBothWays rows
found_both_ways rows table = record {
  names = name_found rows table;
  codes = code_found rows table;
  named = name_is_of rows;
  coded = code_is_of rows;
}

code_of_name : (rows : List Row) (code : ℕ) (name : List ℕ) → IsTable rows → name_in rows code ≡ Some name → code_in rows name ≡ Some code
code_of_name rows code name table is = code_found rows table (row code name) (name_is_of rows code name is)

name_of_code : (rows : List Row) (code : ℕ) (name : List ℕ) → IsTable rows → code_in rows name ≡ Some code → name_in rows code ≡ Some name
name_of_code rows code name table is = name_found rows table (row code name) (code_is_of rows code name is)

pub name_undone : {X : Type 0} (text : X → List ℕ) (rows : List Row) (code : ℕ) (found : Option X) → IsTable rows
    → option_map text found ≡ name_in rows code → IfSome found (λ name. code_in rows (text name) ≡ Some code)
name_undone text rows code None table is = tt
name_undone text rows code (Some name) table is = code_of_name rows code (text name) table (sym is)

pub code_undone : (rows : List Row) (name : List ℕ) (found : Option ℕ) → IsTable rows
    → found ≡ code_in rows name → IfSome found (λ code. name_in rows code ≡ Some name)
code_undone rows name None table is = tt
code_undone rows name (Some code) table is = name_of_code rows code name table (sym is)

-- what a table holds after a row was added that it takes
pub added : (most : ℕ) (old new rows : List Row) (r : Row) (answer : Bool) → answer ≡ takes most old r → new ≡ cond answer (old ++ r ∷ []) old
    → old ≡ rows → takes most rows r ≡ true → new ≡ rows ++ r ∷ []
added most old new rows r answer is_answer is_new same taken =
    let yes : answer ≡ true = is_answer ∙ ap (λ l. takes most l r) same ∙ taken in
    rw yes at is_new ∙ ap (λ l. l ++ r ∷ []) same
