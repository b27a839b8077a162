-- The tables of the versions that a record names, as tables that are known under these versions.
use Rattle.std.proofs.Common.{◌≡◌, ℕ, Bool, cond, eq-eqb, List, [], ◌∷◌, All, length, map, Some, refl, ap, subst, ◌∙◌, arith, inl, inr}
use Rattle.std.specs.List.{AllZip}
use Rattle.std.proofs.lemmas.Bool.{cases_eq, ne_eqb}
use Rattle.std.proofs.lemmas.List.Elements.{All-cons}
use Rattle.path_selection.specs.Paths.{ServicePath}
use Rattle.path_selection.specs.Published.{Published, table_at}
use Rattle.forwarder.specs.Records.{Climbs}
use Rattle.worker_run.specs.Runs.{ClimbsWithin}

-- each version with its table
abbrev pub published : List ℕ → List (List ServicePath) → List Published
published [] tables = []
published (v ∷ vs) [] = []
published (v ∷ vs) (t ∷ ts) = record { version = v; table = t } ∷ published vs ts

-- what holds of each version and its table
pub all_published : (P : ℕ → List ServicePath → Type 0) (vs : List ℕ) (ts : List (List ServicePath)) → AllZip P vs ts → All (λ (p : Published). P p.version p.table) (published vs ts)
all_published P [] ts all = λ k d below. absurd (omega (arith, below))
all_published P (v ∷ vs) [] all = absurd all
all_published P (v ∷ vs) (t ∷ ts) all =
    All-cons (λ (p : Published). P p.version p.table) (record { version = v; table = t }) (published vs ts) all.0 (all_published P vs ts all.1)

-- a version has one table
abbrev pub IsOne : (ℕ → List ServicePath → Type 0) → Type 0
IsOne P = (v : ℕ) (t u : List ServicePath) → P v t → P v u → t ≡ u

-- where one more is known, what was found is found
found_still : (P : ℕ → List ServicePath → Type 0) → IsOne P → (p : Published) (known : List Published) (v : ℕ) (t : List ServicePath) → P p.version p.table → P v t
    → table_at known v ≡ Some t → table_at (p ∷ known) v ≡ Some t
found_still P one p known v t here there found = elim (cases_eq p.version v) [
  | inl is ↦
      ap (λ (b : Bool). cond b (Some p.table) (table_at known v)) (eq-eqb p.version v is)
      ∙ ap Some (one v p.table t (subst (λ (w : ℕ). P w p.table) is here) there)
  | inr apart ↦ ap (λ (b : Bool). cond b (Some p.table) (table_at known v)) (ne_eqb p.version v apart) ∙ found
]

all_found_still : (P : ℕ → List ServicePath → Type 0) → IsOne P → (p : Published) (known : List Published) (vs : List ℕ) (ts : List (List ServicePath)) → P p.version p.table → AllZip P vs ts
    → map (table_at known) vs ≡ map Some ts → map (table_at (p ∷ known)) vs ≡ map Some ts
all_found_still P one p known [] [] here all found = refl
all_found_still P one p known [] (t ∷ ts) here all found = absurd all
all_found_still P one p known (v ∷ vs) [] here all found = absurd all
all_found_still P one p known (v ∷ vs) (t ∷ ts) here all found =
    let first : table_at known v ≡ Some t = cc in
    let rest : map (table_at known) vs ≡ map Some ts = cc in
    let first' = found_still P one p known v t here all.0 first in
    let rest' = all_found_still P one p known vs ts here all.1 rest in
    λ k. first' k ∷ rest' k

-- each version is found with its table
pub all_found : (P : ℕ → List ServicePath → Type 0) → IsOne P → (vs : List ℕ) (ts : List (List ServicePath)) → AllZip P vs ts → map (table_at (published vs ts)) vs ≡ map Some ts
all_found P one [] [] all = refl
all_found P one [] (t ∷ ts) all = absurd all
all_found P one (v ∷ vs) [] all = absurd all
all_found P one (v ∷ vs) (t ∷ ts) all =
    let p : Published = record { version = v; table = t } in
    let first : table_at (p ∷ published vs ts) v ≡ Some t = ap (λ (b : Bool). cond b (Some t) (table_at (published vs ts) v)) (eq-eqb v v refl) in
    let rest = all_found_still P one p (published vs ts) vs ts all.0 all.1 (all_found P one vs ts all.1) in
    λ k. first k ∷ rest k

-- versions that climb within bounds climb to the last of them
pub climbs_to : (low high : ℕ) (vs : List ℕ) → ClimbsWithin low high vs → (after : ℕ) × Climbs low vs after
climbs_to low high [] climbs = (low, refl)
climbs_to low high (v ∷ vs) climbs =
    let rest = climbs_to v high vs climbs.2 in
    (rest.0, (climbs.0, rest.1))

-- as many versions as tables
pub as_many : (P : ℕ → List ServicePath → Type 0) (vs : List ℕ) (ts : List (List ServicePath)) → AllZip P vs ts → length vs ≡ length ts
as_many P [] [] all = refl
as_many P [] (t ∷ ts) all = absurd all
as_many P (v ∷ vs) [] all = absurd all
as_many P (v ∷ vs) (t ∷ ts) all = let rest = as_many P vs ts all.1 in omega (arith, rest)

pub all_tables : (P : ℕ → List ServicePath → Type 0) (Q : List ServicePath → Type 0) → ((v : ℕ) (t : List ServicePath) → P v t → Q t) → (vs : List ℕ) (ts : List (List ServicePath)) → AllZip P vs ts → All Q ts
all_tables P Q f vs [] all = λ k d below. absurd (omega (arith, below))
all_tables P Q f [] (t ∷ ts) all = absurd all
all_tables P Q f (v ∷ vs) (t ∷ ts) all = All-cons Q t ts (f v t all.0) (all_tables P Q f vs ts all.1)
