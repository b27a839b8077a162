-- The records so far of a batch, counted one by one.
use Rattle.std.proofs.Common.{◌≡◌, ℕ, ◌+◌, ◌<◌, ◌≤◌, Bool, not, cond, List, length, take, [], get_or, refl, sym, ap, ◌∙◌, ◌++◌, append_assoc, arith, length-take}
use Rattle.std.specs.List.{filter}
use Rattle.std.proofs.lemmas.List.{get_or-map, length-map, take-map}
use Rattle.std.proofs.lemmas.List.Filters.{length-filter_both, length-filter_more}
use Rattle.record_text.specs.declared.records.Record.{Record}
use Rattle.worker_run.specs.Batches.{Carried, pushed, records_in}

-- a frame that no batch needs to have
abbrev pub no_frame : Carried
no_frame = pushed (record { seconds = 0; fraction = 0; original = 0; bytes = [] })

-- one record more
pub counted_more : (p : Record → Bool) (batch : List Carried) (i : ℕ) (d : Carried) → i < length batch → length (filter p (records_in (take (i + 1) batch))) ≡ length (filter p (records_in (take i batch))) + cond (p (get_or batch i d).outcome) 1 0
counted_more p batch i d small =
    let outcome = λ (c : Carried). c.outcome in
    ap (λ (l : List Record). length (filter p l)) (sym (take-map outcome (i + 1) batch))
    ∙ (length-filter_more p (records_in batch) i d.outcome (omega (arith, small, length-map batch outcome))
    ∙ (ap (λ (l : List Record). length (filter p l) + cond (p (get_or (records_in batch) i d.outcome)) 1 0) (take-map outcome i batch)
    ∙ ap (λ (r : Record). length (filter p (records_in (take i batch))) + cond (p r) 1 0) (get_or-map outcome batch i d d.outcome small)))

-- no more are counted than there are
pub few_counted : (p : Record → Bool) (records : List Record) → length (filter p records) ≤ length records
few_counted p records = omega (arith, length-filter_both p (λ r. not (p r)) (λ r. refl) records)

pub counted_few : (p : Record → Bool) (batch : List Carried) (i : ℕ) → length (filter p (records_in (take i batch))) ≤ i
counted_few p batch i =
    omega (arith, few_counted p (records_in (take i batch)), length-map (take i batch) (λ (c : Carried). c.outcome), length-take i batch)

-- four pieces one behind the other, and an end
pub joined : (out a b c d end first second third fourth : List ℕ) → first ≡ out ++ a → second ≡ first ++ b → third ≡ second ++ c → fourth ≡ third ++ d → fourth ++ end ≡ out ++ (a ++ b ++ c ++ d ++ end)
joined out a b c d end first second third fourth is_a is_b is_c is_d =
    let two : second ≡ out ++ (a ++ b) = is_b ∙ (ap (λ (l : List ℕ). l ++ b) is_a ∙ append_assoc out a b) in
    let three : third ≡ out ++ (a ++ b ++ c) = is_c ∙ (ap (λ (l : List ℕ). l ++ c) two ∙ append_assoc out (a ++ b) c) in
    let four : fourth ≡ out ++ (a ++ b ++ c ++ d) = is_d ∙ (ap (λ (l : List ℕ). l ++ d) three ∙ append_assoc out (a ++ b ++ c) d) in
    ap (λ (l : List ℕ). l ++ end) four ∙ append_assoc out (a ++ b ++ c ++ d) end
