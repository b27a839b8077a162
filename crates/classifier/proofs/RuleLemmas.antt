-- The rule at a place decides, where it matches and no rule before the place does.
use Rattle.std.proofs.Common.{◌≡◌, ℕ, suc, ◌<◌, List, ◌∷◌, ◌++◌, All, length, take, drop, get_or, subst, sym, ap, ◌∙◌, inl, arith}
use Rattle.std.proofs.Math.Seq.{drop-cons}
use Rattle.std.proofs.lemmas.List.{take-append-drop, get_or-take, length-take-le}
use Rattle.net_frames.specs.declared.contents.Fields.{Fields}
use Rattle.classifier.specs.declared.rules.Rule.{Rule}
use Rattle.classifier.specs.declared.verdicts.Verdict.{Verdict}
use Rattle.classifier.specs.Matching.{Matches}
use Rattle.classifier.specs.Verdicts.{Decides, Decided, Ruled, verdict_of}

-- a list as what stands before a place, what stands there, and what stands behind it
split_at : (rules : List Rule) (i : ℕ) (r : Rule) → i < length rules → r ≡ get_or rules i r → rules ≡ take i rules ++ r ∷ drop (suc i) rules
split_at rules i r there same =
    sym (take-append-drop i rules)
    ∙ ap (λ l. take i rules ++ l) (drop-cons rules i r there ∙ ap (λ q. q ∷ drop (suc i) rules) (sym same))

-- no rule before the place matches
none_before : (rules : List Rule) (f : Fields) (i : ℕ) → i < length rules → ((k : ℕ) (d : Rule) → k < i → Matches (get_or rules k d) f → ⊥)
    → All (λ r. ¬ (Matches r f)) (take i rules)
none_before rules f i there none = λ k d lt. λ matching.
    let len = length-take-le i rules (omega (arith, there)) in
    let before : k < i = omega (arith, lt, len) in
    none k d before (subst (λ r. Matches r f) (get_or-take i rules k d before) matching)

pub decided : (rules : List Rule) (f : Fields) (i : ℕ) (r : Rule) (v : Verdict) → i < length rules → r ≡ get_or rules i r
    → ((k : ℕ) (d : Rule) → k < i → Matches (get_or rules k d) f → ⊥) → Matches r f → v ≡ verdict_of r.action → Ruled rules f v
decided rules f i r v there same none matching value =
    let first : Decides rules f r = record {
      earlier = take i rules;
      later = drop (suc i) rules;
      listed = split_at rules i r there same;
      matching = matching;
      unmatched = none_before rules f i there none;
    } in
    let all : Decided rules f v = record { rule = r; decides = first; value = value } in
    inl all
