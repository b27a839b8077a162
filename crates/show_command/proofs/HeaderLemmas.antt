-- The first 252 bytes of a source that comes in pieces.
use Rattle.std.proofs.Common.{◌≡◌, inl, inr, ℕ, ◌+◌, ◌-◌, ◌<◌, ◌≤◌, min, List, [], ◌++◌, take, length, append-nil, Result, Ok, Err, OnOk, refl, sym, ap, subst, ◌∙◌, arith}
use Rattle.std.proofs.lemmas.List.{length-append, length-take, length-take-le, take-append-le, take_min}
use Rattle.std.proofs.lemmas.Bool.{cases_lt}
use Rattle.std.proofs.Math.Seq.{take-append-add, take-length}

-- fewer bytes than are taken
short_taken : (n : ℕ) (l : List ℕ) → length l ≤ n → take n l ≡ l
short_taken n l short = sym (take_min n l) ∙ (ap (λ k. take k l) (omega (arith, short)) ∙ take-length l)

-- a part of the piece is appended
pub kept_on : (taken piece front : List ℕ) (most : ℕ) → front ≡ take 252 taken → most ≡ min (length piece) (252 - length front)
    → front ++ take most piece ≡ take 252 (taken ++ piece)
kept_on taken piece front most is count =
    let long : length front ≡ min 252 (length taken) = ap length is ∙ length-take 252 taken in
    elim (cases_lt (length taken) 252) [
      | inl less ↦
          let all : front ≡ taken = is ∙ (short_taken 252 taken (omega (arith, less))) in
          let room : 252 ≡ length taken + (252 - length taken) = omega (arith, less) in
          let same : most ≡ min (252 - length taken) (length piece) = omega (arith, count, long, less) in
          ap (λ (f : List ℕ). f ++ take most piece) all ∙ (ap (λ n. taken ++ take n piece) same ∙ (ap (λ (p : List ℕ). taken ++ p) (take_min (252 - length taken) piece)
          ∙ (sym (take-append-add taken piece (252 - length taken)) ∙ ap (λ n. take n (taken ++ piece)) (sym room))))
      | inr more ↦
          let none : most ≡ 0 = omega (arith, count, long, more) in
          ap (λ n. front ++ take n piece) none ∙ (append-nil front ∙ (is ∙ sym (take-append-le 252 taken piece more)))
    ]

-- what follows where a call answered Ok
pub if_ok_on : {A E P Q : Type 0} (r : Result A E) → (P → Q) → OnOk r P → OnOk r Q
if_ok_on (Ok x) goes p = goes p
if_ok_on (Err e) goes p = tt
