-- Every two inputs have rounds from every place, and only one list of them.
use Rattle.std.proofs.Common.{◌≡◌, ℕ, zero, suc, ◌+◌, ◌-◌, ◌%◌, ◌<◌, ◌≤◌, Bool, true, false, cond, ◌&&◌, nat_le, nat_eq, List, [], ◌∷◌, length, take, drop, refl, sym, ap, subst, ◌∙◌, inl, inr, length-take, length-drop, arith}
use Rattle.std.proofs.lemmas.Bool.{cases_Bool, leb-false, or_parts, both_ways}
use Rattle.pcap_io.specs.declared.frames.Captured.{Captured}
use Rattle.control_files.specs.declared.segments.Segment.{Segment}
use Rattle.rounds.specs.Rounds.{Round, Rounds, is_at_cut, at_cut, is_empty, span, group, wanted, round_segments, round_frames}

and_no : (b : Bool) → (b && false) ≡ false
and_no true = refl
and_no false = refl

pub wanted_alone : (place : ℕ) (behind : List Segment) → wanted place [] behind ≡ span place behind
wanted_alone place behind = ap (λ b. cond b 0 (span place behind)) (and_no (nat_eq place 0))

pub first_in : (ended : Bool) (place : ℕ) (s : Segment) (ss : List Segment) → is_at_cut ended place s ≡ true
    → group ended place (s ∷ ss) ≡ s ∷ take 255 (at_cut ended place ss)
first_in ended place s ss e = ap (λ b. take 256 (cond b (s ∷ at_cut ended place ss) [])) e

pub first_out : (ended : Bool) (place : ℕ) (s : Segment) (ss : List Segment) → is_at_cut ended place s ≡ false
    → group ended place (s ∷ ss) ≡ []
first_out ended place s ss e = ap (λ b. take 256 (cond b (s ∷ at_cut ended place ss) [])) e

take_some : {A : Type 0} (n : ℕ) (xs : List A) → 0 < n → 0 < length xs → 0 < length (take n xs)
take_some n xs h k = omega (arith, length-take n xs)

some_left : {A : Type 0} (xs : List A) → is_empty xs ≡ false → 0 < length xs
some_left [] e = absurd (both_ways true e refl)
some_left (x ∷ xs) e = omega arith

rest_of_256 : (n : ℕ) → 0 < 256 - n % 256
rest_of_256 n = omega arith

span_out : (place : ℕ) (s : Segment) (ss : List Segment) → place < s.position → 0 < span place (s ∷ ss)
span_out place s ss h = let k = rest_of_256 place in omega arith

-- the first round of what is left has a segment or a frame
pub progress : (place : ℕ) (fs : List Captured) (ss : List Segment) → (is_empty fs && is_empty ss) ≡ false
    → 0 < length (round_frames place fs ss) + length (round_segments place fs ss)
unfolding round_segments round_frames
progress place [] [] e = absurd (both_ways true e refl)
progress place (f ∷ fs) [] e =
    let n : 0 < wanted place [] [] = rw wanted_alone (rest_of_256 place) in
    let k : 0 < length (take (wanted place [] []) (f ∷ fs)) = take_some (wanted place [] []) (f ∷ fs) n (omega arith) in
    omega arith
progress place fs (s ∷ ss) e =
    elim (cases_Bool (is_at_cut (is_empty fs) place s)) [
      | inl h ↦ rw (first_in (is_empty fs) place s ss h) (omega arith)
      | inr h ↦
          let parts = or_parts (is_empty fs) (nat_le s.position place) h in
          let n : 0 < wanted place [] (s ∷ ss) = rw wanted_alone (span_out place s ss (leb-false _ _ parts.1)) in
          let k : 0 < length (take (wanted place [] (s ∷ ss)) fs) = take_some (wanted place [] (s ∷ ss)) fs n (some_left fs parts.0) in
          rw (first_out (is_empty fs) place s ss h) (omega arith)
    ]

at_cut_short : (ended : Bool) (place : ℕ) (ss : List Segment) → length (at_cut ended place ss) ≤ length ss
at_cut_short ended place [] = omega arith
at_cut_short ended place (s ∷ ss) =
    elim (is_at_cut ended place s) as (λ b. length (cond b (s ∷ at_cut ended place ss) []) ≤ suc (length ss)) [
      | true ↦ let h = at_cut_short ended place ss in omega arith
      | false ↦ omega arith
    ]

pub segments_short : (place : ℕ) (fs : List Captured) (ss : List Segment) → length (round_segments place fs ss) ≤ length ss
unfolding round_segments
segments_short place fs ss = let h = at_cut_short (is_empty fs) place ss in omega (arith, length-take 256 (at_cut (is_empty fs) place ss))

pub frames_short : (place : ℕ) (fs : List Captured) (ss : List Segment) → length (round_frames place fs ss) ≤ length fs
unfolding round_frames
frames_short place fs ss = omega (arith, length-take (wanted place (round_segments place fs ss) (drop (length (round_segments place fs ss)) ss)) fs)

both_empty : {A B : Type 0} (xs : List A) (ys : List B) → (is_empty xs && is_empty ys) ≡ true → (xs ≡ []) × (ys ≡ [])
both_empty [] [] e = (refl, refl)
both_empty [] (y ∷ ys) e = absurd (both_ways false refl e)
both_empty (x ∷ xs) ys e = absurd (both_ways false refl e)

exists_within : (n place : ℕ) (fs : List Captured) (ss : List Segment) → length fs + length ss ≤ n → (rs : List Round) × Rounds place fs ss rs
exists_within zero place fs ss small =
    elim (cases_Bool (is_empty fs && is_empty ss)) [
      | inl h ↦ ([], both_empty fs ss h)
      | inr h ↦
          let some = progress place fs ss h in
          let a = frames_short place fs ss in
          let b = segments_short place fs ss in
          absurd (omega arith)
    ]
exists_within (suc n) place fs ss small =
    elim (cases_Bool (is_empty fs && is_empty ss)) [
      | inl h ↦ ([], both_empty fs ss h)
      | inr h ↦
          let some = progress place fs ss h in
          let a = frames_short place fs ss in
          let b = segments_short place fs ss in
          let r : Round = record { segments = round_segments place fs ss; frames = round_frames place fs ss } in
          let fewer : length (drop (length (round_frames place fs ss)) fs) + length (drop (length (round_segments place fs ss)) ss) ≤ n =
          omega (arith, length-drop (length (round_frames place fs ss)) fs, length-drop (length (round_segments place fs ss)) ss) in
          let rest = exists_within n (place + length (round_frames place fs ss)) (drop (length (round_frames place fs ss)) fs) (drop (length (round_segments place fs ss)) ss) fewer in
          (r ∷ rest.0, (h, refl, refl, rest.1))
    ]

pub exists : (place : ℕ) (fs : List Captured) (ss : List Segment) → (rs : List Round) × Rounds place fs ss rs
exists place fs ss = exists_within (length fs + length ss) place fs ss (omega arith)

pub same_round : (r q : Round) → r.segments ≡ q.segments → r.frames ≡ q.frames → r ≡ q
same_round r q a b = ap (λ (x : List Segment). record { segments = x; frames = r.frames }) a ∙ ap (λ (x : List Captured). record { segments = q.segments; frames = x }) b

pub unique : (place : ℕ) (fs : List Captured) (ss : List Segment) (rs qs : List Round) → Rounds place fs ss rs → Rounds place fs ss qs → rs ≡ qs
unique place fs ss [] [] h k = refl
unique place fs ss [] (q ∷ qs) h k = absurd (both_ways (is_empty fs && is_empty ss) k.0 (ap (λ (x : List Captured). is_empty x && is_empty ss) h.0 ∙ ap (λ (x : List Segment). is_empty x) h.1))
unique place fs ss (r ∷ rs) [] h k = absurd (both_ways (is_empty fs && is_empty ss) h.0 (ap (λ (x : List Captured). is_empty x && is_empty ss) k.0 ∙ ap (λ (x : List Segment). is_empty x) k.1))
unique place fs ss (r ∷ rs) (q ∷ qs) h k =
    let e : r ≡ q = same_round r q (h.1 ∙ sym k.1) (h.2 ∙ sym k.2) in
    let k2 : Rounds (place + length r.frames) (drop (length r.frames) fs) (drop (length r.segments) ss) qs =
    subst (λ (x : Round). Rounds (place + length x.frames) (drop (length x.frames) fs) (drop (length x.segments) ss) qs) (sym e) k.3 in
    let t = unique (place + length r.frames) (drop (length r.frames) fs) (drop (length r.segments) ss) rs qs h.3 k2 in
    ap (λ (x : Round). x ∷ rs) e ∙ ap (λ (xs : List Round). q ∷ xs) t

pub empty_is : {A : Type 0} (xs : List A) → is_empty xs ≡ true → xs ≡ []
empty_is [] e = refl
empty_is (x ∷ xs) e = cc
