-- After a fault of the capture the rounds that count are the rounds of its whole frames and of the segments below their number.
use Rattle.std.proofs.Common.{◌≡◌, ℕ, zero, suc, ◌+◌, ◌-◌, ◌%◌, ◌<◌, ◌≤◌, min, Bool, true, false, cond, not, ◌&&◌, nat_le, nat_lt, nat_eq, List, [], ◌∷◌, length, take, drop, refl, sym, ap, subst, ◌∙◌, inl, inr, length-drop, arith}
use Rattle.std.proofs.lemmas.Bool.{cases_Bool, cases_lt, leb-true, lt-ltb, ltb-false, both_ways}
use Rattle.std.proofs.lemmas.List.{take_all}
use Rattle.pcap_io.specs.declared.frames.Captured.{Captured}
use Rattle.control_files.specs.declared.segments.Segment.{Segment}
use Rattle.rounds.specs.Rounds.{Round, Rounds, at_cut, is_empty, wanted, round_segments, round_frames}
use Rattle.rounds.specs.Counted.{are_below, rounds_below, segments_below, RisesFrom}
use Rattle.rounds.proofs.RoundLemmas.{empty_is, frames_short}
use Rattle.rounds.proofs.CountLemmas.{below_taken}
use Rattle.rounds.proofs.RiseLemmas.{none_below, none_from, rises_on}

-- the segments of a cut below the k-th frame are all below it
same_cut : (place k : ℕ) (ss : List Segment) → place < k → at_cut false place (segments_below k ss) ≡ at_cut false place ss
same_cut place k [] h = refl
same_cut place k (s ∷ ss) h =
    elim (cases_Bool (nat_lt s.position k)) [
      | inl low ↦ rw low (ap (λ (x : List Segment). cond (nat_le s.position place) (s ∷ x) []) (same_cut place k ss h))
      | inr high ↦
          let p = ltb-false s.position k high in
          let out : nat_le s.position place ≡ false = elim (cases_Bool (nat_le s.position place)) [ inl e ↦ absurd (let q = leb-true s.position place e in omega arith) | inr e ↦ e ] in
          rw (high, out) refl
    ]

-- what stands behind them
same_behind : (n place k : ℕ) (ss : List Segment) → place < k
    → drop (length (take n (at_cut false place ss))) (segments_below k ss) ≡ segments_below k (drop (length (take n (at_cut false place ss))) ss)
same_behind zero place k ss h = refl
same_behind (suc n) place k [] h = refl
same_behind (suc n) place k (s ∷ ss) h =
    elim (cases_Bool (nat_le s.position place)) [
      | inl e ↦
          let p = leb-true s.position place e in
          let low : nat_lt s.position k ≡ true = lt-ltb s.position k (omega arith) in
          rw (e, low) (same_behind n place k ss h)
      | inr e ↦ rw e refl
    ]

-- a cut behind the last frame cuts no frame off
same_span : (place k : ℕ) (g ss : List Segment) (fs : List Captured) → k ≡ place + length fs → take (wanted place g (segments_below k ss)) fs ≡ take (wanted place g ss) fs
same_span place k g [] fs e = refl
same_span place k g (s ∷ ss) fs e =
    elim (cases_Bool (nat_lt s.position k)) [
      | inl low ↦ rw low refl
      | inr high ↦
          let p = ltb-false s.position k high in
          rw high (by_case (nat_eq place 0 && not (is_empty g)) (256 - place % 256) (s.position - place) fs (omega arith))
    ]
  where
    short : (a b : ℕ) (xs : List Captured) → length xs ≤ b → take a xs ≡ take (min a b) xs
    short a b xs h = elim (cases_lt a b) [ inl l ↦ ap (λ n. take n xs) (omega arith) | inr l ↦ take_all a xs (omega arith) ∙ sym (take_all (min a b) xs (omega arith)) ]

    by_case : (c : Bool) (a b : ℕ) (xs : List Captured) → length xs ≤ b → take (cond c 0 a) xs ≡ take (cond c 0 (min a b)) xs
    by_case true a b xs h = refl
    by_case false a b xs h = short a b xs h

some_frames : (fs : List Captured) (place : ℕ) → is_empty fs ≡ false → place < place + length fs
some_frames [] place x = absurd (both_ways true x refl)
some_frames (f ∷ fs) place x = omega arith

group_below : (place k : ℕ) (fs : List Captured) (ss : List Segment) → is_empty fs ≡ false → place < k → round_segments place fs (segments_below k ss) ≡ round_segments place fs ss
unfolding round_segments
group_below place k fs ss some h =
    ap (λ b. take 256 (at_cut b place (segments_below k ss))) some ∙ (ap (λ (x : List Segment). take 256 x) (same_cut place k ss h) ∙ ap (λ b. take 256 (at_cut b place ss)) (sym some))

behind_below : (place k : ℕ) (fs : List Captured) (ss : List Segment) → is_empty fs ≡ false → place < k
    → drop (length (round_segments place fs ss)) (segments_below k ss) ≡ segments_below k (drop (length (round_segments place fs ss)) ss)
unfolding round_segments
behind_below place k fs ss some h = rw some (same_behind 256 place k ss h)

frames_below : (place k : ℕ) (fs : List Captured) (ss : List Segment) → is_empty fs ≡ false → k ≡ place + length fs → place < k → round_frames place fs (segments_below k ss) ≡ round_frames place fs ss
unfolding round_frames
frames_below place k fs ss some e h =
    let g = round_segments place fs ss in
    ap (λ (x : List Segment). take (wanted place x (drop (length x) (segments_below k ss))) fs) (group_below place k fs ss some h)
    ∙ (ap (λ (x : List Segment). take (wanted place g x) fs) (behind_below place k fs ss some h)
    ∙ same_span place k g (drop (length g) ss) fs e)

taken_below : (place k : ℕ) (fs : List Captured) (ss : List Segment) → is_empty fs ≡ false → place < k → are_below k (round_segments place fs ss) ≡ true
unfolding round_segments
taken_below place k fs ss some h = rw some (below_taken 256 place k ss h)

pub rounds_of_below : (place k : ℕ) (fs : List Captured) (ss : List Segment) (rs : List Round) → RisesFrom place ss → k ≡ place + length fs → Rounds place fs ss rs
    → Rounds place fs (segments_below k ss) (rounds_below k rs)
rounds_of_below place k fs ss [] rises e h = (h.0, ap (λ (x : List Segment). segments_below k x) h.1)
rounds_of_below place k fs ss (r ∷ rs) rises e h =
    elim (cases_Bool (is_empty fs)) [
      | inl none ↦
          let f : fs ≡ [] = empty_is fs none in
          let at : k ≡ place = e ∙ (ap (λ (x : List Captured). place + length x) f ∙ omega arith) in
          let q : rounds_below k (r ∷ rs) ≡ [] = ap (λ n. rounds_below n (r ∷ rs)) at ∙ none_below place ss (r ∷ rs) rises (subst (λ (x : List Captured). Rounds place x ss (r ∷ rs)) f h) in
          let z : segments_below k ss ≡ [] = ap (λ n. segments_below n ss) at ∙ none_from place ss rises in
          subst (λ (x : List Round). Rounds place fs (segments_below k ss) x) (sym q) (f, z)
      | inr some ↦
          let low : place < k = let w = some_frames fs place some in omega arith in
          let here : are_below k r.segments ≡ true = ap (λ (x : List Segment). are_below k x) h.1 ∙ taken_below place k fs ss some low in
          let q : rounds_below k (r ∷ rs) ≡ r ∷ rounds_below k rs = ap (λ b. cond b (r ∷ rounds_below k rs) []) here in
          let short : length r.frames ≤ length fs = rw h.2 (frames_short place fs ss) in
          let next : k ≡ (place + length r.frames) + length (drop (length r.frames) fs) = omega (arith, length-drop (length r.frames) fs) in
          let up : RisesFrom (place + length r.frames) (drop (length r.segments) ss) =
          subst (λ (x : List Captured). RisesFrom (place + length x) (drop (length r.segments) ss)) (sym h.2)
          (subst (λ (x : List Segment). RisesFrom (place + length (round_frames place fs ss)) (drop (length x) ss)) (sym h.1) (rises_on place fs ss rises)) in
          let rest = rounds_of_below (place + length r.frames) k (drop (length r.frames) fs) (drop (length r.segments) ss) rs up next h.3 in
          let behind : segments_below k (drop (length r.segments) ss) ≡ drop (length r.segments) (segments_below k ss) =
          ap (λ (x : List Segment). segments_below k (drop (length x) ss)) h.1 ∙ (sym (behind_below place k fs ss some low) ∙ ap (λ (x : List Segment). drop (length x) (segments_below k ss)) (sym h.1)) in
          subst (λ (x : List Round). Rounds place fs (segments_below k ss) x) (sym q) (
            rw some refl,
            h.1 ∙ sym (group_below place k fs ss some low),
            h.2 ∙ sym (frames_below place k fs ss some e low),
            subst (λ (x : List Segment). Rounds (place + length r.frames) (drop (length r.frames) fs) x (rounds_below k rs)) behind rest,
          )
    ]
