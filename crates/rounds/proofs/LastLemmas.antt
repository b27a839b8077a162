-- The frames of the rounds before the one that holds the last segment are those below its position.
use Rattle.std.proofs.Common.{◌≡◌, ℕ, zero, suc, ◌+◌, ◌-◌, ◌≤◌, ◌≢◌, Bool, true, false, cond, List, [], ◌∷◌, ◌++◌, length, take, drop, refl, sym, ap, subst, ◌∙◌, inl, inr, arith}
use Rattle.std.proofs.lemmas.Bool.{cases_Bool, both_ways}
use Rattle.std.proofs.lemmas.List.{append-nil, take-append-drop, take-take, drop-take}
use Rattle.pcap_io.specs.declared.frames.Captured.{Captured}
use Rattle.control_files.specs.declared.segments.Segment.{Segment}
use Rattle.rounds.specs.Rounds.{Round, Rounds, is_at_cut, at_cut, is_empty, wanted, round_segments, round_frames, frames_of}
use Rattle.rounds.specs.Counted.{last_from, have_segments, rounds_before_last, RisesFrom}
use Rattle.rounds.proofs.RoundLemmas.{empty_is}
use Rattle.rounds.proofs.CountLemmas.{last_taken, none_have, rounds_have}
use Rattle.rounds.proofs.RiseLemmas.{last_above, rises_on}

take_two : (a b : ℕ) (xs : List Captured) → take a xs ++ take b (drop a xs) ≡ take (a + b) xs
take_two a b xs =
    let l : a ≤ a + b = omega arith in
    ap (λ (z : List Captured). z ++ take b (drop a xs)) (sym (take-take a (a + b) xs l))
    ∙ (ap (λ (z : List Captured). take a (take (a + b) xs) ++ z) (sym (drop-take a b xs)) ∙ take-append-drop a (take (a + b) xs))

last_same : (p q : ℕ) (ss : List Segment) → ss ≢ [] → last_from p ss ≡ last_from q ss
last_same p q [] h = absurd (h refl)
last_same p q (s ∷ ss) h = refl

last_behind : (p q n : ℕ) (ss : List Segment) → drop n ss ≢ [] → last_from p (drop n ss) ≡ last_from q ss
last_behind p q zero ss h = last_same p q ss h
last_behind p q (suc n) [] h = absurd (h refl)
last_behind p q (suc n) (s ∷ ss) h = last_behind p s.position n ss h

pub front_taken : (n : ℕ) (ended : Bool) (place : ℕ) (ss : List Segment) → take (length (take n (at_cut ended place ss))) ss ≡ take n (at_cut ended place ss)
front_taken zero ended place ss = refl
front_taken (suc n) ended place [] = refl
front_taken (suc n) ended place (s ∷ ss) =
    elim (is_at_cut ended place s) as (λ b. take (length (take (suc n) (cond b (s ∷ at_cut ended place ss) []))) (s ∷ ss) ≡ take (suc n) (cond b (s ∷ at_cut ended place ss) [])) [
      | true ↦ ap (λ (z : List Segment). s ∷ z) (front_taken n ended place ss)
      | false ↦ refl
    ]

-- where a round takes all segments that are left, and frames are left, the last one stands at or before the place
last_here : (place : ℕ) (fs : List Captured) (ss : List Segment) → is_empty fs ≡ false → drop (length (round_segments place fs ss)) ss ≡ [] → last_from place ss ≤ place
unfolding round_segments
last_here place fs ss some none =
    let g = take 256 (at_cut (is_empty fs) place ss) in
    let all : ss ≡ g = sym (take-append-drop (length g) ss) ∙ (ap (λ (z : List Segment). take (length g) ss ++ z) none ∙ (append-nil (take (length g) ss) ∙ front_taken 256 (is_empty fs) place ss)) in
    let h : last_from place (take 256 (at_cut false place ss)) ≤ place = last_taken 256 place place ss (omega arith) in
    subst (λ (z : List Segment). last_from place z ≤ place) (sym (all ∙ ap (λ b. take 256 (at_cut b place ss)) some)) h

pub frames_at : (place : ℕ) (fs : List Captured) (ss : List Segment) → round_frames place fs ss ≡ take (length (round_frames place fs ss)) fs
unfolding round_frames
frames_at place fs ss =
    let w = wanted place (round_segments place fs ss) (drop (length (round_segments place fs ss)) ss) in
    front_of w fs
  where
    front_of : (n : ℕ) (xs : List Captured) → take n xs ≡ take (length (take n xs)) xs
    front_of zero xs = refl
    front_of (suc n) [] = refl
    front_of (suc n) (x ∷ xs) = ap (λ (z : List Captured). x ∷ z) (front_of n xs)

take_empty : (n : ℕ) → take {A = Captured} n [] ≡ []
take_empty zero = refl
take_empty (suc n) = refl

pub frames_below_last : (place : ℕ) (fs : List Captured) (ss : List Segment) (rs : List Round) → RisesFrom place ss → ss ≢ [] → Rounds place fs ss rs
    → frames_of (rounds_before_last rs) ≡ take (last_from place ss - place) fs
frames_below_last place fs ss [] rises some h = absurd (some h.1)
frames_below_last place fs ss (r ∷ rs) rises some h =
    let a = length r.frames in
    let fs2 = drop a fs in
    let ss2 = drop (length r.segments) ss in
    elim (cases_Bool (have_segments rs)) [
      | inl more ↦
          let left : ss2 ≢ [] = λ z. both_ways (have_segments rs) (none_have (place + a) fs2 rs (subst (λ (x : List Segment). Rounds (place + a) fs2 x rs) z h.3)) more in
          let up : RisesFrom (place + a) ss2 =
          subst (λ (x : List Captured). RisesFrom (place + length x) ss2) (sym h.2)
          (subst (λ (x : List Segment). RisesFrom (place + length (round_frames place fs ss)) (drop (length x) ss)) (sym h.1) (rises_on place fs ss rises)) in
          let tail = frames_below_last (place + a) fs2 ss2 rs up left h.3 in
          let c : last_from (place + a) ss2 ≡ last_from place ss = last_behind (place + a) place (length r.segments) ss left in
          let high : place + a ≤ last_from (place + a) ss2 = last_above (place + a) (place + a) ss2 (omega arith) up in
          let size : a + (last_from (place + a) ss2 - (place + a)) ≡ last_from place ss - place = omega arith in
          let first : r.frames ≡ take a fs = h.2 ∙ (frames_at place fs ss ∙ ap (λ (x : List Captured). take (length x) fs) (sym h.2)) in
          rw more (ap (λ (z : List Captured). r.frames ++ z) tail ∙ (ap (λ (z : List Captured). z ++ take (last_from (place + a) ss2 - (place + a)) fs2) first
          ∙ (take_two a (last_from (place + a) ss2 - (place + a)) fs ∙ ap (λ n. take n fs) size)))
      | inr over ↦
          let none : drop (length (round_segments place fs ss)) ss ≡ [] = all_gone (drop (length (round_segments place fs ss)) ss)
          (λ some2. both_ways (have_segments rs) over (rounds_have (place + a) fs2 ss2 rs (λ z. some2 (ap (λ (x : List Segment). drop (length x) ss) (sym h.1) ∙ z)) h.3)) in
          rw over (elim (cases_Bool (is_empty fs)) [
            | inl gone ↦ sym (ap (λ (x : List Captured). take (last_from place ss - place) x) (empty_is fs gone) ∙ take_empty (last_from place ss - place))
            | inr there ↦
                let low = last_here place fs ss there none in
                let z : last_from place ss - place ≡ 0 = omega arith in
                ap (λ n. take n fs) (sym z)
          ])
    ]
  where
    all_gone : (xs : List Segment) → (xs ≢ [] → ⊥) → xs ≡ []
    all_gone [] k = refl
    all_gone (x ∷ xs) k = absurd (k (λ e. cc))

pub frames_below_c : (fs : List Captured) (ss : List Segment) (rs : List Round) → RisesFrom 0 ss → ss ≢ [] → Rounds 0 fs ss rs → frames_of (rounds_before_last rs) ≡ take (last_from 0 ss) fs
frames_below_c fs ss rs rises some h = let z : last_from 0 ss - 0 ≡ last_from 0 ss = omega arith in frames_below_last 0 fs ss rs rises some h ∙ ap (λ n. take n fs) z
