-- The segments before a frame's round and those of its own are exactly those that stand at or before it.
use Rattle.std.proofs.Common.{◌≡◌, ℕ, zero, suc, ◌+◌, ◌<◌, ◌≤◌, true, false, nat_le, List, [], ◌∷◌, ◌++◌, map, length, take, drop, refl, sym, ap, subst, ◌∙◌, inl, inr, arith}
use Rattle.std.proofs.lemmas.Bool.{cases_Bool, le-leb, lt-leb, leb-true}
use Rattle.std.proofs.lemmas.List.{take-append-drop}
use Rattle.pcap_io.specs.declared.frames.Captured.{Captured}
use Rattle.control_files.specs.declared.segments.Segment.{Segment}
use Rattle.rounds.specs.Rounds.{Round, Rounds, at_cut, is_empty, wanted, round_segments, round_frames}
use Rattle.rounds.specs.Counted.{RisesFrom}
use Rattle.rounds.specs.Places.{Place, places_of, round_places, standing, highs, standing_from}
use Rattle.rounds.proofs.RoundLemmas.{empty_is}
use Rattle.rounds.proofs.RiseLemmas.{rises_on}
use Rattle.rounds.proofs.LastLemmas.{front_taken, frames_at}

standing_append : (j : ℕ) (xs ys : List Segment) → standing j (xs ++ ys) ≡ standing j xs + standing j ys
standing_append j [] ys = omega arith
standing_append j (x ∷ xs) ys =
    elim (cases_Bool (nat_le x.position j)) [
      | inl e ↦ let h = standing_append j xs ys in rw e (omega arith)
      | inr e ↦ rw e (standing_append j xs ys)
    ]

-- all of a cut stand at or before its frames
all_stand : (n place j : ℕ) (ss : List Segment) → place ≤ j → standing j (take n (at_cut false place ss)) ≡ length (take n (at_cut false place ss))
all_stand zero place j ss h = refl
all_stand (suc n) place j [] h = refl
all_stand (suc n) place j (s ∷ ss) h =
    elim (cases_Bool (nat_le s.position place)) [
      | inl e ↦
          let p = leb-true s.position place e in
          let q : nat_le s.position j ≡ true = le-leb s.position j (omega arith) in
          rw (e, q) (ap suc (all_stand n place j ss h))
      | inr e ↦ rw e refl
    ]

none_stand : (j q : ℕ) (ss : List Segment) → j < q → RisesFrom q ss → standing j ss ≡ 0
none_stand j q [] h k = refl
none_stand j q (s ∷ ss) h k =
    let p = k.0 in
    let e : nat_le s.position j ≡ false = lt-leb s.position j (omega arith) in
    rw e (none_stand j s.position ss (omega arith) k.1)

from_append : (place before : ℕ) (xs ys : List Captured) (ss : List Segment) → standing_from place before (xs ++ ys) ss ≡ standing_from place before xs ss ++ standing_from (place + length xs) before ys ss
from_append place before [] ys ss = let z : place ≡ place + 0 = omega arith in ap (λ p. standing_from p before ys ss) z
from_append place before (x ∷ xs) ys ss =
    let z : (place + 1) + length xs ≡ place + suc (length xs) = omega arith in
    ap (λ (t : List ℕ). (before + standing place ss) ∷ t) (from_append (place + 1) before xs ys ss ∙ ap (λ p. standing_from (place + 1) before xs ss ++ standing_from p before ys ss) z)

-- one number for the frames of a round
from_round : (place low high before n : ℕ) (xs : List Captured) (ss : List Segment) → ((j : ℕ) → place ≤ j → j < place + length xs → standing j ss ≡ n)
    → standing_from place before xs ss ≡ highs (map (λ (f : Captured). record { frame = f; low = before; high = before + n }) xs)
from_round place low high before n [] ss h = refl
from_round place low high before n (x ∷ xs) ss h =
    let e : before + standing place ss ≡ before + n = ap (λ k. before + k) (h place (omega arith) (omega arith)) in
    ap (λ k. k ∷ standing_from (place + 1) before xs ss) e ∙ ap (λ (t : List ℕ). (before + n) ∷ t) (from_round (place + 1) low high before n xs ss (λ j a b. h j (omega arith) (omega arith)))

-- behind a round its segments are counted before
from_behind : (place before n : ℕ) (xs : List Captured) (ss more : List Segment) → ((j : ℕ) → place ≤ j → standing j ss ≡ n + standing j more)
    → standing_from place before xs ss ≡ standing_from place (before + n) xs more
from_behind place before n [] ss more h = refl
from_behind place before n (x ∷ xs) ss more h =
    let s = h place (omega arith) in
    let e : before + standing place ss ≡ before + n + standing place more = omega arith in
    ap (λ k. k ∷ standing_from (place + 1) before xs ss) e ∙ ap (λ (t : List ℕ). (before + n + standing place more) ∷ t) (from_behind (place + 1) before n xs ss more (λ j a. h j (omega arith)))

highs_append : (xs ys : List Place) → highs (xs ++ ys) ≡ highs xs ++ highs ys
highs_append [] ys = refl
highs_append (x ∷ xs) ys = ap (λ (t : List ℕ). x.high ∷ t) (highs_append xs ys)

-- the segments of a round that has frames before it, all of which stand at or before them
stand_in_round : (place j : ℕ) (fs : List Captured) (ss : List Segment) → is_empty fs ≡ false → place ≤ j
    → standing j ss ≡ length (round_segments place fs ss) + standing j (drop (length (round_segments place fs ss)) ss)
unfolding round_segments
stand_in_round place j fs ss some h =
    let g = take 256 (at_cut (is_empty fs) place ss) in
    let split : ss ≡ g ++ drop (length g) ss = sym (take-append-drop (length g) ss) ∙ ap (λ (z : List Segment). z ++ drop (length g) ss) (front_taken 256 (is_empty fs) place ss) in
    let all : standing j g ≡ length g = rw some (all_stand 256 place j ss h) in
    ap (λ (z : List Segment). standing j z) split ∙ (standing_append j g (drop (length g) ss) ∙ ap (λ k. k + standing j (drop (length g) ss)) all)

take_empty : (n : ℕ) → take {A = Captured} n [] ≡ []
take_empty zero = refl
take_empty (suc n) = refl

no_frames : (place : ℕ) (ss : List Segment) → round_frames place [] ss ≡ []
unfolding round_frames
no_frames place ss = take_empty (wanted place (round_segments place [] ss) (drop (length (round_segments place [] ss)) ss))

no_highs : (place before : ℕ) (ss : List Segment) (rs : List Round) → Rounds place [] ss rs → highs (places_of before rs) ≡ []
no_highs place before ss [] h = refl
no_highs place before ss (r ∷ rs) h =
    let f : r.frames ≡ [] = h.2 ∙ no_frames place ss in
    let t : Rounds (place + 0) [] (drop (length r.segments) ss) rs = subst (λ (x : List Captured). Rounds (place + length x) (drop (length x) []) (drop (length r.segments) ss) rs) f h.3 in
    ap (λ (x : List Captured). highs (map (λ (f : Captured). record { frame = f; low = before; high = before + length r.segments }) x ++ places_of (before + length r.segments) rs)) f
    ∙ no_highs (place + 0) (before + length r.segments) (drop (length r.segments) ss) rs t

pub highest_is_standing : (place before : ℕ) (fs : List Captured) (ss : List Segment) (rs : List Round) → RisesFrom place ss → Rounds place fs ss rs
    → highs (places_of before rs) ≡ standing_from place before fs ss
highest_is_standing place before fs ss [] rises h = sym (ap (λ (x : List Captured). standing_from place before x ss) h.0)
highest_is_standing place before fs ss (r ∷ rs) rises h =
    elim (cases_Bool (is_empty fs)) [
      | inl none ↦
          let e = empty_is fs none in
          no_highs place before ss (r ∷ rs) (subst (λ (x : List Captured). Rounds place x ss (r ∷ rs)) e h) ∙ sym (ap (λ (x : List Captured). standing_from place before x ss) e)
      | inr some ↦
          let a = length r.frames in
          let n = length r.segments in
          let ss2 = drop n ss in
          let up : RisesFrom (place + a) ss2 =
          subst (λ (x : List Captured). RisesFrom (place + length x) ss2) (sym h.2)
          (subst (λ (x : List Segment). RisesFrom (place + length (round_frames place fs ss)) (drop (length x) ss)) (sym h.1) (rises_on place fs ss rises)) in
          let behind : (j : ℕ) → place ≤ j → standing j ss ≡ n + standing j ss2 =
          λ j l. subst (λ (x : List Segment). standing j ss ≡ length x + standing j (drop (length x) ss)) (sym h.1) (stand_in_round place j fs ss some l) in
          let within : (j : ℕ) → place ≤ j → j < place + a → standing j ss ≡ n =
          λ j l m. let z = none_stand j (place + a) ss2 m up in let b = behind j l in omega arith in
          let first : r.frames ≡ take a fs = h.2 ∙ (frames_at place fs ss ∙ ap (λ (x : List Captured). take (length x) fs) (sym h.2)) in
          let split : fs ≡ r.frames ++ drop a fs = sym (take-append-drop a fs) ∙ ap (λ (z : List Captured). z ++ drop a fs) (sym first) in
          let rest = highest_is_standing (place + a) (before + n) (drop a fs) ss2 rs up h.3 in
          highs_append (round_places before r) (places_of (before + n) rs)
          ∙ (ap (λ (z : List ℕ). z ++ highs (places_of (before + n) rs)) (sym (from_round place before (before + n) before n r.frames ss within))
          ∙ (ap (λ (z : List ℕ). standing_from place before r.frames ss ++ z) (rest ∙ sym (from_behind (place + a) before n (drop a fs) ss ss2 (λ j l. behind j (omega arith))))
          ∙ (sym (from_append place before r.frames (drop a fs) ss) ∙ ap (λ (z : List Captured). standing_from place before z ss) (sym split))))
    ]
