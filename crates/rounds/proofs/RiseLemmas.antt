-- Segments that stand in order, from a place on.
use Rattle.std.proofs.Common.{◌≡◌, ℕ, zero, suc, ◌+◌, ◌-◌, ◌≤◌, true, false, cond, not, ◌&&◌, nat_lt, nat_eq, List, [], ◌∷◌, length, take, drop, refl, ap, ◌∙◌, length-take, arith}
use Rattle.std.proofs.lemmas.Bool.{le-ltb, both_ways, and_left}
use Rattle.pcap_io.specs.declared.frames.Captured.{Captured}
use Rattle.control_files.specs.declared.segments.Segment.{Segment}
use Rattle.rounds.specs.Rounds.{Round, Rounds, at_cut, is_empty, span, wanted, round_segments, round_frames}
use Rattle.rounds.specs.Counted.{last_from, are_below, rounds_below, segments_below, RisesFrom}

pub last_above : (p q : ℕ) (ss : List Segment) → p ≤ q → RisesFrom q ss → p ≤ last_from q ss
last_above p q [] h k = h
last_above p q (s ∷ ss) h k = last_above p s.position ss (let a = k.0 in omega arith) k.1

rises_lower : (p q : ℕ) (ss : List Segment) → p ≤ q → RisesFrom q ss → RisesFrom p ss
rises_lower p q [] h k = tt
rises_lower p q (s ∷ ss) h k = (let a = k.0 in omega arith, k.1)

pub rises_dropped : (p n : ℕ) (ss : List Segment) → RisesFrom p ss → RisesFrom p (drop n ss)
rises_dropped p zero ss k = k
rises_dropped p (suc n) [] k = tt
rises_dropped p (suc n) (s ∷ ss) k = rises_lower p s.position (drop n ss) k.0 (rises_dropped s.position n ss k.1)

wanted_short : (place : ℕ) (g : List Segment) (s : Segment) (behind : List Segment) → wanted place g (s ∷ behind) ≤ s.position - place
wanted_short place g s behind =
    elim (nat_eq place 0 && not (is_empty g)) as (λ b. cond b 0 (span place (s ∷ behind)) ≤ s.position - place) [
      | true ↦ omega arith
      | false ↦ omega arith
    ]

-- no more frames were taken than up to the next segment
pub rises_behind : (place n : ℕ) (g ss : List Segment) → n ≤ wanted place g ss → RisesFrom place ss → RisesFrom (place + n) ss
rises_behind place n g [] h k = tt
rises_behind place n g (s ∷ ss) h k = (let a = wanted_short place g s ss in let b = k.0 in omega arith, k.1)

-- behind a round the segments that are left still stand in order
pub rises_on : (place : ℕ) (fs : List Captured) (ss : List Segment) → RisesFrom place ss → RisesFrom (place + length (round_frames place fs ss)) (drop (length (round_segments place fs ss)) ss)
unfolding round_frames
rises_on place fs ss h =
    let g = round_segments place fs ss in
    let behind = drop (length g) ss in
    rises_behind place (length (take (wanted place g behind) fs)) g behind (omega (arith, length-take (wanted place g behind) fs)) (rises_dropped place (length g) ss h)

first_group : (place : ℕ) (s : Segment) (ss : List Segment) → round_segments place [] (s ∷ ss) ≡ s ∷ take 255 (at_cut true place ss)
unfolding round_segments
first_group place s ss = refl

-- no frames are left, and the segments that are left stand behind
pub none_below : (place : ℕ) (ss : List Segment) (rs : List Round) → RisesFrom place ss → Rounds place [] ss rs → rounds_below place rs ≡ []
none_below place ss [] rises h = refl
none_below place [] (r ∷ rs) rises h = absurd (both_ways true h.0 refl)
none_below place (s ∷ ss) (r ∷ rs) rises h =
    let g : r.segments ≡ s ∷ take 255 (at_cut true place ss) = h.1 ∙ first_group place s ss in
    let over : are_below place r.segments ≡ false =
    ap (λ (x : List Segment). are_below place x) g ∙ and_left (nat_lt s.position place) (are_below place (take 255 (at_cut true place ss))) (le-ltb s.position place rises.0) in
    ap (λ b. cond b (r ∷ rounds_below place rs) []) over

pub none_from : (k : ℕ) (ss : List Segment) → RisesFrom k ss → segments_below k ss ≡ []
none_from k [] h = refl
none_from k (s ∷ ss) h = ap (λ b. cond b (s ∷ segments_below k ss) []) (le-ltb s.position k h.0)
