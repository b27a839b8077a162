-- Which fault is answered where both inputs may have one, and which rounds count then (this project's own).
use Rattle.std.specs.Prelude.{ℕ, ◌≤◌, Bool, true, false, cond, not, ◌&&◌, ◌||◌, nat_le, nat_lt, List, [], ◌∷◌, Option, None, Some}
use Rattle.pcap_io.specs.declared.reasons.Refusal.{Refusal as CaptureRefusal}
use Rattle.control_files.specs.declared.segments.Segment.{Segment}
use Rattle.control_files.specs.declared.reasons.Refusal.{Refusal as ControlRefusal}
use Rattle.rounds.specs.declared.ends.RunEnd.{RunEnd}
use Rattle.rounds.specs.declared.ends.RunEnd.TheVariants as ends
use Rattle.rounds.specs.Rounds.{Round, is_empty}

-- the position of the last segment, or the given one where there is none
abbrev pub last_from : ℕ → List Segment → ℕ
last_from p [] = p
last_from p (s ∷ ss) = last_from s.position ss

-- the end of a run over k whole frames and these good segments, with the faults behind them. With both faults it is the
-- capture's where k is at most the last segment's position, or 0 where there is no segment
abbrev pub end_of : ℕ → Option CaptureRefusal → List Segment → Option ControlRefusal → RunEnd
end_of k None ss None = ends.Whole
end_of k (Some e) ss None = ends.Capture e
end_of k None ss (Some f) = ends.Control f
end_of k (Some e) ss (Some f) = cond (nat_le k (last_from 0 ss)) (ends.Capture e) (ends.Control f)

-- all these segments stand below the k-th frame
abbrev pub are_below : ℕ → List Segment → Bool
are_below k [] = true
are_below k (s ∷ ss) = nat_lt s.position k && are_below k ss

-- the rounds before the first that holds a segment at or behind the k-th frame
abbrev pub rounds_below : ℕ → List Round → List Round
rounds_below k [] = []
rounds_below k (r ∷ rs) = cond (are_below k r.segments) (r ∷ rounds_below k rs) []

abbrev pub have_segments : List Round → Bool
have_segments [] = false
have_segments (r ∷ rs) = not (is_empty r.segments) || have_segments rs

-- the rounds before the one that holds the last segment; none where there is no segment
abbrev pub rounds_before_last : List Round → List Round
rounds_before_last [] = []
rounds_before_last (r ∷ rs) = cond (have_segments rs) (r ∷ rounds_before_last rs) []

-- the rounds that count, of k whole frames
abbrev pub counted : ℕ → RunEnd → List Round → List Round
counted k ends.Whole rs = rs
counted k (ends.Capture _) rs = rounds_below k rs
counted k (ends.Control _) rs = rounds_before_last rs

-- the segments stand in order, from a place on
abbrev pub RisesFrom : ℕ → List Segment → Type 0
RisesFrom p [] = Unit {0}
RisesFrom p (s ∷ ss) = (p ≤ s.position) × RisesFrom s.position ss

-- the segments below the k-th frame
abbrev pub segments_below : ℕ → List Segment → List Segment
segments_below k [] = []
segments_below k (s ∷ ss) = cond (nat_lt s.position k) (s ∷ segments_below k ss) []
