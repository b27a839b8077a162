-- Rounds of frames and segments (this project's own): how a run takes both inputs, from the front of what is left of them.
use Rattle.std.specs.Prelude.{◌≡◌, ℕ, ◌+◌, ◌-◌, ◌%◌, min, Bool, true, false, cond, not, ◌&&◌, ◌||◌, nat_le, nat_eq, List, [], ◌∷◌, ◌++◌, length, take, drop}
use Rattle.pcap_io.specs.declared.frames.Captured.{Captured}
use Rattle.control_files.specs.declared.segments.Segment.{Segment}

-- the segments that are stepped, and then the frames that are forwarded
pub record Round : Type 0 where
  pub segments : List Segment
  pub frames : List Captured

-- a segment belongs to the cut at a place: its position is not above the place, or there are no more frames
abbrev pub is_at_cut : Bool → ℕ → Segment → Bool
is_at_cut ended place s = ended || nat_le s.position place

-- the segments at the front that belong to the cut
abbrev pub at_cut : Bool → ℕ → List Segment → List Segment
at_cut ended place [] = []
at_cut ended place (s ∷ ss) = cond (is_at_cut ended place s) (s ∷ at_cut ended place ss) []

abbrev pub is_empty : {A : Type 0} → List A → Bool
is_empty [] = true
is_empty (_ ∷ _) = false

-- how far the next cut is: the next multiple of 256, or the next segment's position
abbrev pub span : ℕ → List Segment → ℕ
span place [] = 256 - place % 256
span place (s ∷ _) = min (256 - place % 256) (s.position - place)

-- a group of segments: at most 256 of those at the cut
abbrev pub group : Bool → ℕ → List Segment → List Segment
group ended place ss = take 256 (at_cut ended place ss)

-- how many frames may join the round with this group: none where segments stand at the beginning, else those up to the next
-- cut, which is here where a further segment belongs to this cut
abbrev pub wanted : ℕ → List Segment → List Segment → ℕ
wanted place segments behind = cond (nat_eq place 0 && not (is_empty segments)) 0 (span place behind)

-- the segments and the frames of the round that begins at a place, where these frames and segments are left
unfoldable pub round_segments : ℕ → List Captured → List Segment → List Segment
round_segments place fs ss = group (is_empty fs) place ss

unfoldable pub round_frames : ℕ → List Captured → List Segment → List Captured
round_frames place fs ss = take (wanted place (round_segments place fs ss) (drop (length (round_segments place fs ss)) ss)) fs

-- these are the rounds from a place on, where these frames and segments are left
abbrev pub Rounds : ℕ → List Captured → List Segment → List Round → Type 0
Rounds place fs ss [] = (fs ≡ []) × (ss ≡ [])
Rounds place fs ss (r ∷ rs) = ((is_empty fs && is_empty ss) ≡ false)
    × (r.segments ≡ round_segments place fs ss) × (r.frames ≡ round_frames place fs ss)
    × Rounds (place + length r.frames) (drop (length r.frames) fs) (drop (length r.segments) ss) rs

-- the segments and the frames of rounds, in order
abbrev pub segments_of : List Round → List Segment
segments_of [] = []
segments_of (r ∷ rs) = r.segments ++ segments_of rs

abbrev pub frames_of : List Round → List Captured
frames_of [] = []
frames_of (r ∷ rs) = r.frames ++ frames_of rs
