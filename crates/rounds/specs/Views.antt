-- Where a run stands between two rounds, and what it comes to from there.
use Rattle.std.specs.Prelude.{◌≡◌, ℕ, ◌+◌, ◌<◌, List, [], ◌++◌, length, drop, false, ◌&&◌, Option, None}
use Rattle.pcap_io.specs.declared.frames.Captured.{Captured}
use Rattle.pcap_io.specs.declared.reasons.Refusal.{Refusal as CaptureRefusal}
use Rattle.control_files.specs.declared.segments.Segment.{Segment}
use Rattle.control_files.specs.declared.reasons.Refusal.{Refusal as ControlRefusal}
use Rattle.rounds.specs.declared.ends.RunEnd.{RunEnd}
use Rattle.rounds.specs.Rounds.{Round, Rounds, is_empty, round_segments, round_frames, frames_of, segments_of}
use Rattle.rounds.specs.Counted.{end_of, counted, RisesFrom}
use Rattle.rounds.specs.Says.{Says, Lines}

-- the frames and the segments of both inputs, each with the fault behind the last one
pub record Inputs : Type 0 where
  pub frames : List Captured
  pub capture_fault : Option CaptureRefusal
  pub segments : List Segment
  pub control_fault : Option ControlRefusal

-- what a run over both inputs ends with, and the rounds that count
abbrev pub ending : Inputs → RunEnd
ending i = end_of (length i.frames) i.capture_fault i.segments i.control_fault

abbrev pub counted_of : Inputs → List Round → List Round
counted_of i rounds = counted (length i.frames) (ending i) rounds

-- the frames and segments that were taken, and what was said of these frames; all that is left of both inputs
pub record View (R : Type 0) : Type 0 where
  pub passed : List Captured
  pub history : List Segment
  pub said : List R
  pub left : Inputs

-- before anything was taken
abbrev pub view_at_first : {R : Type 0} → Inputs → View R
view_at_first inputs = record { passed = []; history = []; said = []; left = inputs }

-- how many frames were taken, and how many whole ones the capture has
abbrev pub place_of : {R : Type 0} → View R → ℕ
place_of v = length v.passed

abbrev pub whole_frames : {R : Type 0} → View R → ℕ
whole_frames v = length v.passed + length v.left.frames

abbrev pub end_at : {R : Type 0} → View R → RunEnd
end_at v = end_of (whole_frames v) v.left.capture_fault v.left.segments v.left.control_fault

abbrev pub counted_at : {R : Type 0} → View R → List Round → List Round
counted_at v rounds = counted (whole_frames v) (end_at v) rounds

-- the frames and segments that count, and what is said of these frames
pub record Told (R : Type 0) : Type 0 where
  pub frames : List Captured
  pub segments : List Segment
  pub said : List R

-- a run that goes on from here comes to this
pub record Gives {R : Type 0} (says : Says R) (v : View R) (all : Told R) : Type 0 where
  pub rounds : List Round
  pub are : Rounds (place_of v) v.left.frames v.left.segments rounds
  pub here : List R
  pub run : Lines says v.history (counted_at v rounds) here
  pub frames_are : all.frames ≡ v.passed ++ frames_of (counted_at v rounds)
  pub segments_are : all.segments ≡ v.history ++ segments_of (counted_at v rounds)
  pub said_are : all.said ≡ v.said ++ here

-- from the first view on the run comes to what it comes to from the second on
pub record Leads {R : Type 0} (says : Says R) (v w : View R) : Type 0 where
  pub same_end : end_at w ≡ end_at v
  pub gives : (all : Told R) → Gives says w all → Gives says v all

-- what was taken and said so far
abbrev pub so_far : {R : Type 0} → View R → Told R
so_far v = record { frames = v.passed; segments = v.history; said = v.said }

-- the run ends here
pub record Ends {R : Type 0} (says : Says R) (v : View R) (end : RunEnd) : Type 0 where
  pub is : end ≡ end_at v
  pub gives : Gives says v (so_far v)

-- What holds between two rounds: no segment that is left stands before the place, and behind the beginning a control file of
-- which no segment is left has no fault, since a fault is met while the last segment still waits.
pub record IsSound (place : ℕ) (segments : List Segment) (control_fault : Option ControlRefusal) : Type 0 where
  pub rises : RisesFrom place segments
  pub late : 0 < place → segments ≡ [] → control_fault ≡ None

-- this is the next round, and it is known that it counts
pub record IsNext (place : ℕ) (left : Inputs) (r : Round) : Type 0 where
  pub some : (is_empty left.frames && is_empty left.segments) ≡ false
  pub segments_are : r.segments ≡ round_segments place left.frames left.segments
  pub frames_are : r.frames ≡ round_frames place left.frames left.segments
  pub is_open : left.frames ≡ [] → left.capture_fault ≡ None
  pub known : drop (length r.segments) left.segments ≡ [] → left.control_fault ≡ None

-- what is left behind a round
abbrev pub behind : Inputs → Round → Inputs
behind left r = record {
  frames = drop (length r.frames) left.frames;
  capture_fault = left.capture_fault;
  segments = drop (length r.segments) left.segments;
  control_fault = left.control_fault;
}

-- where the run stands behind a round of which this was said
abbrev pub after : {R : Type 0} → View R → Round → List R → View R
after v r here = record { passed = v.passed ++ r.frames; history = v.history ++ r.segments; said = v.said ++ here; left = behind v.left r }
