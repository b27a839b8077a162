-- Where the inputs stand among all frames and segments that a reader of both files gets.
use Rattle.std.proofs.Common.{◌≡◌, ℕ, Bool, true, false, List, [], ◌∷◌, ◌++◌, length, drop, Option, None, Some, MatchBool, refl, sym, ap, subst, ◌∙◌, append_assoc, length-append, arith}
use Rattle.std.proofs.lemmas.Bool.{both_ways}
use Rattle.std.proofs.lemmas.List.{append-nil, drop_at}
use Rattle.pcap_io.specs.declared.forms.Form.{Form}
use Rattle.pcap_io.specs.declared.frames.Captured.{Captured}
use Rattle.pcap_io.specs.declared.reasons.Refusal.{Refusal as CaptureRefusal}
use Rattle.pcap_io.specs.Kept.{Kept as CaptureKept}
use Rattle.pcap_io.specs.Calls.{lent_frame}
use Rattle.pcap_io.specs.Reads.{Reads}
use Rattle.pcap_io.specs.Streams.{StandsIn}
use Rattle.pcap_io.proofs.OneReading.{first_frames, one_reading as one_capture_reading}
use Rattle.control_files.specs.declared.segments.Segment.{Segment}
use Rattle.control_files.specs.declared.reasons.Refusal.{Refusal as ControlRefusal}
use Rattle.control_files.specs.Kept.{Kept as ControlKept}
use Rattle.control_files.specs.Reads.{ReadsControl}
use Rattle.control_files.proofs.OneReading.{first_segments, one_reading as one_control_reading}
use Rattle.rounds.specs.Rounds.{is_empty}
use Rattle.round_inputs.specs.declared.frames_ahead.FrameAhead.{FrameAhead}
use Rattle.round_inputs.specs.declared.frames_ahead.FrameAhead.TheVariants as frame
use Rattle.round_inputs.specs.declared.segments_ahead.SegmentAhead.{SegmentAhead}
use Rattle.round_inputs.specs.declared.segments_ahead.SegmentAhead.TheVariants as segment
use Rattle.round_inputs.specs.Ahead.{CaptureAt, ControlAt, frames_next}
use Rattle.round_inputs.specs.Filling.{AheadOf}

-- what is behind a front
pub behind_front : {A : Type 0} (front rest all : List A) → all ≡ front ++ rest → drop (length front) all ≡ rest
behind_front front rest all is = ap (λ l. drop (length front) l) is ∙ drop_at front rest (length front) refl

front_and_behind : {A : Type 0} (front rest all : List A) → all ≡ front ++ rest → all ≡ front ++ drop (length front) all
front_and_behind front rest all is = is ∙ ap (λ l. front ++ l) (sym (behind_front front rest all is))

nothing_behind : {A : Type 0} (all : List A) → drop (length all) all ≡ []
nothing_behind [] = refl
nothing_behind (x ∷ all) = nothing_behind all

-- ---- frames

-- these frames are left, where this stands next
abbrev pub FramesOf : FrameAhead → List Captured → Type 0
FramesOf (frame.Frame head) rest = is_empty rest ≡ false
FramesOf frame.End rest = rest ≡ []
FramesOf (frame.Bad r) rest = rest ≡ []

abbrev pub FrameFault : FrameAhead → Option CaptureRefusal → Type 0
FrameFault (frame.Frame head) fault = Unit {0}
FrameFault frame.End fault = fault ≡ None
FrameFault (frame.Bad r) fault = fault ≡ Some r

pub record FramesLeft (ahead : FrameAhead) (feed : CaptureKept) (passed : List Captured) (form : Option Form) (frames : List Captured) (fault : Option CaptureRefusal) : Type 0 where
  pub all : frames ≡ passed ++ drop (length passed) frames
  pub rest : FramesOf ahead (drop (length passed) frames)
  pub fault_is : FrameFault ahead fault
  pub form_is : form ≡ feed.form

-- the frames given and the one that is lent are the first of all
pub first_of : (begun : Option Form) (feed : CaptureKept) (input left taken : List ℕ) (given : List Captured) (f : Captured) (passed : List Captured) (form : Option Form) (frames : List Captured) (fault : Option CaptureRefusal)
    → StandsIn begun feed taken (passed ++ f ∷ []) → taken ++ left ≡ input → Reads input form frames fault → (form ≡ begun) × ((more : List Captured) × (frames ≡ (passed ++ f ∷ []) ++ more))
first_of None feed input left taken given f passed form frames fault stands joined reads =
    let n = ap length stands.nothing in
    absurd (omega (arith, n, length-append passed (f ∷ [])))
first_of (Some begun) feed input left taken given f passed form frames fault stands joined reads =
    first_frames input begun form stands.front (feed.rest ++ left) (passed ++ f ∷ []) frames fault stands.is_capture
    (sym joined ∙ (ap (λ (l : List ℕ). l ++ left) stands.joined ∙ append_assoc stands.front feed.rest left)) reads

pub frames_left : (tells : Bool) (input left : List ℕ) (ahead : FrameAhead) (feed : CaptureKept) (passed : List Captured) (form : Option Form) (frames : List Captured) (fault : Option CaptureRefusal)
    → tells ≡ true → CaptureAt tells input left ahead feed passed → Reads input form frames fault → FramesLeft ahead feed passed form frames fault
frames_left tells input left (frame.Frame head) feed passed form frames fault told at reads =
    let f : Captured = lent_frame head feed in
    let first = first_of feed.form feed input left at.read.taken [] f passed form frames fault at.read.stands (at.read.joined told) reads in
    let split : frames ≡ passed ++ (f ∷ first.1.0) = first.1.1 ∙ append_assoc passed (f ∷ []) first.1.0 in
    record {
      all = front_and_behind passed (f ∷ first.1.0) frames split;
      rest = ap (λ (l : List Captured). is_empty l) (behind_front passed (f ∷ first.1.0) frames split);
      fault_is = tt;
      form_is = first.0;
    }
frames_left tells input left frame.End feed passed form frames fault told at reads =
    let one = one_capture_reading input feed.form form passed frames None fault (at.ends told).0 reads in
    record {
      all = front_and_behind passed [] frames (sym one.1 ∙ sym (append-nil passed));
      rest = ap (λ (l : List Captured). drop (length l) frames) one.1 ∙ nothing_behind frames;
      fault_is = sym one.2;
      form_is = sym one.0;
    }
frames_left tells input left (frame.Bad r) feed passed form frames fault told at reads =
    let one = one_capture_reading input feed.form form passed frames (Some r) fault (at.ends told).0 reads in
    record {
      all = front_and_behind passed [] frames (sym one.1 ∙ sym (append-nil passed));
      rest = ap (λ (l : List Captured). drop (length l) frames) one.1 ∙ nothing_behind frames;
      fault_is = sym one.2;
      form_is = sym one.0;
    }

-- whether a frame stands next says whether one is left
pub over_is : (ahead : FrameAhead) (rest : List Captured) (over : Bool) → MatchBool over (frames_next ahead ≡ 0) (frames_next ahead ≡ 1) → FramesOf ahead rest → over ≡ is_empty rest
over_is (frame.Frame head) rest true is of = absurd (omega (arith, is))
over_is (frame.Frame head) rest false is of = sym of
over_is frame.End rest true is of = sym (ap (λ (l : List Captured). is_empty l) of)
over_is frame.End rest false is of = absurd (omega (arith, is))
over_is (frame.Bad r) rest true is of = sym (ap (λ (l : List Captured). is_empty l) of)
over_is (frame.Bad r) rest false is of = absurd (omega (arith, is))

pub none_next : (ahead : FrameAhead) (rest : List Captured) → frames_next ahead ≡ 0 → FramesOf ahead rest → rest ≡ []
none_next (frame.Frame head) rest none of = absurd (omega (arith, none))
none_next frame.End rest none of = of
none_next (frame.Bad r) rest none of = of

-- where no frame is left and what stands next is no fault, there is none
pub open_at : (ahead : FrameAhead) (rest : List Captured) (fault : Option CaptureRefusal) → ((r : CaptureRefusal) → ahead ≡ frame.Bad r → ⊥) → FramesOf ahead rest → FrameFault ahead fault → rest ≡ [] → fault ≡ None
open_at (frame.Frame head) rest fault good of is none = absurd (both_ways (is_empty rest) of (ap (λ (l : List Captured). is_empty l) none))
open_at frame.End rest fault good of is none = is
open_at (frame.Bad r) rest fault good of is none = absurd (good r refl)

pub frame_bad_at : (ahead : FrameAhead) (r : CaptureRefusal) (rest : List Captured) (fault : Option CaptureRefusal) → ahead ≡ frame.Bad r → FramesOf ahead rest → FrameFault ahead fault → (rest ≡ []) × (fault ≡ Some r)
frame_bad_at ahead r rest fault is of fault_is = (subst (λ (a : FrameAhead). FramesOf a rest) is of, subst (λ (a : FrameAhead). FrameFault a fault) is fault_is)

-- ---- segments

abbrev pub SegmentFault : SegmentAhead → Option ControlRefusal → Type 0
SegmentFault (segment.Segment s) fault = Unit {0}
SegmentFault segment.End fault = fault ≡ None
SegmentFault (segment.Bad r) fault = fault ≡ Some r

pub record SegmentsLeft (ahead : SegmentAhead) (history segments : List Segment) (fault : Option ControlRefusal) : Type 0 where
  pub all : segments ≡ history ++ drop (length history) segments
  pub rest : AheadOf ahead (drop (length history) segments)
  pub fault_is : SegmentFault ahead fault

first_ahead : (s : Segment) (rest more : List Segment) → rest ≡ s ∷ more → AheadOf (segment.Segment s) rest
first_ahead s [] more is = cc
first_ahead s (t ∷ rest) more is = first_same t s rest more is
  where
    first_same : (a b : Segment) (xs ys : List Segment) → a ∷ xs ≡ b ∷ ys → a ≡ b
    first_same a b xs ys e = cc

pub segments_left : (tells : Bool) (input left : List ℕ) (ahead : SegmentAhead) (feed : ControlKept) (history segments : List Segment) (fault : Option ControlRefusal)
    → tells ≡ true → ControlAt tells input left ahead feed history → ReadsControl input feed.peers segments fault → SegmentsLeft ahead history segments fault
segments_left tells input left (segment.Segment s) feed history segments fault told at reads =
    let stands = at.read.stands in
    let first = first_segments input stands.front (feed.rest ++ left) feed.peers (history ++ s ∷ []) segments fault stands.is_control
    (sym (at.read.joined told) ∙ (ap (λ (l : List ℕ). l ++ left) stands.joined ∙ append_assoc stands.front feed.rest left)) reads in
    let split : segments ≡ history ++ (s ∷ first.0) = first.1 ∙ append_assoc history (s ∷ []) first.0 in
    record {
      all = front_and_behind history (s ∷ first.0) segments split;
      rest = first_ahead s (drop (length history) segments) first.0 (behind_front history (s ∷ first.0) segments split);
      fault_is = tt;
    }
segments_left tells input left segment.End feed history segments fault told at reads =
    let one = one_control_reading input feed.peers history segments None fault (at.ends told).0 reads in
    record {
      all = front_and_behind history [] segments (sym one.0 ∙ sym (append-nil history));
      rest = ap (λ (l : List Segment). drop (length l) segments) one.0 ∙ nothing_behind segments;
      fault_is = sym one.1;
    }
segments_left tells input left (segment.Bad r) feed history segments fault told at reads =
    let one = one_control_reading input feed.peers history segments (Some r) fault (at.ends told).0 reads in
    record {
      all = front_and_behind history [] segments (sym one.0 ∙ sym (append-nil history));
      rest = ap (λ (l : List Segment). drop (length l) segments) one.0 ∙ nothing_behind segments;
      fault_is = sym one.1;
    }

pub known_at : (ahead : SegmentAhead) (rest : List Segment) (fault : Option ControlRefusal) → ((r : ControlRefusal) → ahead ≡ segment.Bad r → ⊥) → AheadOf ahead rest → SegmentFault ahead fault → rest ≡ [] → fault ≡ None
known_at (segment.Segment s) [] fault good of is none = absurd of
known_at (segment.Segment s) (t ∷ rest) fault good of is none = cc
known_at segment.End rest fault good of is none = is
known_at (segment.Bad r) rest fault good of is none = absurd (good r refl)

pub segment_bad_at : (ahead : SegmentAhead) (r : ControlRefusal) (rest : List Segment) (fault : Option ControlRefusal) → ahead ≡ segment.Bad r → AheadOf ahead rest → SegmentFault ahead fault → (rest ≡ []) × (fault ≡ Some r)
segment_bad_at ahead r rest fault is of fault_is = (subst (λ (a : SegmentAhead). AheadOf a rest) is of, subst (λ (a : SegmentAhead). SegmentFault a fault) is fault_is)
