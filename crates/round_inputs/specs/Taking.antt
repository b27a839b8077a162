-- Where both inputs stand between two rounds, and what taking a round comes to.
use Rattle.std.specs.Prelude.{◌≡◌, ℕ, ◌+◌, ◌^◌, ◌<◌, ◌≤◌, Bool, true, List, [], ◌++◌, length, drop, Option, None, Some, Result, Ok, Err}
use Rattle.sfc_desk.specs.declared.ports.Port.{Port}
use Rattle.sfc_desk.specs.declared.ports.Port.TheVariants as ports
use Rattle.sfc_desk.specs.Desks.{Shown}
use Rattle.pcap_io.specs.declared.forms.Form.{Form}
use Rattle.pcap_io.specs.declared.frames.Captured.{Captured}
use Rattle.pcap_io.specs.Reads.{Reads}
use Rattle.control_files.specs.declared.segments.Segment.{Segment}
use Rattle.control_files.specs.Reads.{ReadsControl}
use Rattle.rounds.specs.declared.ends.RunEnd.{RunEnd}
use Rattle.rounds.specs.declared.ends.RunEnd.TheVariants as ends
use Rattle.rounds.specs.Rounds.{Round, round_segments}
use Rattle.rounds.specs.Views.{Inputs, IsNext}
use Rattle.round_inputs.specs.declared.halts.Halt.{Halt}
use Rattle.round_inputs.specs.declared.halts.Halt.TheVariants as halts
use Rattle.round_inputs.specs.declared.round_inputs.RoundInputs.{RoundInputs}
use Rattle.round_inputs.specs.Ahead.{CaptureAt, ControlAt, FrameShort, SegmentShort}

-- a reader of both files gets these frames and segments, with the faults behind them
pub record AreInputs (capture control : List ℕ) (form : Option Form) (peers : List ℕ) (whole : Inputs) : Type 0 where
  pub frames : Reads capture form whole.frames whole.capture_fault
  pub segments : ReadsControl control peers whole.segments whole.control_fault

-- what is left behind these frames and segments
abbrev pub left_of : Inputs → List Captured → List Segment → Inputs
left_of whole passed history = record {
  frames = drop (length passed) whole.frames;
  capture_fault = whole.capture_fault;
  segments = drop (length history) whole.segments;
  control_fault = whole.control_fault;
}

-- both inputs stand behind these frames and segments
pub record HoldsAt (tells : Bool) (capture control : List ℕ) (at : Port → Shown) (inputs : RoundInputs) (passed : List Captured) (history : List Segment) : Type 0 where
  pub frames : CaptureAt tells capture (at ports.Capture).left inputs.frame inputs.capture passed
  pub segments : ControlAt tells control (at ports.Control).left inputs.segment inputs.control history
  pub place : inputs.place ≡ length passed
  pub steps : inputs.steps ≡ length history

-- the bytes that were read are no more than the limit
pub record IsFew (inputs : RoundInputs) : Type 0 where
  pub capture : inputs.capture.place + length inputs.capture.rest ≤ 2 ^ 40
  pub control : inputs.control.place + length inputs.control.rest ≤ 2 ^ 40

-- how many frames and segments were taken
abbrev pub taken_by : RoundInputs → ℕ
taken_by inputs = inputs.place + inputs.steps

abbrev pub round_of : List Segment → List Captured → Round
round_of segments frames = record { segments = segments; frames = frames }

-- so the run ends, behind a place, where this is left
abbrev pub EndsAt : ℕ → Inputs → RunEnd → Type 0
EndsAt place left ends.Whole = (left.frames ≡ []) × (left.capture_fault ≡ None) × (left.segments ≡ []) × (left.control_fault ≡ None)
EndsAt place left (ends.Capture r) = (left.frames ≡ []) × (left.capture_fault ≡ Some r)
EndsAt place left (ends.Control r) =
    (left.frames ≡ [] → left.capture_fault ≡ None) × (round_segments place left.frames left.segments ≡ left.segments) × (left.control_fault ≡ Some r)

-- both inputs were read to their ends, within their limits, and are no more than these frames and segments
pub record ReadWhole (capture control : List ℕ) (at : Port → Shown) (inputs : RoundInputs) (passed : List Captured) (history : List Segment) : Type 0 where
  pub frames : Reads capture inputs.capture.form passed None
  pub segments : ReadsControl control inputs.control.peers history None
  pub no_capture_left : (at ports.Capture).left ≡ []
  pub no_control_left : (at ports.Control).left ≡ []
  pub capture_within : length capture ≤ 2 ^ 40
  pub control_within : length control ≤ 2 ^ 40

-- what was read where the run ends
abbrev pub WasRead : List ℕ → List ℕ → (Port → Shown) → RoundInputs → List Captured → List Segment → RunEnd → Type 0
WasRead capture control at inputs passed history ends.Whole = ReadWhole capture control at inputs passed history
WasRead capture control at inputs passed history (ends.Capture r) = FrameShort r capture
WasRead capture control at inputs passed history (ends.Control r) = SegmentShort r control

-- the next round was taken off both inputs
pub record Took (tells : Bool) (capture control : List ℕ) (at : Port → Shown) (inputs : RoundInputs) (passed : List Captured) (history : List Segment) (r : Round) : Type 0 where
  pub holds : HoldsAt tells capture control at inputs (passed ++ r.frames) (history ++ r.segments)
  pub next : tells ≡ true → (form : Option Form) (whole : Inputs) → AreInputs capture control form inputs.control.peers whole → IsNext (length passed) (left_of whole passed history) r

-- the run ends
pub record Ended (tells : Bool) (capture control : List ℕ) (at : Port → Shown) (inputs : RoundInputs) (passed : List Captured) (history : List Segment) (end : RunEnd) : Type 0 where
  pub ends : tells ≡ true → (form : Option Form) (whole : Inputs) → AreInputs capture control form inputs.control.peers whole → EndsAt (length passed) (left_of whole passed history) end
  pub read : tells ≡ true → WasRead capture control at inputs passed history end

-- what taking a round comes to: a round, an end, or an input that is too long
abbrev pub Takes : Bool → (capture control : List ℕ) → (Port → Shown) → RoundInputs → List Captured → List Segment → Round → Result (Option RunEnd) Halt → Type 0
Takes tells capture control at inputs passed history r (Ok None) = Took tells capture control at inputs passed history r
Takes tells capture control at inputs passed history r (Ok (Some end)) = Ended tells capture control at inputs passed history end
Takes tells capture control at inputs passed history r (Err halt) =
    (halt ≡ halts.Long ports.Capture → tells ≡ true → 2 ^ 40 < length capture) × (halt ≡ halts.Long ports.Control → tells ≡ true → 2 ^ 40 < length control)
