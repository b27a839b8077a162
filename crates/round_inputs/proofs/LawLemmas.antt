-- Two files are read in one way, and the segments of a control file stand in order.
use Rattle.std.proofs.Common.{◌≡◌, ℕ, List, [], ◌∷◌, Option, ap, ◌∙◌, arith}
use Rattle.wire_base.specs.Numbers.{AreBytes}
use Rattle.pcap_io.specs.declared.forms.Form.{Form}
use Rattle.pcap_io.specs.declared.frames.Captured.{Captured}
use Rattle.pcap_io.specs.declared.reasons.Refusal.{Refusal as CaptureRefusal}
use Rattle.pcap_io.proofs.OneReading.{one_reading as one_capture_reading}
use Rattle.pcap_io.proofs.TotalReadings.{every_reading as every_capture_reading}
use Rattle.control_files.specs.declared.segments.Segment.{Segment}
use Rattle.control_files.specs.declared.segments.Mark.{Mark}
use Rattle.control_files.specs.declared.reasons.Refusal.{Refusal as ControlRefusal}
use Rattle.control_files.specs.Segments.{AreSegments, mark_of, start}
use Rattle.control_files.proofs.OneReading.{one_reading as one_control_reading}
use Rattle.control_files.proofs.TotalReadings.{every_reading as every_control_reading}
use Rattle.rounds.specs.Counted.{RisesFrom}
use Rattle.rounds.specs.Views.{Inputs, IsSound}
use Rattle.round_inputs.specs.Taking.{AreInputs}

pub some_inputs : (capture control peers : List ℕ) → AreBytes capture → AreBytes control → (form : Option Form) × (whole : Inputs) × AreInputs capture control form peers whole
some_inputs capture control peers capture_bytes control_bytes =
    let frames = every_capture_reading capture capture_bytes in
    let segments = every_control_reading control peers control_bytes in (
      frames.0,
      record { frames = frames.1; capture_fault = frames.2; segments = segments.0; control_fault = segments.1 },
      record { frames = frames.3; segments = segments.2 },
    )

pub one_inputs : (capture control peers : List ℕ) (form other : Option Form) (whole others : Inputs) → AreInputs capture control form peers whole → AreInputs capture control other peers others → (form ≡ other) × (whole ≡ others)
one_inputs capture control peers form other whole others a b =
    let frames = one_capture_reading capture form other whole.frames others.frames whole.capture_fault others.capture_fault a.frames b.frames in
    let segments = one_control_reading control peers whole.segments others.segments whole.control_fault others.control_fault a.segments b.segments in (
      frames.0,
      ap (λ (x : List Captured). record whole { frames = x }) frames.1
          ∙ (ap (λ (x : Option CaptureRefusal). record whole { frames = others.frames; capture_fault = x }) frames.2
          ∙ (ap (λ (x : List Segment). record others { segments = x; control_fault = whole.control_fault }) segments.0
          ∙ ap (λ (x : Option ControlRefusal). record others { control_fault = x }) segments.1)),
    )

rises : (peers : List ℕ) (mark : Mark) (ss : List Segment) → AreSegments peers mark ss → RisesFrom mark.position ss
rises peers mark [] each = tt
rises peers mark (s ∷ ss) each = (each.0.position, rises peers (mark_of s) ss each.1)

pub sound_inputs : (capture control peers : List ℕ) (form : Option Form) (whole : Inputs) → AreInputs capture control form peers whole → IsSound 0 whole.segments whole.control_fault
sound_inputs capture control peers form whole are = record {
  rises = rises peers start whole.segments are.segments.is_control.each;
  late = λ some. absurd (omega (arith, some));
}
