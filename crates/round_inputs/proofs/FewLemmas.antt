-- There are no more frames or segments than bytes.
use Rattle.std.proofs.Common.{ℕ, ◌+◌, ◌<◌, ◌≤◌, ◌^◌, Bool, List, [], ◌∷◌, length, Option, None, Some, ap, length-append, arith}
use Rattle.std.specs.List.{flat_map}
use Rattle.std.proofs.lemmas.List.Concat.{flat_map-cons}
use Rattle.pcap_io.specs.declared.forms.Form.{Form}
use Rattle.pcap_io.specs.declared.frames.Captured.{Captured}
use Rattle.pcap_io.specs.Captures.{packet, packets}
use Rattle.pcap_io.specs.Kept.{Kept as CaptureKept}
use Rattle.pcap_io.specs.Calls.{lent_frame}
use Rattle.pcap_io.specs.Streams.{StandsIn}
use Rattle.pcap_io.proofs.ReadingLemmas.{length-packet}
use Rattle.pcap_io.proofs.ReadsLemmas.{size_taken}
use Rattle.control_files.specs.declared.segments.Segment.{Segment}
use Rattle.control_files.specs.Kept.{Kept as ControlKept}
use Rattle.control_files.specs.Segments.{segment_bytes}
use Rattle.control_files.proofs.SegmentLemmas.{length-segment}
use Rattle.round_inputs.specs.declared.frames_ahead.FrameAhead.{FrameAhead}
use Rattle.round_inputs.specs.declared.frames_ahead.FrameAhead.TheVariants as frame
use Rattle.round_inputs.specs.declared.segments_ahead.SegmentAhead.{SegmentAhead}
use Rattle.round_inputs.specs.declared.segments_ahead.SegmentAhead.TheVariants as segment
use Rattle.round_inputs.specs.Ahead.{CaptureAt, ControlAt, with_frame, with_segment}
use Rattle.round_inputs.proofs.ReadLemmas.{segments_size}

-- pieces of which each has a byte have no fewer bytes than there are pieces
each_some : {X : Type 0} (f : X → List ℕ) (xs : List X) → ((x : X) → 0 < length (f x)) → length xs ≤ length (flat_map f xs)
each_some f [] some = omega arith
each_some f (x ∷ xs) some =
    let here = some x in
    let rest = each_some f xs some in
    let size = ap length (flat_map-cons f x xs) in
    omega (arith, here, rest, size, length-append (f x) (flat_map f xs))

given_few : (form : Option Form) (feed : CaptureKept) (taken : List ℕ) (given : List Captured) → StandsIn form feed taken given → length given ≤ length taken
given_few None feed taken given s = let n = ap length s.nothing in omega (arith, n)
given_few (Some form) feed taken given s =
    let all = ap length s.joined in
    let front = ap length s.is_capture.all in
    let few = each_some (packet form) given (λ x. omega (arith, length-packet form x)) in
    omega (arith, all, front, few, length-append s.front feed.rest, length-append s.is_capture.head (packets form given))

frames_in_front : (ahead : FrameAhead) (feed : CaptureKept) (passed : List Captured) → length passed ≤ length (with_frame ahead feed passed)
frames_in_front (frame.Frame head) feed passed = omega (arith, length-append passed (lent_frame head feed ∷ []))
frames_in_front frame.End feed passed = omega arith
frames_in_front (frame.Bad r) feed passed = omega arith

pub passed_few : (tells : Bool) (input left : List ℕ) (ahead : FrameAhead) (feed : CaptureKept) (passed : List Captured) → CaptureAt tells input left ahead feed passed → feed.place + length feed.rest ≤ 2 ^ 40 → length passed ≤ 2 ^ 40
passed_few tells input left ahead feed passed at few =
    let size = size_taken feed.form feed at.read.taken (with_frame ahead feed passed) at.read.stands in
    let given = given_few feed.form feed at.read.taken (with_frame ahead feed passed) at.read.stands in
    omega (arith, size, given, few, frames_in_front ahead feed passed)

segments_in_front : (ahead : SegmentAhead) (history : List Segment) → length history ≤ length (with_segment ahead history)
segments_in_front (segment.Segment s) history = omega (arith, length-append history (s ∷ []))
segments_in_front segment.End history = omega arith
segments_in_front (segment.Bad r) history = omega arith

pub history_few : (tells : Bool) (input left : List ℕ) (ahead : SegmentAhead) (feed : ControlKept) (history : List Segment) → ControlAt tells input left ahead feed history → feed.place + length feed.rest ≤ 2 ^ 40 → length history ≤ 2 ^ 40
history_few tells input left ahead feed history at few =
    let stands = at.read.stands in
    let size = segments_size feed at.read.taken (with_segment ahead history) stands in
    let all = ap length stands.joined in
    let front = ap length stands.is_control.all in
    let given = each_some segment_bytes (with_segment ahead history) (λ s. omega (arith, length-segment s)) in
    omega (arith, size, all, front, given, few, length-append stands.front feed.rest, segments_in_front ahead history)
