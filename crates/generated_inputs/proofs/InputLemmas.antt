-- What callers use of generated inputs.
use Rattle.std.proofs.Common.{◌≡◌, ℕ, zero, suc, ◌+◌, ◌%◌, ◌<◌, ◌≤◌, ◌^◌, List, [], ◌∷◌, length, map, refl, sym, ap, subst, ◌∙◌, arith}
use Rattle.std.specs.Prelude.{All, Contains}
use Rattle.std.specs.List.{range_with_len, AllByRecursion}
use Rattle.std.proofs.lemmas.List.{length-replicate}
use Rattle.std.proofs.lemmas.List.Elements.{All-from_recursion}
use Rattle.std.proofs.lemmas.List.FromFn.{length-map-range_with_len}
use Rattle.bgp_session.specs.LocalSide.{IsLocal}
use Rattle.control_files.specs.declared.segments.Mark.{Mark}
use Rattle.control_files.specs.declared.segments.Segment.{Segment}
use Rattle.control_files.specs.Segments.{AreSegments, mark_of, numbers, start}
use Rattle.pcap_io.specs.declared.frames.Captured.{Captured}
use Rattle.pcap_io.specs.Captures.{IsWithinLimits}
use Rattle.sfc_config.specs.Parts.{Parts}
use Rattle.sfc_config.specs.Texts.{IsSetup}
use Rattle.generated_inputs.specs.Setups.{setup_text}
use Rattle.generated_inputs.specs.Draws.{drawn}
use Rattle.generated_inputs.specs.Frames.{frame_bytes, frame_for, generated_frames}
use Rattle.generated_inputs.specs.Segments.{generated_segments}
use Rattle.generated_inputs.specs.Inputs.{IsGenerated}
use Rattle.generated_inputs.proofs.SetupLemmas.{are_parts, parts, parts_are}
use Rattle.generated_inputs.proofs.SegmentLemmas.{generated_few, generated_follow}

-- ---- frames

length_frame : (number draw : ℕ) → length (frame_bytes number draw) ≡ 60 + draw % 1441
length_frame number draw = omega (arith, length-replicate {A = ℕ} (22 + draw % 1441) 0)

frame_within : (number draw : ℕ) → number < 2 ^ 32 → IsWithinLimits (frame_for number draw)
frame_within number draw small =
    let size = length_frame number draw in
    record {
      seconds = omega (arith, small);
      fraction = omega arith;
      captured = omega (arith, size);
      whole = omega (arith, size);
      original = omega arith;
    }

frames_within : (seed n first : ℕ) → first + n ≤ 65536 → AllByRecursion IsWithinLimits (map (λ (number : ℕ). frame_for number (drawn seed number)) (range_with_len first n))
frames_within seed zero first small = tt
frames_within seed (suc n) first small = (frame_within first (drawn seed first) (omega (arith, small)), frames_within seed n (first + 1) (omega (arith, small)))

-- ---- segments

-- segments of a control file are of its peers and short
record Segments (peers : List ℕ) (segments : List Segment) : Type 0 where
  of_peers : AllByRecursion (λ (s : Segment). Contains peers s.peer) segments
  short : AllByRecursion (λ (s : Segment). length s.bytes ≤ 65535) segments

segments_are : (peers : List ℕ) (mark : Mark) (segments : List Segment) → AreSegments peers mark segments → Segments peers segments
segments_are peers mark [] are = record { of_peers = tt; short = tt }
segments_are peers mark (s ∷ ss) are =
    let rest = segments_are peers (mark_of s) ss are.1 in
    record { of_peers = (are.0.peer, rest.of_peers); short = (are.0.most, rest.short) }

-- ---- both

-- what a run needs of its inputs
pub record MayRun (setup : Parts) (frames : List Captured) (segments : List Segment) : Type 0 where
  pub limits : All IsWithinLimits frames
  pub of_peers : All (λ (s : Segment). Contains (numbers setup.peers) s.peer) segments
  pub short : All (λ (s : Segment). length s.bytes ≤ 65535) segments
  pub few_frames : length frames ≤ 65536
  pub few_segments : length segments ≤ 65536

may_run_so : (seed count : ℕ) → count ≤ 65536 → MayRun parts (generated_frames seed count) (generated_segments parts.local count)
may_run_so seed count most =
    let are = segments_are (numbers parts.peers) start (generated_segments parts.local count) (generated_follow (numbers parts.peers) parts.local count are_parts.local_fits (0, omega arith, refl) most) in
    let many = length-map-range_with_len (λ (number : ℕ). frame_for number (drawn seed number)) 0 count in
    let few = generated_few parts.local count most in
    record {
      limits = All-from_recursion IsWithinLimits (generated_frames seed count) (frames_within seed count 0 (omega (arith, most)));
      of_peers = All-from_recursion (λ (s : Segment). Contains (numbers parts.peers) s.peer) (generated_segments parts.local count) are.of_peers;
      short = All-from_recursion (λ (s : Segment). length s.bytes ≤ 65535) (generated_segments parts.local count) are.short;
      few_frames = omega (arith, many, most);
      few_segments = omega (arith, few);
    }

pub may_run : (seed count : ℕ) (setup : Parts) (frames : List Captured) (segments : List Segment) → count ≤ 65536 → IsGenerated seed count setup frames segments → MayRun setup frames segments
may_run seed count setup frames segments most is =
    let setup_is : setup ≡ parts = parts_are setup is.setup_is in
    let so : MayRun parts (generated_frames seed count) (generated_segments parts.local count) = may_run_so seed count most in
    let here : MayRun setup (generated_frames seed count) (generated_segments setup.local count) = subst (λ (p : Parts). MayRun p (generated_frames seed count) (generated_segments p.local count)) (sym setup_is) so in
    subst (λ (ss : List Segment). MayRun setup frames ss) (sym is.segments_are)
    (subst (λ (fs : List Captured). MayRun setup fs (generated_segments setup.local count)) (sym is.frames_are) here)
