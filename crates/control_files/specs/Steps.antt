-- What the bytes at hand begin with.
use Rattle.std.specs.Prelude.{◌≡◌, ℕ, ◌+◌, ◌≤◌, List, ◌++◌, length, take, drop, Some}
use Rattle.control_files.specs.declared.segments.Segment.{Segment}
use Rattle.control_files.specs.declared.segments.SegmentHead.{SegmentHead}
use Rattle.control_files.specs.declared.segments.Mark.{Mark}
use Rattle.control_files.specs.declared.steps.SegmentStep.{SegmentStep}
use Rattle.control_files.specs.declared.steps.SegmentStep.TheVariants as steps
use Rattle.control_files.specs.Segments.{MayFollow, segment_bytes}
use Rattle.control_files.specs.Refusals.{refusal_of, Held}

-- the segment with this head and these bytes
abbrev pub segment_of : SegmentHead → List ℕ → Segment
segment_of head body = record { kind = head.kind; peer = head.peer; moment = head.moment; position = head.position; bytes = body }

-- the bytes are a segment with this head and body, and then the rest
pub record BeginsWith (peers : List ℕ) (mark : Mark) (bytes : List ℕ) (head : SegmentHead) (body rest : List ℕ) : Type 0 where
  pub follows : MayFollow peers mark (segment_of head body)
  pub all : bytes ≡ segment_bytes (segment_of head body) ++ rest

-- the body stands behind 23 bytes, and the rest behind the body
abbrev pub StepGives : List ℕ → Mark → ℕ → List ℕ → SegmentStep → Type 0
StepGives peers mark place bytes steps.Wait = (length bytes ≤ 65557) × Held peers mark place bytes
StepGives peers mark place bytes (steps.Refused r) = refusal_of peers mark place bytes ≡ Some r
StepGives peers mark place bytes (steps.Whole head) =
    (23 + head.length ≤ length bytes) × BeginsWith peers mark bytes head (take head.length (drop 23 bytes)) (drop (23 + head.length) bytes)
