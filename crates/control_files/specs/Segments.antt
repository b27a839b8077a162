-- Which bytes are a control file of which segments (this project's own format; there is no file header).
use Rattle.std.specs.Prelude.{◌≡◌, ◌≢◌, ◌≤◌, ◌<◌, ◌^◌, ℕ, List, [], ◌∷◌, ◌++◌, length, map, Contains}
use Rattle.std.specs.List.{flat_map}
use Rattle.wire_base.specs.Numbers.{two, four, eight}
use Rattle.control_files.specs.declared.segments.Segment.{Segment}
use Rattle.control_files.specs.declared.segments.Mark.{Mark}

-- the 23 bytes before a segment's own: kind 1, peer 2, moment 8, position 8, length 4, the highest byte first
unfoldable pub head_bytes : ℕ → ℕ → ℕ → ℕ → ℕ → List ℕ
head_bytes kind peer moment position size = kind ∷ (two peer ++ eight moment ++ eight position ++ four size)

-- a segment as it stands in a file
abbrev pub segment_bytes : Segment → List ℕ
segment_bytes segment =
    head_bytes segment.kind segment.peer segment.moment segment.position (length segment.bytes) ++ segment.bytes

-- segments as they stand in a file, one after the other
abbrev pub segments_bytes : List Segment → List ℕ
segments_bytes segments = flat_map segment_bytes segments

-- 1 is Connect, 2 is Bytes, 3 is Close
abbrev pub IsKind : ℕ → Type 0
IsKind kind = (1 ≤ kind) × (kind ≤ 3)

-- the numbers of a setup's peers
abbrev pub numbers : List (ℕ × ℕ) → List ℕ
numbers peers = map (λ p. p.0) peers

-- the mark before the first segment, and that behind some segments
abbrev pub start : Mark
start = record { moment = 0; position = 0 }

abbrev pub mark_of : Segment → Mark
mark_of segment = record { moment = segment.moment; position = segment.position }

abbrev pub mark_behind : Mark → List Segment → Mark
mark_behind mark [] = mark
mark_behind mark (segment ∷ segments) = mark_behind (mark_of segment) segments

-- what a file may say of the segment behind a mark: a kind, one of the peers, no moment and no position below the mark's, bytes
-- in kind 2 alone, and of those at most 65,535
pub record MayFollow (peers : List ℕ) (mark : Mark) (segment : Segment) : Type 0 where
  pub kind : IsKind segment.kind
  pub peer : Contains peers segment.peer
  pub moment : mark.moment ≤ segment.moment
  pub position : mark.position ≤ segment.position
  pub most : length segment.bytes ≤ 65535
  pub bare : segment.kind ≢ 2 → segment.bytes ≡ []
  pub peer_fits : segment.peer < 2 ^ 16
  pub moment_fits : segment.moment < 2 ^ 64
  pub position_fits : segment.position < 2 ^ 64

-- each may follow the one before
abbrev pub AreSegments : List ℕ → Mark → List Segment → Type 0
AreSegments peers mark [] = Unit {0}
AreSegments peers mark (segment ∷ segments) = MayFollow peers mark segment × AreSegments peers (mark_of segment) segments

-- the bytes are these segments of these peers
pub record IsControl (bytes : List ℕ) (peers : List ℕ) (segments : List Segment) : Type 0 where
  pub each : AreSegments peers start segments
  pub all : bytes ≡ segments_bytes segments
