-- Segments that a control file may have.
use Rattle.std.specs.Prelude.{ℕ, List, All}
use Rattle.wire_base.specs.Numbers.{AreBytes}
use Rattle.control_files.specs.declared.segments.Segment.{Segment}
use Rattle.control_histories.specs.Logs.{AreOfPeers}

-- each is of one of the peers, and brings bytes
pub record IsHistory (peers : List (ℕ × ℕ)) (segments : List Segment) : Type 0 where
  pub of_peers : AreOfPeers peers segments
  pub bytes : All (λ s. AreBytes s.bytes) segments
