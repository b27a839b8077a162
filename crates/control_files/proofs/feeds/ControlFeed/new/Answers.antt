-- Nothing is held.
use Rattle.control_files.specs.Segments.{start}
use Rattle.control_files.proofs.SegmentLemmas.{held_nothing}
use Rattle.control_files.proofs.feeds.ControlFeed.new.Goals as goal

pub returns-clause-held : goal.returns-clause-held
returns-clause-held c = rw c.new.ensures (held_nothing c.in_ok-peers.peers start 0)
