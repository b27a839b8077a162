-- The list has the numbers of the peers so far.
use Rattle.std.proofs.Common.{◌≡◌, take}
use Rattle.control_files.specs.Segments.{numbers}
use Rattle.control_files.proofs.feeds.numbers_of.Given as goal

abbrev pub invariant-loop-peer : goal.invariant-loop-peer
invariant-loop-peer l = l.list ≡ numbers (take l.peer-index l.peers)
