-- The bytes are the routes so far, and what is still to read.
use Rattle.std.proofs.Common.{◌≡◌, ◌++◌, length}
use Rattle.bgp_update.specs.Nlris.{list_bytes, ListFits}
use Rattle.bgp_update.proofs.nlri_lists.read_list.Given as goal

abbrev pub invariant-loop-rest : goal.invariant-loop-rest
invariant-loop-rest l = (l.bytes ≡ list_bytes l.routes ++ l.rest) × ListFits l.routes

abbrev pub decreases-loop-rest : goal.decreases-loop-rest
decreases-loop-rest l = length l.rest
