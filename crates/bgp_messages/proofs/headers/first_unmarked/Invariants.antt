-- All bytes so far are those of the marker.
use Rattle.bgp_messages.specs.Headers.{Marked}
use Rattle.bgp_messages.proofs.headers.first_unmarked.Given as goal

abbrev pub invariant-loop-place : goal.invariant-loop-place
invariant-loop-place l = Marked l.place l.bytes
