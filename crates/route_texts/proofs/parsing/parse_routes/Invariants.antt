-- The lines so far are taken, and the rest is to come.
use Rattle.std.proofs.Common.{length}
use Rattle.route_texts.proofs.RunLemmas.{ReadSoFar}
use Rattle.route_texts.proofs.parsing.parse_routes.Given as goal

abbrev pub invariant-lines : goal.invariant-lines
invariant-lines l = ReadSoFar l.text l.routes l.rest

abbrev pub decreases-lines : goal.decreases-lines
decreases-lines l = length l.rest
