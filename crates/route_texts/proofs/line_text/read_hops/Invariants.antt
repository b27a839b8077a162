-- The hops so far are those of the words before.
use Rattle.std.proofs.Common.{length}
use Rattle.route_texts.specs.RouteLines.{SpellsHop}
use Rattle.route_texts.proofs.EachLemmas.{Seen}
use Rattle.route_texts.proofs.line_text.read_hops.Given as goal

abbrev pub invariant-words : goal.invariant-words
invariant-words l = Seen SpellsHop l.fn.words l.words l.hops

abbrev pub decreases-words : goal.decreases-words
decreases-words l = length l.words
