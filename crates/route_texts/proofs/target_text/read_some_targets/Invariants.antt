-- The targets so far are those of the pieces before.
use Rattle.std.proofs.Common.{length}
use Rattle.text_words.specs.Pieces.{pieces_of}
use Rattle.route_texts.specs.RouteLines.{SpellsTarget}
use Rattle.route_texts.proofs.EachLemmas.{Seen}
use Rattle.route_texts.proofs.target_text.read_some_targets.Given as goal

abbrev pub invariant-pieces : goal.invariant-pieces
invariant-pieces l = Seen SpellsTarget (pieces_of 44 l.word) l.pieces l.targets

abbrev pub decreases-pieces : goal.decreases-pieces
decreases-pieces l = length l.pieces
