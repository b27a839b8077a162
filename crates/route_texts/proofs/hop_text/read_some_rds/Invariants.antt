-- The RDs so far are those of the pieces before.
use Rattle.std.proofs.Common.{length}
use Rattle.text_words.specs.Pieces.{pieces_of}
use Rattle.route_texts.specs.RouteLines.{SpellsRd}
use Rattle.route_texts.proofs.EachLemmas.{Seen}
use Rattle.route_texts.proofs.hop_text.read_some_rds.Given as goal

abbrev pub invariant-pieces : goal.invariant-pieces
invariant-pieces l = Seen SpellsRd (pieces_of 44 l.word) l.pieces l.rds

abbrev pub decreases-pieces : goal.decreases-pieces
decreases-pieces l = length l.pieces
