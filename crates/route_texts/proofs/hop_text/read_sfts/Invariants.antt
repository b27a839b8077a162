-- The types so far are those of the pieces before.
use Rattle.std.proofs.Common.{length}
use Rattle.text_words.specs.Pieces.{pieces_of}
use Rattle.route_texts.specs.RouteLines.{SpellsSft}
use Rattle.route_texts.proofs.EachLemmas.{Seen}
use Rattle.route_texts.proofs.hop_text.read_sfts.Given as goal

abbrev pub invariant-pieces : goal.invariant-pieces
invariant-pieces l = Seen SpellsSft (pieces_of 59 l.word) l.pieces l.sfts

abbrev pub decreases-pieces : goal.decreases-pieces
decreases-pieces l = length l.pieces
