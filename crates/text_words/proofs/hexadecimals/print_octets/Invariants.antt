-- The digits so far, and the bytes whose digits are to come.
use Rattle.std.proofs.Common.{length}
use Rattle.text_words.proofs.HexLemmas.{DigitsSoFar}
use Rattle.text_words.proofs.hexadecimals.print_octets.Given as goal

abbrev pub invariant-loop-rest : goal.invariant-loop-rest
invariant-loop-rest l = DigitsSoFar l.initial.out l.out l.rest l.octets

abbrev pub decreases-loop-rest : goal.decreases-loop-rest
decreases-loop-rest l = length l.rest
