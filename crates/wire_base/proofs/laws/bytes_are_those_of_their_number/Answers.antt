-- Both spell one number.
use Rattle.wire_base.proofs.SpellingLemmas.{two_of_number, three_of_number, four_of_number, eight_of_number}
use Rattle.wire_base.proofs.laws.bytes_are_those_of_their_number.Goals as goal

pub returns : goal.returns
returns c = record { two = two_of_number; three = three_of_number; four = four_of_number; eight = eight_of_number }
