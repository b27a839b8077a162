-- Each spelling is put together from halves.
use Rattle.wire_base.proofs.SpellingLemmas.{two_spells, three_spells, four_spells, eight_spells}
use Rattle.wire_base.proofs.laws.bytes_of_a_number_spell_it.Goals as goal

pub returns : goal.returns
returns c = record { two = two_spells; three = three_spells; four = four_spells; eight = eight_spells }
