-- The frames so far are the first of those that a reader of the input gets.
use Rattle.walk_command.proofs.EgressLemmas.{front_of_whole}
use Rattle.walk_command.proofs.laws.a_front_is_of_the_whole.Goals as goal

pub returns : goal.returns
returns c = front_of_whole
