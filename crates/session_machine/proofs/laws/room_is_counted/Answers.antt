use Rattle.session_machine.proofs.GroupLemmas.{room_for}
use Rattle.session_machine.proofs.laws.room_is_counted.Goals as goal

pub returns : goal.returns
returns c = room_for
