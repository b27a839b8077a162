use Rattle.table_publish.proofs.Moves.{looks}
use Rattle.table_publish.proofs.tolds.look_through.Goals as goal

-- a look keeps the rule of the window
pub enter_as-requires : goal.enter_as-requires
enter_as-requires c x = looks _ _ x
