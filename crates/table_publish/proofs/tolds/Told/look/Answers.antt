use Rattle.table_publish.proofs.LookLemmas.{looked}
use Rattle.table_publish.proofs.tolds.Told.look.Goals as goal

-- the list that is then seen goes on from the one that was told
pub returns : goal.returns
returns c = rw (← c.self.view_is) (looked _ _ _ _ c.args.spi c.args.si _ c.self.invariant c.in-Some.ensures)
