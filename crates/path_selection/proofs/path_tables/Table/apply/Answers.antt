use Rattle.path_selection.proofs.TableLemmas.{rises_cut}
use Rattle.path_selection.proofs.path_tables.Table.apply.Goals as goal

pub invariant_of-self-in-Cut : goal.invariant_of-self-in-Cut
invariant_of-self-in-Cut c = rw c.cut.ensures (rises_cut 0 c.in-Cut.spi _ c.self.invariant)
