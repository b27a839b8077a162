use Rattle.std.proofs.Common.{arith}
use Rattle.std.proofs.lemmas.Bool.Decides.{nat_tests}
use Rattle.path_selection.proofs.still_tables.StillTables.lookup.Goals as goal

pub returns-clause-answers : goal.returns-clause-answers
returns-clause-answers c = rw (← c.self.view_is) (c.self.inside.table.now, grind (arith, nat_tests), c.answer.ensures)
