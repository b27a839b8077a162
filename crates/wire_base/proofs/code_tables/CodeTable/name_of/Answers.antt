-- What is found undoes the search.
use Rattle.wire_base.proofs.CodeLemmas.{name_undone}
use Rattle.wire_base.proofs.code_tables.CodeTable.name_of.Goals as goal

pub returns-clause-undone : goal.returns-clause-undone
returns-clause-undone g c = name_undone (λ name. name.now) c.args.self.now c.args.code c.name_by.result c.name_by.ensures.table c.name_by.ensures.value
