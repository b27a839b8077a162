-- What is found undoes the search.
use Rattle.wire_base.proofs.CodeLemmas.{code_undone}
use Rattle.wire_base.proofs.code_tables.CodeTable.code_of.Goals as goal

pub returns-clause-undone : goal.returns-clause-undone
returns-clause-undone g c = code_undone c.args.self.now c.args.name.now c.code_by.result c.code_by.ensures.table c.code_by.ensures.value
