-- wherever the messages that are left lead from here, all lead from the beginning
use Rattle.std.proofs.Common.{drop}
use Rattle.session_machine.specs.declared.cores.Core.{Core}
use Rattle.session_machine.specs.Tables.{TakesAll}
use Rattle.session_machine.proofs.tables.take_messages.Given as goal

abbrev pub invariant-loop-message : goal.invariant-loop-message
invariant-loop-message l = (next : Core) → TakesAll l.side l.core (drop l.message-index l.messages) next → TakesAll l.side l.initial.core l.messages next
