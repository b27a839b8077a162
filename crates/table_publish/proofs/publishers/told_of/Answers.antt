use Rattle.table_publish.proofs.Moves.{admits, tells, learns}
use Rattle.table_publish.proofs.publishers.told_of.Goals as goal

-- a new reader keeps the rule of the window
pub reader-requires : goal.reader-requires
reader-requires c = admits

-- so does the note for it
pub tell-requires : goal.tell-requires
tell-requires c = tells _ _

-- and that the reader learns of it
pub learn-requires-clause-rule : goal.learn-requires-clause-rule
learn-requires-clause-rule c = learns _ _ _ _
