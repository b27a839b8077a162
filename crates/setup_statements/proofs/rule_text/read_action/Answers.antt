-- Only a path begins with its word.
use Rattle.setup_statements.proofs.ReadingLemmas.{no_path}
use Rattle.setup_statements.proofs.rule_text.read_action.Goals as goal

pub returns-in-None : goal.returns-in-None
returns-in-None c = no_path _ _ _ c.in-Some.ensures (c.is_text.ensures.0 c.if-is_text.true) c.in-None.ensures
