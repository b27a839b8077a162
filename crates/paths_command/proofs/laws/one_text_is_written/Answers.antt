use Rattle.paths_command.proofs.WholeLemmas.{one_writing}
use Rattle.paths_command.proofs.laws.one_text_is_written.Goals as goal

pub returns : goal.returns
returns c = one_writing c.segments_have_one_log.ensures c.changes_have_one_table.ensures
