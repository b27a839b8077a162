-- The file is read, its segments have a log, and each version of its changes is a table.
use Rattle.paths_command.proofs.TextExists.{some_text}
use Rattle.paths_command.proofs.laws.every_control_file_has_a_text.Goals as goal

pub returns : goal.returns
returns c =
    some_text c.every_list_of_bytes_is_read.ensures c.every_list_of_segments_has_a_log.ensures c.changes_of_a_log_are_taken.ensures c.every_list_of_changes_has_a_table.ensures
