-- A segment may follow only as one of a peer, and its bytes stand in the file.
use Rattle.history_laws.proofs.HistoryLemmas.{is_history}
use Rattle.history_laws.proofs.laws.a_control_file_is_a_history.Goals as goal

pub returns : goal.returns
returns c = is_history
