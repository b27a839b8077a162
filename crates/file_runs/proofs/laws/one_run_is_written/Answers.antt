-- Both are the run over the one reading of both files.
use Rattle.file_runs.proofs.WriteLemmas.{one_writing}
use Rattle.file_runs.proofs.laws.one_run_is_written.Goals as goal

pub returns : goal.returns
returns c = λ setup capture control end halt out other parts x y.
    one_writing c.segments_have_one_log.ensures c.a_round_says_one_list.ensures setup capture control end halt out other parts.roster_fits x y
