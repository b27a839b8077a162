-- Bytes behind a field change nothing of it.
use Rattle.control_files.proofs.ReadsLemmas.{reads_refused_more}
use Rattle.control_files.proofs.laws.a_refusal_ends_the_reading.Goals as goal

pub returns : goal.returns
returns c = reads_refused_more
