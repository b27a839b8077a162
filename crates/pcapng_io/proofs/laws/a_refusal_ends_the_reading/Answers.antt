-- Bytes behind a refused field change nothing of it.
use Rattle.pcapng_io.proofs.ReadsLemmas.{reads_refused_more}
use Rattle.pcapng_io.proofs.laws.a_refusal_ends_the_reading.Goals as goal

pub returns : goal.returns
returns c = reads_refused_more
