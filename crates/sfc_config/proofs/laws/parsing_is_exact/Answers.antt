-- A text has one reading.
use Rattle.sfc_config.proofs.LawLemmas.{parses_setup, parses_refused}
use Rattle.sfc_config.proofs.laws.parsing_is_exact.Goals as goal

pub returns : goal.returns
returns c = record { setup = parses_setup; refusal = parses_refused }
