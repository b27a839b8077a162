-- What no words tell of an instance they tell of no statement with its word.
use Rattle.setup_statements.proofs.ReadingLemmas.{no_instance}
use Rattle.setup_statements.proofs.reading.read_statement.Goals as goal

pub returns-in-None-read_instance : goal.returns-in-None-read_instance
returns-in-None-read_instance c = no_instance _ c.in-None-read_instance.ensures _ c.in-Instance.is
