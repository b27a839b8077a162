use Rattle.nsh_metadata.proofs.EncodingLemmas.{same_spelling}
use Rattle.nsh_metadata.proofs.laws.one_spelling.Goals as goal

pub returns : goal.returns
returns c = same_spelling
