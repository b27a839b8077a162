use Rattle.nsh_headers.proofs.HeadLemmas.{same_front}
use Rattle.nsh_headers.proofs.laws.one_spelling.Goals as goal

pub returns : goal.returns
returns c = same_front
