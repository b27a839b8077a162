use Rattle.nsh_metadata.proofs.HeaderLemmas.{begins_once}
use Rattle.nsh_metadata.proofs.laws.one_header.Goals as goal

pub returns : goal.returns
returns c = begins_once
