use Rattle.nsh_metadata.proofs.HeaderLemmas.{refused_once}
use Rattle.nsh_metadata.proofs.laws.one_refusal.Goals as goal

pub returns : goal.returns
returns c = refused_once
