use Rattle.nsh_metadata.proofs.ReadingLemmas.{only_header, only_refusal}
use Rattle.nsh_metadata.proofs.decoding.decode_nsh.Goals as goal

pub returns-clause-only : goal.returns-clause-only
returns-clause-only c = λ h n w. only_header c.args.bytes.now c.read.result h n c.read.ensures w

pub returns-clause-each_refusal : goal.returns-clause-each_refusal
returns-clause-each_refusal c = λ f p. only_refusal c.args.bytes.now c.read.result f c.read.ensures p
