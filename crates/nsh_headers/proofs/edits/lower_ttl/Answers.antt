use Rattle.std.proofs.Common.{ap, ◌∙◌}
use Rattle.nsh_headers.specs.Edit.{lowered}
use Rattle.nsh_headers.proofs.HeadLemmas.{ttl_in-head}
use Rattle.nsh_headers.proofs.edits.lower_ttl.Goals as goal

-- the TTL that was read is the head's
pub returns-clause-head_answer : goal.returns-clause-head_answer
returns-clause-head_answer c = λ h spelled.
    c.one_lower-lower.ensures.same ∙ ap lowered (c.ttl_of.ensures ∙ ttl_in-head _ h spelled)
