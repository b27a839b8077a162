-- the head alone is edited
use Rattle.std.proofs.Common.{arith}
use Rattle.nsh_metadata.proofs.HeaderLemmas.{begins_head}
use Rattle.forwarder.proofs.HeaderEdits.{aged_at}
use Rattle.forwarder.proofs.headers.age.Goals as goal

pub returns-clause-answer : goal.returns-clause-answer
returns-clause-answer c = λ h w. c.lower_ttl.ensures.head_answer h.head (begins_head c.args.header.now h c.args.size w)

pub returns-clause-spelled : goal.returns-clause-spelled
returns-clause-spelled c = λ h w.
    aged_at c.args.header.now c.lower_ttl.new.bytes h c.args.size c.lower_ttl.result w (omega arith) c.lower_ttl.ensures.edit.behind c.lower_ttl.ensures.head
    (c.lower_ttl.ensures.head_answer h.head (begins_head c.args.header.now h c.args.size w))
