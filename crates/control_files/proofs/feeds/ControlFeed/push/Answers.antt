-- Bytes behind a field change nothing of it.
use Rattle.control_files.proofs.FieldLemmas.{refusal_more}
use Rattle.control_files.proofs.feeds.ControlFeed.push.Goals as goal

pub returns-in-Ok-clause-refused : goal.returns-in-Ok-clause-refused
returns-in-Ok-clause-refused c = λ t bad.
    rw c.in-Ok.ensures.ok
    (refusal_more c.self.inside.peers c.self.inside.mark c.self.inside.place c.self.inside.buffer.rest c.args.piece.now t (rw (← c.self.view_is) at bad))
