-- Bytes behind a field change nothing of it.
use Rattle.std.proofs.Common.{take}
use Rattle.control_files.proofs.FieldLemmas.{refusal_more}
use Rattle.control_files.proofs.feeds.ControlFeed.filled.Goals as goal

pub returns-clause-refused : goal.returns-clause-refused
returns-clause-refused c = λ t bad.
    rw c.filled.ensures.rest
    (refusal_more c.self.inside.peers c.self.inside.mark c.self.inside.place c.self.inside.buffer.rest (take c.args.count c.self.inside.buffer.room) t (rw (← c.self.view_is) at bad))
