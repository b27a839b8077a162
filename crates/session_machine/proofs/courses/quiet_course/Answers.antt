-- A session before its first event is the machine in its beginning.
use Rattle.std.proofs.Common.{refl}
use Rattle.session_machine.proofs.CourseLemmas.{after_new}
use Rattle.session_machine.proofs.courses.quiet_course.Goals as goal

pub returns-clause-agrees : goal.returns-clause-agrees
returns-clause-agrees c = record { core = c.quiet_core.ensures; last = refl; sent = refl; feed = after_new c.new.result c.new.ensures.value }
