-- What each seat has seen is a front of what was published.
use Rattle.worker_run.proofs.windows.close_window.Goals as goal

pub returns-clause-fronts : goal.returns-clause-fronts
returns-clause-fronts g c = (c.in_ok-kept.ensures.kept c.args.publisher.published c.in_ok-closed.ensures.seats).0
