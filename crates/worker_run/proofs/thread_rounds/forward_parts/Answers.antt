-- The parts are worked on as far as their seats come, and then finished.
use Rattle.worker_run.specs.Shares.{published_on}
use Rattle.worker_run.proofs.ShareLemmas.{all_can_finish, shapes}
use Rattle.worker_run.proofs.thread_rounds.forward_parts.Goals as goal

pub finish_parts-requires-after_bounds : goal.finish_parts-requires-after_bounds
finish_parts-requires-after_bounds g c κs within =
    all_can_finish c.args.setup.now (published_on c.args.table.now c.args.version c.args.versions.now.lists.items) c.args.parts.now c.work_parts.new.parts c.requires.limits c.in_ok-work_parts.ensures.worked

pub returns-clause-shape : goal.returns-clause-shape
returns-clause-shape g c = shapes c.args.parts.now c.work_parts.new.parts c.finish_parts.new.parts c.work_parts.ensures.shape c.finish_parts.ensures.shape
