-- Each part is what one call left.
use Rattle.std.proofs.Common.{rules}
use Rattle.worker_run.proofs.WindowLemmas.{each_changed}
use Rattle.worker_run.proofs.windows.fill_parts.Goals as goal

pub returns : goal.returns
returns g c = each_changed _ _ _ (search rules) (λ i d lt. let k = (c.for_each_mut.ensures i d lt).1 in (k.argument.now, k.after_call.now, k.argument_is, k.call, k.left))
