-- The items that are left hold an item of the class and type exactly where all items do.
use Rattle.std.proofs.Common.{length}
use Rattle.nsh_metadata.proofs.ChangeLemmas.{Left}
use Rattle.nsh_metadata.proofs.items.is_among.Given as goal

abbrev pub invariant-loop-rest : goal.invariant-loop-rest
invariant-loop-rest l = Left l.fn.bytes l.rest l.class l.kind

abbrev pub decreases-loop-rest : goal.decreases-loop-rest
decreases-loop-rest l = length l.rest
