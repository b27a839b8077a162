-- Those so far that are not announced.
use Rattle.std.proofs.Common.{◌≡◌, ◌++◌, take, filter}
use Rattle.sfc_routes.specs.Meanings.{is_turned}
use Rattle.sfc_routes.proofs.withdrawals.push_turned.Given as goal

abbrev pub invariant-loop-nlri : goal.invariant-loop-nlri
invariant-loop-nlri l = l.out ≡ l.fn.out ++ filter (is_turned l.broken l.path) (take l.nlri-index l.nlris)
