-- Those so far that are instance or path routes.
use Rattle.std.proofs.Common.{◌≡◌, ◌++◌, take, filter}
use Rattle.sfc_routes.specs.Meanings.{is_service}
use Rattle.sfc_routes.proofs.withdrawals.push_services.Given as goal

abbrev pub invariant-loop-nlri : goal.invariant-loop-nlri
invariant-loop-nlri l = l.out ≡ l.fn.out ++ filter is_service (take l.nlri-index l.nlris)
