-- The copy has the targets so far.
use Rattle.std.proofs.Common.{◌≡◌, take}
use Rattle.sfc_routes.proofs.routes.copy_targets.Given as goal

abbrev pub invariant-loop-target : goal.invariant-loop-target
invariant-loop-target l = l.copy ≡ take l.target-index l.targets
