-- The targets so far are those of the other list.
use Rattle.std.proofs.Common.{◌≡◌, take}
use Rattle.sfc_routes.proofs.routes.same_targets.Given as goal

abbrev pub invariant-loop-i : goal.invariant-loop-i
invariant-loop-i l = take l.i l.targets ≡ take l.i l.others
