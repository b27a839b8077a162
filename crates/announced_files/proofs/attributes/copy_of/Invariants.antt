-- The targets so far.
use Rattle.std.proofs.Common.{◌≡◌, take}
use Rattle.announced_files.proofs.attributes.copy_of.Given as goal

abbrev pub invariant-loop-target : goal.invariant-loop-target
invariant-loop-target l = l.copy ≡ take l.target-index l.targets
