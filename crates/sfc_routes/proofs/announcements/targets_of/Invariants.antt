-- The targets among the communities so far.
use Rattle.std.proofs.Common.{◌≡◌, take, filter}
use Rattle.sfc_routes.specs.Meanings.{is_target}
use Rattle.sfc_routes.proofs.announcements.targets_of.Given as goal

abbrev pub invariant-loop-community : goal.invariant-loop-community
invariant-loop-community l = l.targets ≡ filter is_target (take l.community-index l.communities)
