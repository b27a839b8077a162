-- those of the routes so far that are left
use Rattle.std.proofs.Common.{◌≡◌, take}
use Rattle.session_machine.specs.KnownRoutes.{without}
use Rattle.session_machine.proofs.known_routes.without_these.Given as goal

abbrev pub invariant-loop-nlri : goal.invariant-loop-nlri
invariant-loop-nlri l = l.left ≡ without (take l.nlri-index l.known) l.gone
