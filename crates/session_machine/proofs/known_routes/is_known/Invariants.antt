-- what the answer is on the routes that are left, it is on all
use Rattle.std.proofs.Common.{◌≡◌, drop}
use Rattle.std.specs.List.{list_any}
use Rattle.session_machine.specs.KnownRoutes.{is_same}
use Rattle.session_machine.proofs.known_routes.is_known.Given as goal

abbrev pub invariant-loop-nlri : goal.invariant-loop-nlri
invariant-loop-nlri l = list_any (λ n. is_same n l.one) (drop l.nlri-index l.known) ≡ list_any (λ n. is_same n l.one) l.known
