-- None of the routes so far has the NLRI.
use Rattle.std.proofs.Common.{take}
use Rattle.std.specs.Prelude.{◌≢◌}
use Rattle.std.specs.List.{AllByRecursion}
use Rattle.sfc_routes.specs.declared.routes.Route.{Route}
use Rattle.route_texts.proofs.parsing.has_nlri.Given as goal

abbrev pub invariant-loop-route : goal.invariant-loop-route
invariant-loop-route l = AllByRecursion (λ (q : Route). q.nlri ≢ l.nlri) (take l.route-index l.routes)
