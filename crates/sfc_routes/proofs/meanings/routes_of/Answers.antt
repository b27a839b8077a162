-- The routes are those of a path that was read.
use Rattle.std.specs.List.{AllByRecursion}
use Rattle.std.proofs.Common.{sym, subst}
use Rattle.sfc_routes.specs.PeerRoutes.{RouteFits}
use Rattle.sfc_routes.proofs.MeaningLemmas.{announced_fit}
use Rattle.sfc_routes.proofs.meanings.routes_of.Goals as goal

pub returns-clause-fits : goal.returns-clause-fits
returns-clause-fits c =
    subst (AllByRecursion RouteFits) (sym c.in_ok-announced.ensures) (announced_fit c.args.update.now c.in_ok-path.path c.in_ok-path.ensures)
