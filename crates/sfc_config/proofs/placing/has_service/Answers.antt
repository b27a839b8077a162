-- The instance that was found has both.
use Rattle.sfc_routes.specs.Entries.{Serves}
use Rattle.sfc_config.proofs.PlacingLemmas.{at_not}
use Rattle.sfc_config.proofs.placing.has_service.Goals as goal

pub returns-in-Some : goal.returns-in-Some
returns-in-Some c = at_not (Serves c.args.rd.now c.args.kind) _ _ c.in-Some.ensures
