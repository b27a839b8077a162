-- The forwarder that was found is at the address.
use Rattle.std.proofs.Common.{◌≡◌}
use Rattle.sfc_routes.specs.declared.entries.ForwarderEntry.{ForwarderEntry}
use Rattle.sfc_config.proofs.PlacingLemmas.{at_not}
use Rattle.sfc_config.proofs.placing.has_address.Goals as goal

pub returns-in-Some : goal.returns-in-Some
returns-in-Some c = at_not (λ (f : ForwarderEntry). f.address ≡ c.args.address.now) _ _ c.in-Some.ensures
