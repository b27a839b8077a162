-- The entry that was found has the name.
use Rattle.std.proofs.Common.{◌≡◌, ◌∙◌}
use Rattle.sfc_routes.specs.declared.entries.ForwarderEntry.{ForwarderEntry}
use Rattle.sfc_config.proofs.PlacingLemmas.{at_not}
use Rattle.sfc_config.proofs.placing.has_forwarder.Goals as goal

pub returns-in-Some : goal.returns-in-Some
returns-in-Some c = λ none.
    at_not (λ (e : ForwarderEntry). e.name ≡ c.as_str.result.now) _ _ c.in-Some.ensures (λ k d lt e. none k d lt (e ∙ c.as_str.ensures.value))
