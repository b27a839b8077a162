-- No forwarder is at the next hop, or no instance has the RD and the type.
use Rattle.route_selection.proofs.UsableLemmas.{no_forwarder, no_instance}
use Rattle.route_selection.proofs.usable_routes.candidate_of.Goals as goal

pub returns-in_default-forwarder_at : goal.returns-in_default-forwarder_at
returns-in_default-forwarder_at c = λ x o. no_forwarder c.args.roster.now _ x c.in_default-forwarder_at.ensures o

pub returns-in_default-instance_at : goal.returns-in_default-instance_at
returns-in_default-instance_at c = λ x o. no_instance c.args.roster.now _ x _ _ c.in-Sfir.is c.in_default-instance_at.ensures o
