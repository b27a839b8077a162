use Rattle.service_functions.proofs.ServingLemmas.{stamped}
use Rattle.service_functions.proofs.serving.stamp.Goals as goal

-- the bytes that were added are the body's
pub returns-in-Ok : goal.returns-in-Ok
returns-in-Ok c = stamped c.args.nsh.now c.push_item.new.self c.args.class c.args.kind c.args.body.now c.as_slice.result.now c.as_slice.ensures.value c.in-Ok.ensures
