use Rattle.sfc_proxy.proofs.InstanceLemmas.{stamped_at}
use Rattle.sfc_proxy.proofs.in_place.stamp.Goals as goal

-- the bytes that were added are the body's
pub returns-in-Ok : goal.returns-in-Ok
returns-in-Ok c = λ h w. stamped_at h c.args.class c.args.kind c.args.body.now c.as_slice.result.now c.in-Ok.end c.args.header.now c.push_item.new.header c.as_slice.ensures.value (c.in-Ok.ensures h w)
