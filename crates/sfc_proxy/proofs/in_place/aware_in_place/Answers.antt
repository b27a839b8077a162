use Rattle.std.proofs.Common.{refl}
use Rattle.sfc_proxy.specs.Instances.{moved_on}
use Rattle.sfc_proxy.proofs.in_place.aware_in_place.Goals as goal

-- the header that the function leaves moves on where it lies
pub returns : goal.returns
returns c = λ h w.
    let r = c.serve-served.ensures h w in
    (moved_on c.serve-served.result.0 r.0, (r.0, r.1, refl), c.move_on.ensures.spelled r.0 c.serve-served.result.1 r.2)
