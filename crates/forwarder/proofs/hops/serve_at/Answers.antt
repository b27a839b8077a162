-- the function is that of the instance's number
use Rattle.std.proofs.Common.{subst, arith}
use Rattle.sfc_proxy.specs.Instances.{ServeAwareAt}
use Rattle.service_functions.specs.declared.functions.Function.{Function}
use Rattle.forwarder.proofs.HopLemmas.{function_there, function_past}
use Rattle.forwarder.proofs.hops.serve_at.Goals as goal

pub returns-then-place-bounds : goal.returns-then-place-bounds
returns-then-place-bounds c =
    subst (λ (f : Function). ServeAwareAt f c.args.frame.now c.args.header.now c.args.size c.serve_by.result.0 c.serve_by.new.frame c.serve_by.new.header c.serve_by.result.1)
    (function_there c.args.bounds.now c.args.instance c.from-place.result c.index-bounds-place.result c.from-place.ensures (omega arith) c.index-bounds-place.is) c.serve_by.ensures

pub returns : goal.returns
returns c =
    subst (λ (f : Function). ServeAwareAt f c.args.frame.now c.args.header.now c.args.size c.aware_in_place.result.0 c.aware_in_place.new.frame c.aware_in_place.new.header c.aware_in_place.result.1)
    (function_past c.args.bounds.now c.args.instance c.from-place.result c.from-place.ensures (omega arith)) c.aware_in_place.ensures
