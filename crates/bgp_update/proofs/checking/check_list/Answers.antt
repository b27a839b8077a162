-- One route more was checked.
use Rattle.std.proofs.Common.{arith}
use Rattle.bgp_update.proofs.CheckLemmas.{one_more_route}
use Rattle.bgp_update.proofs.checking.check_list.Goals as goal

pub loop-rest-preserved : goal.loop-rest-preserved
loop-rest-preserved c =
    let piece = c.in-Some.piece in
    one_more_route c.args.bytes.now c.loop-rest.rest.now piece.kind piece.body.now piece.rest.now (λ i. omega (arith, c.type_inv.bytes i)) c.loop-rest.invariant c.in-Some.ensures
