-- One attribute more was checked, or what it is refused for is told at its place.
use Rattle.std.proofs.Common.{arith}
use Rattle.std.proofs.lemmas.Result.{err_from_is_err_and}
use Rattle.bgp_update.proofs.CheckLemmas.{one_more_attribute, attribute_again, attribute_refused}
use Rattle.bgp_update.proofs.checking.check_attributes.Goals as goal

pub returns-then-repeats : goal.returns-then-repeats
returns-then-repeats c =
    let piece = c.in-Some.piece in
    let so_far = c.loop-rest.invariant in
    attribute_again c.args.start c.args.bytes.now c.loop-rest.rest.now c.loop-rest.seen piece.flags piece.kind piece.value.now piece.rest.now so_far
    c.in-Some.ensures (c.if-repeats.ensures so_far.good so_far.sees)

pub returns-in_err-check_body : goal.returns-in_err-check_body
returns-in_err-check_body c =
    let piece = c.in-Some.piece in
    let so_far = c.loop-rest.invariant in
    let row = attribute_refused c.args.start c.args.bytes.now c.loop-rest.rest.now c.loop-rest.seen piece.flags piece.kind piece.value.now piece.rest.now c.in_err-check_body.field-0.0 so_far
    c.in-Some.ensures (c.if-repeats.ensures so_far.good so_far.sees) c.in_err-check_body.ensures in
    let p = err_from_is_err_and c.from_residual.result c.from_residual.ensures.1 in
    rw (p.1, p.2) row

pub loop-rest-preserved : goal.loop-rest-preserved
loop-rest-preserved c =
    let piece = c.in-Some.piece in
    let so_far = c.loop-rest.invariant in
    one_more_attribute c.args.bytes.now c.loop-rest.rest.now c.loop-rest.seen c.with-seen.result piece.flags piece.kind piece.value.now piece.rest.now (λ i. omega (arith, c.type_inv.bytes i))
    so_far c.in-Some.ensures (c.if-repeats.ensures so_far.good so_far.sees) c.in_ok-check_body.ensures c.with-seen.ensures
