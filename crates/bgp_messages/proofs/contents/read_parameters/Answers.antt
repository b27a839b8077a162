-- A capability that is refused is behind the parameters that were read.
use Rattle.std.proofs.lemmas.Result.{err_from_is_err_and}
use Rattle.bgp_messages.proofs.ContentLemmas.{refused_inside}
use Rattle.bgp_messages.proofs.contents.read_parameters.Goals as goal

pub returns-in_err-caps : goal.returns-in_err-caps
returns-in_err-caps c =
    let p = err_from_is_err_and c.from_residual.result c.from_residual.ensures.1 in
    rw (p.1, p.2) (refused_inside c.args.bytes.now c.loop-rest.params c.loop-rest.rest.now c.in-Some.item.value.now c.in-Some.item.rest.now c.in-Some.item.code _ c.loop-rest.invariant c.in-Some.ensures c.if-item-ne-CAPABILITIES.false c.in_err-caps.ensures)
