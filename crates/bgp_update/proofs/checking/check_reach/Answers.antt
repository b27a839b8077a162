-- The value is kept unread, or its routes were checked.
use Rattle.std.proofs.Common.{inl, arith}
use Rattle.bgp_update.proofs.CheckLemmas.{other_has_body, reach_checked}
use Rattle.bgp_update.proofs.checking.check_reach.Goals as goal

pub returns-in_default : goal.returns-in_default
returns-in_default c =
    let piece = c.args.piece.now in
    other_has_body piece.flags piece.kind piece.value.now (inl c.requires.kind) (omega (arith, c.if-value-lt-FAMILY_SIZE.false)) c.in_default.ensures

pub returns : goal.returns
returns c =
    let piece = c.args.piece.now in
    let head = c.in-Some-reach_head.head in
    reach_checked c.args.start piece.flags piece.kind piece.value.now c.in-Some.behind.now head.next_hop head.reserved head.list.now c.check_list.result
    c.requires.kind c.in-Some.ensures c.in-Some-reach_head.ensures (rw c.header_of.ensures at c.check_list.ensures)
