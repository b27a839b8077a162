-- The value is kept unread, or its routes were checked.
use Rattle.std.proofs.Common.{inr, arith}
use Rattle.bgp_update.proofs.CheckLemmas.{other_has_body, unreach_checked}
use Rattle.bgp_update.proofs.checking.check_unreach.Goals as goal

pub returns-in_default : goal.returns-in_default
returns-in_default c =
    let piece = c.args.piece.now in
    other_has_body piece.flags piece.kind piece.value.now (inr c.requires.kind) (omega (arith, c.if-value-lt-FAMILY_SIZE.false)) c.in_default.ensures

pub returns : goal.returns
returns c =
    let piece = c.args.piece.now in
    unreach_checked c.args.start piece.flags piece.kind piece.value.now c.in-Some.list.now c.check_list.result c.requires.kind c.in-Some.ensures (rw c.header_of.ensures at c.check_list.ensures)
