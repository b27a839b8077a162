-- The lengths are those of the cells before and behind the withdrawn routes.
use Rattle.std.proofs.Common.{◌≡◌, length, ◌++◌, ◌≤◌, drop, ◌∙◌, ap, arith}
use Rattle.std.proofs.lemmas.List.{take_rest, length-append, length-drop}
use Rattle.bgp_update.proofs.CellLemmas.{opening_spelled}
use Rattle.bgp_update.proofs.parts.opening_of.Goals as goal

pub returns : goal.returns
returns c =
    let b = c.args.content.now in
    let withdrawn = c.split_at.result.0.now in
    let behind = c.split_at.result.1.now in
    let size : length withdrawn ≡ c.be_u16.result = c.split_at.ensures.front_len ∙ c.from-size.ensures in
    let split : drop 2 b ≡ withdrawn ++ behind = rw take_rest at c.split_at.ensures.by_index.0 in
    let room = rw take_rest at c.if-after-size.false in
    let there : 2 ≤ length behind = omega (arith, room, length-drop 2 b, c.if-content-lt4.false, ap length split, length-append withdrawn behind, c.split_at.ensures.front_len) in
    rw take_rest (opening_spelled b withdrawn behind c.be_u16-2.result (λ i. omega (arith, c.type_inv.content i)) (omega (arith, c.if-content-lt4.false)) there
    (size ∙ c.be_u16.ensures.cells) split c.be_u16-2.ensures.cells)
