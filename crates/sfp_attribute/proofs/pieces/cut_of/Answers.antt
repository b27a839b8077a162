-- The length is that of the second and the third cell.
use Rattle.std.proofs.Common.{◌≡◌, length, ◌++◌, drop, ◌∙◌, arith}
use Rattle.std.proofs.lemmas.List.{take_rest, get_or-drop}
use Rattle.sfp_attribute.proofs.CellLemmas.{cut_spelled}
use Rattle.sfp_attribute.proofs.pieces.cut_of.Goals as goal

pub returns : goal.returns
returns c =
    let b = c.args.bytes.now in
    let value = c.split_at.result.0.now in
    let rest = c.split_at.result.1.now in
    let size : length value ≡ c.be_u16.result = omega (arith, c.split_at.ensures.front_len, c.from-size.ensures) in
    let behind : drop 3 b ≡ value ++ rest = rw take_rest at c.split_at.ensures.by_index.0 in
    cut_spelled b value rest (λ i. omega (arith, c.type_inv.bytes i)) c.requires
    (size ∙ (simp (take_rest, get_or-drop) at c.be_u16.ensures.cells)) behind
