-- The route's type and length are those of the first four cells.
use Rattle.std.proofs.Common.{◌≡◌, length, ◌++◌, drop, ◌∙◌, arith}
use Rattle.std.proofs.lemmas.List.{take_rest, get_or-drop}
use Rattle.bgp_update.proofs.CellLemmas.{cut_spelled}
use Rattle.bgp_update.proofs.nlri_lists.cut_of.Goals as goal

pub returns : goal.returns
returns c =
    let b = c.args.bytes.now in
    let body = c.split_at.result.0.now in
    let rest = c.split_at.result.1.now in
    let size : length body ≡ c.be_u16.result = c.split_at.ensures.front_len ∙ c.from-size.ensures in
    let behind : drop 4 b ≡ body ++ rest = rw take_rest at c.split_at.ensures.by_index.0 in
    cut_spelled b body rest c.be_u16-kind.result (λ i. omega (arith, c.type_inv.bytes i)) c.if-bytes-lt4.false
    c.be_u16-kind.ensures.cells (size ∙ (simp (take_rest, get_or-drop) at c.be_u16.ensures.cells)) behind
