-- The body is the distinguisher and the type that were read.
use Rattle.std.proofs.Common.{refl, arith}
use Rattle.std.proofs.lemmas.List.{take_rest, get_or-drop}
use Rattle.bgp_update.proofs.CellLemmas.{sfir_spelled}
use Rattle.bgp_update.proofs.nlri_lists.sfir_of.Goals as goal

pub returns : goal.returns
returns c =
    let found = rw c.unwrap.ensures at c.of.ensures.value in
    record {
      kind_is = refl;
      body_is = sfir_spelled c.args.body.now c.unwrap.result c.be_u16-kind.result (λ i. omega (arith, c.type_inv.body i)) c.requires found.0
          (simp (take_rest, get_or-drop) at c.be_u16-kind.ensures.cells);
      fits = search;
    }
