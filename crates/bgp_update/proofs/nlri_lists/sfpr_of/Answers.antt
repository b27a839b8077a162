-- The body is the distinguisher and the path identifier that were read.
use Rattle.std.proofs.Common.{◌∙◌, refl, arith}
use Rattle.std.proofs.lemmas.List.{take_rest}
use Rattle.bgp_update.proofs.CellLemmas.{sfpr_spelled}
use Rattle.bgp_update.proofs.nlri_lists.sfpr_of.Goals as goal

pub returns : goal.returns
returns c =
    let found = rw c.unwrap.ensures at c.of.ensures.value in
    let spi = rw c.unwrap-2.ensures at c.of-2.ensures in
    record {
      kind_is = refl;
      body_is = sfpr_spelled c.args.body.now c.unwrap.result c.unwrap-2.result (λ i. omega (arith, c.type_inv.body i)) c.requires found.0
          (spi.0 ∙ (rw take_rest at c.be_u24-spi.ensures.number));
      fits = search;
    }
