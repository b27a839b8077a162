-- The value is the type, the distinguisher and the path identifier that were read.
use Rattle.std.proofs.Common.{◌∙◌, refl, arith}
use Rattle.std.proofs.lemmas.List.{take_rest}
use Rattle.sfp_attribute.proofs.CellLemmas.{association_spelled}
use Rattle.sfp_attribute.proofs.decoding.read_association.Goals as goal

pub returns : goal.returns
returns c = λ bound.
    let found = rw c.unwrap.ensures at c.of.ensures.value in
    let spi = rw c.unwrap-2.ensures at c.of-2.ensures in
    record {
      kind_is = refl;
      value_is = association_spelled c.args.value.now c.unwrap.result c.unwrap-2.result (λ i. omega (arith, c.type_inv.value i)) c.requires
          (simp take_rest at found.0)
          (spi.0 ∙ (simp take_rest at c.be_u24-spi.ensures.number));
      fits = (omega (arith, c.type_inv.value 0), search, search);
      falls = tt;
    }
