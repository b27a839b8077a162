-- The type is that of the first two cells.
use Rattle.std.proofs.Common.{drop, refl, inr, arith}
use Rattle.std.proofs.lemmas.List.{length-drop}
use Rattle.sfp_attribute.proofs.CellLemmas.{front_two}
use Rattle.sfp_attribute.proofs.hop_parts.read_sft.Goals as goal

pub returns-then-kind-lt-LOWEST_TYPE : goal.returns-then-kind-lt-LOWEST_TYPE
returns-then-kind-lt-LOWEST_TYPE c =
    let value = c.args.value.now in
    let kind = c.be_u16-kind.result in
    inr (
      refl,
      record {
        kind = kind;
        rds = drop 2 value;
        spelled = front_two value kind (λ i. omega (arith, c.type_inv.value i)) (omega (arith, c.requires.right)) c.be_u16-kind.ensures.cells;
        whole = omega (arith, length-drop 2 value, c.requires.right);
        low = omega (arith, c.if-kind-lt-LOWEST_TYPE.true);
        told = refl;
      },
    )
