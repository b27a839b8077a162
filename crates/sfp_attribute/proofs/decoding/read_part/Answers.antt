-- The kind is that of an association.
use Rattle.std.proofs.Common.{ℕ, sym, subst}
use Rattle.sfp_attribute.specs.Steps.{ReadsPart}
use Rattle.sfp_attribute.proofs.decoding.read_part.Goals as goal

pub returns-in-1 : goal.returns-in-1
returns-in-1 c =
    subst (λ (k : ℕ). ReadsPart c.args.bound k c.args.piece.now.value.now c.read_association.result) (sym c.in-1.is) (c.read_association.ensures c.args.bound)
