-- The first of kind 16 is among the attributes still to see.
use Rattle.std.proofs.Common.{◌≡◌, ◌==◌, drop}
use Rattle.std.specs.Prelude.{find}
use Rattle.bgp_update.specs.declared.attributes.Attribute.{Attribute}
use Rattle.bgp_update.proofs.updates.Update.broken.Given as goal

abbrev pub invariant-loop-attribute : goal.invariant-loop-attribute
invariant-loop-attribute l = find (λ (a : Attribute). a.kind == 16) (drop l.attribute-index l.self.attributes) ≡ find (λ (a : Attribute). a.kind == 16) l.self.attributes
