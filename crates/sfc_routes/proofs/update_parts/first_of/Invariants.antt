-- The first of the kind is among the attributes still to see.
use Rattle.std.proofs.Common.{◌≡◌, ◌==◌, drop, find}
use Rattle.bgp_update.specs.declared.attributes.Attribute.{Attribute}
use Rattle.sfc_routes.proofs.update_parts.first_of.Given as goal

abbrev pub invariant-loop-attribute : goal.invariant-loop-attribute
invariant-loop-attribute l = find (λ (a : Attribute). a.kind == l.kind) (drop l.attribute-index l.update.attributes) ≡ find (λ (a : Attribute). a.kind == l.kind) l.update.attributes
