-- What is written of the hops.
use Rattle.std.proofs.Common.{◌≡◌, ◌++◌, ◌∷◌, take}
use Rattle.std.specs.List.{flat_map}
use Rattle.sfp_attribute.specs.declared.sfps.Part.{Part}
use Rattle.route_texts.specs.Printed.{hop_text}
use Rattle.route_texts.proofs.printing.print_hops.Given as goal

abbrev pub invariant-loop-part : goal.invariant-loop-part
invariant-loop-part l = l.out ≡ l.initial.out ++ flat_map (λ (part : Part). 32 ∷ hop_text part) (take l.part-index l.parts)
