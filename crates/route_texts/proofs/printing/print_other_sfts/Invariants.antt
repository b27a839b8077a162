-- What is written of the types.
use Rattle.std.proofs.Common.{◌≡◌, ◌++◌, ◌∷◌, take}
use Rattle.std.specs.List.{flat_map}
use Rattle.sfp_attribute.specs.declared.sfps.HopPart.{HopPart}
use Rattle.route_texts.specs.Printed.{sft_text}
use Rattle.route_texts.proofs.printing.print_other_sfts.Given as goal

abbrev pub invariant-loop-part : goal.invariant-loop-part
invariant-loop-part l = l.out ≡ l.initial.out ++ flat_map (λ (part : HopPart). 59 ∷ sft_text part) (take l.part-index l.parts)
