-- With the lines of the attributes that are left, the text is whole.
use Rattle.std.proofs.Common.{◌≡◌, ◌++◌, length}
use Rattle.std.specs.Prelude.{List}
use Rattle.std.specs.List.{flat_map, AllByRecursion}
use Rattle.bgp_update.specs.declared.attributes.Attribute.{Attribute}
use Rattle.bgp_update.specs.Attributes.{attributes_bytes, AttributeFits}
use Rattle.sfc_texts.specs.BgpText.{attribute_line}
use Rattle.sfc_texts.proofs.AttributeLines.{LinesLeft}
use Rattle.sfc_texts.proofs.bgp_text.print_attributes.Given as goal

abbrev pub invariant-loop-piece : goal.invariant-loop-piece
invariant-loop-piece l = (list : List Attribute) → AllByRecursion AttributeFits list → l.bytes ≡ attributes_bytes list → LinesLeft (l.initial.out ++ flat_map attribute_line list) l.rest l.out

abbrev pub decreases-loop-piece : goal.decreases-loop-piece
decreases-loop-piece l = length l.rest
