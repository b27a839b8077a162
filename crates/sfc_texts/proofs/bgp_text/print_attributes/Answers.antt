-- One attribute's line more, until none is left.
use Rattle.std.specs.Prelude.{◌++◌}
use Rattle.std.specs.List.{flat_map}
use Rattle.sfc_texts.specs.BgpText.{attribute_line}
use Rattle.sfc_texts.proofs.AttributeLines.{line_printed, all_printed}
use Rattle.sfc_texts.proofs.bgp_text.print_attributes.Goals as goal

pub loop-piece-preserved : goal.loop-piece-preserved
loop-piece-preserved c =
    let piece = c.in-Some.piece in
    λ list fit is. line_printed (c.args.out.now ++ flat_map attribute_line list) c.loop-piece.rest.now c.loop-piece.out c.print_attribute.new.out piece.flags piece.kind piece.value.now piece.rest.now
    (c.loop-piece.invariant list fit is) c.in-Some.ensures c.in_ok-print_attribute.ensures

pub returns : goal.returns
returns c = λ list fit is. all_printed (c.args.out.now ++ flat_map attribute_line list) c.loop-piece.rest.now c.loop-piece.out (c.loop-piece.invariant list fit is) c.in_default.ensures
