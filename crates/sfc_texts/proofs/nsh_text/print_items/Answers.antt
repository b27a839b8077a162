use Rattle.sfc_texts.specs.NshText.{item_line}
use Rattle.sfc_texts.proofs.TextLemmas.{one_more}
use Rattle.sfc_texts.proofs.nsh_text.print_items.Goals as goal

-- one more item's line
pub items-preserved : goal.items-preserved
items-preserved c = one_more item_line c.args.items.now c.items.i _ c.args.out.now c.items.out c.print_item.new.out c.item.ensures.item c.items.invariant c.in_ok-print_item.ensures
