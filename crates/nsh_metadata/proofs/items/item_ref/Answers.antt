use Rattle.std.proofs.Common.{◌∙◌, refl, get_or}
use Rattle.std.proofs.lemmas.Nat.{and_mask}
use Rattle.nsh_metadata.proofs.ItemLemmas.{item_at-parts}
use Rattle.nsh_metadata.proofs.items.item_ref.Goals as goal

pub returns : goal.returns
returns c =
    item_at-parts c.args.rest.now c.be_u16.result c.from-len.result c.padded_size-size.result c.be_u16.ensures.cells
    (c.from-len.ensures ∙ and_mask (get_or c.args.rest.now 3 0) 7)
    c.padded_size-size.ensures
    _ refl refl refl refl refl
