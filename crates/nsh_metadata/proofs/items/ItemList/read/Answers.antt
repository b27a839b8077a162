use Rattle.nsh_metadata.proofs.ItemLemmas.{HoldsItems-copied, items_in-copied}
use Rattle.nsh_metadata.proofs.items.ItemList.read.Goals as goal

pub invariant_of-result : goal.invariant_of-result
invariant_of-result c = (c.requires.room, HoldsItems-copied c.args.bytes.now _ _ c.args.count c.copy_from_slice.ensures.after c.requires.spelled)

pub returns : goal.returns
returns c = items_in-copied c.args.bytes.now _ _ c.args.count c.copy_from_slice.ensures.after c.requires.spelled
