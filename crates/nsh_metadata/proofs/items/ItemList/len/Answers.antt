use Rattle.std.proofs.Common.{sym, ap, ◌∙◌, length}
use Rattle.nsh_metadata.proofs.ItemLemmas.{length-items_in}
use Rattle.nsh_metadata.proofs.items.ItemList.len.Goals as goal

pub returns : goal.returns
returns c = sym (length-items_in c.self.inside.count c.self.inside.held) ∙ ap length c.self.view_is
