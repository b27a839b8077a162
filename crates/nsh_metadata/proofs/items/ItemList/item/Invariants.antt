use Rattle.std.proofs.Common.{◌≡◌, drop}
use Rattle.nsh_metadata.specs.Item.{items_bytes}
use Rattle.nsh_metadata.proofs.items.ItemList.item.Given as goal

abbrev pub invariant-loop : goal.invariant-loop
invariant-loop l = l.rest ≡ items_bytes (drop l.counter l.self)
