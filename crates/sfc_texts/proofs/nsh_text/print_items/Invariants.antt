use Rattle.std.proofs.Common.{◌≡◌, ◌++◌, take}
use Rattle.std.specs.List.{flat_map}
use Rattle.sfc_texts.specs.NshText.{item_line}
use Rattle.sfc_texts.proofs.nsh_text.print_items.Given as goal

-- the lines of the items so far were appended
abbrev pub invariant-items : goal.invariant-items
invariant-items l = l.out ≡ l.initial.out ++ flat_map item_line (take l.i l.items)
