-- The capabilities so far were appended.
use Rattle.std.proofs.Common.{◌≡◌, ◌++◌, take}
use Rattle.std.specs.List.{flat_map}
use Rattle.sfc_texts.specs.BgpText.{further_capability}
use Rattle.sfc_texts.proofs.bgp_text.print_all_further.Given as goal

abbrev pub invariant-loop-capability : goal.invariant-loop-capability
invariant-loop-capability l = l.out ≡ l.initial.out ++ flat_map further_capability (take l.capability-index l.caps)
