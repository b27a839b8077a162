-- The bytes are the type and the RDs so far.
use Rattle.std.proofs.Common.{◌≡◌, ◌++◌, take}
use Rattle.std.specs.Prelude.{List, ℕ}
use Rattle.std.specs.List.{flat_map}
use Rattle.wire_base.specs.Numbers.{two}
use Rattle.sfp_attribute.proofs.encoding.sft_value.Given as goal

abbrev pub invariant-loop-rd : goal.invariant-loop-rd
invariant-loop-rd l = l.out ≡ two l.kind ++ flat_map (λ (rd : List ℕ). rd) (take l.rd-index l.rds)
