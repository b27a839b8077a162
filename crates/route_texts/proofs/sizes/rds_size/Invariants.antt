-- The total is that of the RDs so far.
use Rattle.std.proofs.Common.{◌≡◌, take, length, min}
use Rattle.std.specs.Prelude.{List, ℕ}
use Rattle.std.specs.List.{flat_map}
use Rattle.route_texts.proofs.sizes.rds_size.Given as goal

abbrev pub invariant-loop-rd : goal.invariant-loop-rd
invariant-loop-rd l = l.total ≡ min 65536 (length (flat_map (λ (rd : List ℕ). rd) (take l.rd-index l.rds)))
