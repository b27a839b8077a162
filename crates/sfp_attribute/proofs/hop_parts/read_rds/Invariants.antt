-- The bytes are the RDs so far, and what is still to read, in pieces of 8 bytes.
use Rattle.std.proofs.Common.{◌≡◌, ◌++◌, ◌%◌, length}
use Rattle.std.specs.List.{flat_map}
use Rattle.std.specs.Prelude.{List, ℕ}
use Rattle.sfp_attribute.specs.Sfps.{RdsFit}
use Rattle.sfp_attribute.proofs.hop_parts.read_rds.Given as goal

pub record Read (bytes : List ℕ) (found : List (List ℕ)) (rest : List ℕ) : Type 0 where
  pub split : bytes ≡ flat_map (λ (rd : List ℕ). rd) found ++ rest
  pub fit : RdsFit found
  pub pieces : length rest % 8 ≡ 0

abbrev pub invariant-loop-rd : goal.invariant-loop-rd
invariant-loop-rd l = Read l.bytes l.rds l.rest

abbrev pub decreases-loop-rd : goal.decreases-loop-rd
decreases-loop-rd l = length l.rest
