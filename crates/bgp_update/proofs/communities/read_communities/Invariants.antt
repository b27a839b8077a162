-- The value is the communities so far, and what is still to read, in pieces of 8 bytes.
use Rattle.std.proofs.Common.{◌≡◌, ◌++◌, ◌%◌, length}
use Rattle.std.specs.List.{flat_map, AllByRecursion}
use Rattle.std.specs.Prelude.{List, ℕ}
use Rattle.bgp_update.proofs.communities.read_communities.Given as goal

pub record Read (value : List ℕ) (found : List (List ℕ)) (rest : List ℕ) : Type 0 where
  pub split : value ≡ flat_map (λ (c : List ℕ). c) found ++ rest
  pub fit : AllByRecursion (λ (c : List ℕ). length c ≡ 8) found
  pub pieces : length rest % 8 ≡ 0

abbrev pub invariant-loop-community : goal.invariant-loop-community
invariant-loop-community l = Read l.value l.communities l.rest

abbrev pub decreases-loop-community : goal.decreases-loop-community
decreases-loop-community l = length l.rest
