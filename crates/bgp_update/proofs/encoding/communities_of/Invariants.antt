-- The bytes are the communities so far.
use Rattle.std.proofs.Common.{◌≡◌, take}
use Rattle.std.specs.Prelude.{List, ℕ}
use Rattle.std.specs.List.{flat_map}
use Rattle.bgp_update.proofs.encoding.communities_of.Given as goal

abbrev pub invariant-loop-community : goal.invariant-loop-community
invariant-loop-community l = l.out ≡ flat_map (λ (c : List ℕ). c) (take l.community-index l.communities)
