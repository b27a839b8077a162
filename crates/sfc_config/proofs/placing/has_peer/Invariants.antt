-- no peer before the place has the number
use Rattle.std.proofs.Common.{ℕ, ◌<◌, ◌≡◌, slice_index_or}
use Rattle.sfc_config.proofs.placing.has_peer.Given as goal

abbrev pub invariant-loop-peer : goal.invariant-loop-peer
invariant-loop-peer l = (k : ℕ) (d : ℕ × ℕ) → k < l.peer-index → (slice_index_or l.peers k d).0 ≡ l.number → ⊥
