-- no session before the place has the peer
use Rattle.std.proofs.Common.{ℕ, ◌<◌, ◌≡◌, slice_index_or}
use Rattle.session_machine.specs.declared.machines.Session.{Session}
use Rattle.session_machine.proofs.groups.place_of.Given as goal

abbrev pub invariant-loop-i : goal.invariant-loop-i
invariant-loop-i l = (k : ℕ) (d : Session) → k < l.i → (slice_index_or l.sessions k d).side.peer ≡ l.peer → ⊥
