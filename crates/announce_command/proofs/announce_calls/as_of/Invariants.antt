use Rattle.std.proofs.Common.{◌≢◌, ℕ, take}
use Rattle.std.specs.List.{All}
use Rattle.announce_command.proofs.announce_calls.as_of.Given as goal

-- no peer so far has the number
abbrev pub invariant-loop-entry : goal.invariant-loop-entry
invariant-loop-entry l = All (λ (p : ℕ × ℕ). p.0 ≢ l.peer) (take l.entry-index l.peers)
