-- The lines so far stand for the bytes that were taken.
use Rattle.std.proofs.Common.{◌≡◌, ◌+◌, ◌++◌, length}
use Rattle.std.specs.Prelude.{ℕ, List}
use Rattle.sfc_texts.specs.Showings.{Showing, Stands}
use Rattle.sfc_texts.proofs.stream_texts.StreamLines.drain.Given as goal

pub record Draining (then now : Showing) (before after : List ℕ) : Type 0 where
  pub so_far : (taken front : List ℕ) → Stands then taken (front ++ before) → Stands now taken (front ++ after)
  pub count : now.place + length now.rest ≡ then.place + length then.rest

abbrev pub invariant-messages : goal.invariant-messages
invariant-messages l = Draining l.initial.self l.self l.initial.out l.out

abbrev pub decreases-messages : goal.decreases-messages
decreases-messages l = length l.self.rest
