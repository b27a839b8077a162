-- The feed has given what it gave before, and these messages.
use Rattle.std.proofs.Common.{◌≡◌, ◌+◌, ℕ, List, ◌++◌, length}
use Rattle.bgp_messages.specs.declared.messages.Message.{Message}
use Rattle.session_machine.specs.Feeds.{Follows}
use Rattle.session_machine.proofs.readings.read_all.Given as goal

abbrev pub invariant-messages : goal.invariant-messages
invariant-messages l = record {
  history : (taken : List ℕ) (given : List Message) → Follows l.initial.feed taken given → Follows l.feed taken (given ++ l.messages);
  count : l.feed.place + length l.feed.rest ≡ l.initial.feed.place + length l.initial.feed.rest;
}

abbrev pub decreases-messages : goal.decreases-messages
decreases-messages l = length l.feed.rest
