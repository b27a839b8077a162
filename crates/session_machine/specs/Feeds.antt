-- What a feed has given of a stream.
use Rattle.std.specs.Prelude.{◌≡◌, ℕ, List, [], ◌++◌, None, Some, Option}
use Rattle.bgp_messages.specs.declared.messages.Message.{Message}
use Rattle.bgp_messages.specs.declared.refusals.Refusal.{Refusal}
use Rattle.bgp_messages.specs.Messages.{Cuts}
use Rattle.bgp_messages.specs.Refusals.{told_in, Held}
use Rattle.bgp_messages.specs.Kept.{Kept}
use Rattle.bgp_messages.specs.Calls.{RefusedAt}
use Rattle.bgp_messages.specs.Streams.{Stands}
use Rattle.session_machine.specs.declared.readings.Reading.{Reading}

-- a feed that has not stopped took these bytes and gave these messages
pub record Follows (feed : Kept) (taken : List ℕ) (given : List Message) : Type 0 where
  pub stands : Stands feed taken given
  pub goes_on : feed.stop ≡ None

-- what stands behind the messages: nothing that is refused, or what the refusal says
abbrev pub Behind : Kept → Option Refusal → Type 0
Behind feed None = Held feed.rest × (feed.stop ≡ None)
Behind feed (Some r) = RefusedAt feed (told_in r)

-- every message of the stream was given, these last
pub record Drains (feed : Kept) (taken : List ℕ) (given : List Message) (reading : Reading) : Type 0 where
  pub stands : Stands feed taken (given ++ reading.messages)
  pub cut : Cuts taken (given ++ reading.messages) feed.rest
  pub behind : Behind feed reading.refusal

-- a feed that has given every message of the stream
pub record Drained (feed : Kept) (stream : List ℕ) : Type 0 where
  pub before : List Message
  pub follows : Follows feed stream before
  pub cut : Cuts stream before feed.rest

-- a feed that has taken nothing
abbrev pub fresh : Kept
fresh = record { rest = []; place = 0; stop = None }
