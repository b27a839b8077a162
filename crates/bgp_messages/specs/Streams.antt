-- What a feed stands for: the bytes that it took and the messages that it gave.
use Rattle.std.specs.Prelude.{◌≡◌, ℕ, List, [], ◌∷◌, ◌++◌, length, Option, None, Some, Result, Ok, Err}
use Rattle.std.specs.List.{flat_map, AllByRecursion}
use Rattle.bgp_messages.specs.declared.messages.Message.{Message}
use Rattle.bgp_messages.specs.declared.refusals.Refusal.{Refusal}
use Rattle.bgp_messages.specs.declared.feeds.NextFault.{NextFault}
use Rattle.bgp_messages.specs.declared.feeds.NextFault.TheVariants as faults
use Rattle.bgp_messages.specs.Messages.{spelling, Fits, Cuts}
use Rattle.bgp_messages.specs.Refusals.{told_in, Held}
use Rattle.bgp_messages.specs.Kept.{Kept, Stop, refused, failed}
use Rattle.bgp_messages.specs.Calls.{RefusedAt}

-- a feed that stopped was right to, and one that failed stands for nothing
abbrev pub StopStands : Kept → Option Stop → Type 0
StopStands feed None = Unit {0}
StopStands feed (Some (refused t)) = RefusedAt feed t
StopStands feed (Some failed) = ⊥

-- the feed took these bytes and gave these messages
pub record Stands (feed : Kept) (taken : List ℕ) (given : List Message) : Type 0 where
  pub joined : taken ≡ flat_map spelling given ++ feed.rest
  pub each : AllByRecursion Fits given
  pub used : feed.place ≡ length (flat_map spelling given)
  pub stopped : StopStands feed feed.stop

-- the bytes taken, after a piece was pushed: a feed that stopped takes none
abbrev pub taken_at : Option Stop → List ℕ → List ℕ → List ℕ
taken_at None taken piece = taken ++ piece
taken_at (Some stop) taken piece = taken

-- the stream is cut into the messages given and the rest, which holds nothing refused
pub record NotYet (feed : Kept) (taken : List ℕ) (given : List Message) : Type 0 where
  pub stands : Stands feed taken given
  pub cut : Cuts taken given feed.rest
  pub held : Held feed.rest

-- the stream is cut into the messages given and the rest, which is refused as is told
pub record IsBad (feed : Kept) (taken : List ℕ) (given : List Message) (r : Refusal) : Type 0 where
  pub stands : Stands feed taken given
  pub cut : Cuts taken given feed.rest
  pub here : RefusedAt feed (told_in r)

-- what the feed stands for after it has answered
abbrev pub Next : Result (Option Message) NextFault → Kept → List ℕ → List Message → Type 0
Next (Ok (Some m)) feed taken given = Stands feed taken (given ++ m ∷ [])
Next (Ok None) feed taken given = NotYet feed taken given
Next (Err (faults.Bad r)) feed taken given = IsBad feed taken given r
Next (Err faults.OutOfMemory) feed taken given = feed.stop ≡ Some failed
