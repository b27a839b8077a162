-- What one call of a feed does.
use Rattle.std.specs.Prelude.{◌≡◌, ℕ, ◌+◌, List, ◌++◌, length, Option, None, Some, Result, Ok, Err}
use Rattle.bgp_messages.specs.declared.messages.Message.{Message}
use Rattle.bgp_messages.specs.declared.refusals.Refusal.{Refusal}
use Rattle.bgp_messages.specs.declared.feeds.NextFault.{NextFault}
use Rattle.bgp_messages.specs.declared.feeds.NextFault.TheVariants as faults
use Rattle.bgp_messages.specs.Messages.{spelling, Fits}
use Rattle.bgp_messages.specs.Refusals.{Told, told_in, moved, Refused, Held}
use Rattle.bgp_messages.specs.Kept.{Kept, Stop, refused, failed}

-- the feed is the old one, stopped for want of memory
pub record Fails (old new : Kept) : Type 0 where
  pub same_rest : new.rest ≡ old.rest
  pub same_place : new.place ≡ old.place
  pub stopped : new.stop ≡ Some failed

-- ---- push

-- the piece is behind what the feed holds
pub record Takes (old : Kept) (piece : List ℕ) (new : Kept) : Type 0 where
  pub longer : new.rest ≡ old.rest ++ piece
  pub same_place : new.place ≡ old.place
  pub goes_on : new.stop ≡ None

-- a feed that goes on takes the piece, and one that refused stays as it is
abbrev pub PushesAt : Option Stop → Kept → List ℕ → Kept → Type 0
PushesAt None old piece new = Takes old piece new
PushesAt (Some (refused t)) old piece new = new ≡ old
PushesAt (Some failed) old piece new = ⊥

abbrev pub Pushes : Kept → List ℕ → Kept → Type 0
Pushes old piece new = PushesAt old.stop old piece new

-- only a feed that did not refuse fails
abbrev pub PushFailsAt : Option Stop → Kept → Kept → Type 0
PushFailsAt None old new = Fails old new
PushFailsAt (Some (refused t)) old new = ⊥
PushFailsAt (Some failed) old new = new ≡ old

abbrev pub PushFails : Kept → Kept → Type 0
PushFails old new = PushFailsAt old.stop old new

-- ---- next

-- the rest is refused as is told, counted from the feed's first byte
pub record RefusedAt (feed : Kept) (t : Told) : Type 0 where
  pub row : Told
  pub here : Refused feed.rest row
  pub told : t ≡ moved feed.place row

-- the rest began with the message, which is used up
pub record Gives (old new : Kept) (m : Message) : Type 0 where
  pub fits : Fits m
  pub rest : old.rest ≡ spelling m ++ new.rest
  pub place : new.place ≡ old.place + length (spelling m)
  pub goes_on : new.stop ≡ None

-- the rest is held, and nothing changes
pub record Waits (old new : Kept) : Type 0 where
  pub held : Held old.rest
  pub same : new ≡ old

-- the rest is refused, and the feed keeps that
pub record Refuses (old new : Kept) (r : Refusal) : Type 0 where
  pub here : RefusedAt old (told_in r)
  pub same_rest : new.rest ≡ old.rest
  pub same_place : new.place ≡ old.place
  pub stopped : new.stop ≡ Some (refused (told_in r))

-- what a feed that goes on answers
abbrev pub First : Kept → Kept → Result (Option Message) NextFault → Type 0
First old new (Ok (Some m)) = Gives old new m
First old new (Ok None) = Waits old new
First old new (Err (faults.Bad r)) = Refuses old new r
First old new (Err faults.OutOfMemory) = Fails old new

-- what a feed that has stopped answers, each time
abbrev pub Answers : Stop → NextFault → Type 0
Answers (refused t) (faults.Bad r) = told_in r ≡ t
Answers (refused t) faults.OutOfMemory = ⊥
Answers failed (faults.Bad r) = ⊥
Answers failed faults.OutOfMemory = Unit {0}

abbrev pub Again : Stop → Result (Option Message) NextFault → Type 0
Again stop (Ok m) = ⊥
Again stop (Err fault) = Answers stop fault

-- the message that the bytes begin with is given
abbrev pub GivesThe : Message → Result (Option Message) NextFault → Type 0
GivesThe m (Ok (Some given)) = given ≡ m
GivesThe m (Ok None) = ⊥
GivesThe m (Err (faults.Bad r)) = ⊥
GivesThe m (Err faults.OutOfMemory) = Unit {0}

-- the answer is "not yet"
abbrev pub SaysNotYet : Result (Option Message) NextFault → Type 0
SaysNotYet (Ok (Some m)) = ⊥
SaysNotYet (Ok None) = Unit {0}
SaysNotYet (Err (faults.Bad r)) = ⊥
SaysNotYet (Err faults.OutOfMemory) = Unit {0}

-- the refusal is told
abbrev pub Tells : Told → Result (Option Message) NextFault → Type 0
Tells t (Ok m) = ⊥
Tells t (Err (faults.Bad r)) = told_in r ≡ t
Tells t (Err faults.OutOfMemory) = Unit {0}

-- the answer that the rest asks for, unless there is no memory
pub record Exact (feed : Kept) (result : Result (Option Message) NextFault) : Type 0 where
  pub message : (m : Message) (more : List ℕ) → Fits m → feed.rest ≡ spelling m ++ more → GivesThe m result
  pub not_yet : Held feed.rest → SaysNotYet result
  pub bad : (t : Told) → Refused feed.rest t → Tells (moved feed.place t) result
