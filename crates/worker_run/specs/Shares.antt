-- What workers make of their shares of a round's frames; no public clause stands on it.
use Rattle.std.specs.Prelude.{◌≡◌, ℕ, ◌+◌, ◌-◌, ◌^◌, ◌<◌, ◌≤◌, List, [], ◌∷◌, ◌++◌, Option, Some, None, length, take, drop, IfOk}
use Rattle.std.specs.List.{AllByRecursion, AllZip, flat_map}
use Rattle.logbook.specs.Pages.{Book}
use Rattle.path_selection.specs.declared.changes.Change.{Change}
use Rattle.path_selection.specs.Paths.{ServicePath}
use Rattle.path_selection.specs.Published.{Published}
use Rattle.record_text.specs.declared.records.Record.{Record}
use Rattle.sfc_config.specs.Parts.{Parts}
use Rattle.table_publish.specs.Publications.{Publications, Extends, known_of, opened_on, version_of}
use Rattle.table_publish.specs.Views.{SeatView, fresh_seat}
use Rattle.forwarder.specs.Walks.{functions_of}
use Rattle.forwarder.specs.Workspaces.{taken_in}
use Rattle.forwarder.specs.Traces.{Worked as Workspace}
use Rattle.forwarder.specs.Records.{IsRecord}
use Rattle.worker_run.specs.Deals.{IsSize}
use Rattle.worker_run.specs.declared.parts.Part.{Part}
use Rattle.worker_run.specs.Batches.{AreWithinLimits, Carried, frame_left}

-- ---- frames

-- the frame of a workspace with the times of this one, and a record
abbrev pub left_in : Workspace → Carried → Record → Carried
left_in work c r = record {
  frame = record { seconds = c.frame.seconds; fraction = c.frame.fraction; original = work.frame.original; bytes = work.frame.bytes };
  outcome = r;
}

-- A worker forwarded the frame: the record is that of its walk over the tables of the versions that its lookups named, of those
-- that were known, from the version seen before to the one seen after; and the frame is as the walk leaves it.
pub record Walked (setup : Parts) (worker : ℕ) (known : List Published) (before after : ℕ) (old new : Carried) : Type 0 where
  pub record_is : IsRecord setup (taken_in old.frame.bytes old.frame.original) worker known before after new.outcome
  pub left : new.frame ≡ frame_left (functions_of setup.instances) old.frame new.outcome

-- frames that a worker forwarded, one after the other
abbrev pub AreWalked : Parts → ℕ → List Published → ℕ → List Carried → List Carried → Type 0
AreWalked setup worker known before [] [] = Unit {0}
AreWalked setup worker known before [] (d ∷ ds) = ⊥
AreWalked setup worker known before (c ∷ cs) [] = ⊥
AreWalked setup worker known before (c ∷ cs) (d ∷ ds) = (after : ℕ) × Walked setup worker known before after c d × AreWalked setup worker known after cs ds

-- a worker forwarded the first of them, so many, and the others are as they were
pub record AreWalkedTo (setup : Parts) (worker : ℕ) (known : List Published) (before done : ℕ) (old new : List Carried) : Type 0 where
  pub was : List Carried
  pub went : List Carried
  pub rest : List Carried
  pub old_is : old ≡ was ++ rest
  pub new_is : new ≡ went ++ rest
  pub count : length went ≡ done
  pub walked : AreWalked setup worker known before was went

-- a worker forwarded those behind the first, of which there are so many and which are as they were
pub record AreWalkedBehind (setup : Parts) (worker : ℕ) (known : List Published) (before done : ℕ) (old new : List Carried) : Type 0 where
  pub rest : List Carried
  pub new_is : new ≡ take done old ++ rest
  pub walked : AreWalked setup worker known before (drop done old) rest

-- ---- seats

-- what the worker of a seat has seen, and without a seat: the table that the round opens with
abbrev pub seen_of : List ServicePath → ℕ → Option SeatView → Publications
seen_of table version None = opened_on table version
seen_of table version (Some seat) = seat.seen

-- the version that it saw last
abbrev pub newest_of : ℕ → Option SeatView → ℕ
newest_of version None = version
newest_of version (Some seat) = version_of seat.newest

-- where there is a seat, it may look up, and its lookup may be refused
abbrev pub MayLook : Option SeatView → Type 0
MayLook None = Unit {0}
MayLook (Some seat) = seat.refused < 2 ^ 64 - 1

abbrev pub SameWindow : Option SeatView → Option SeatView → Type 0
SameWindow None None = Unit {0}
SameWindow None (Some seat) = ⊥
SameWindow (Some seat) None = ⊥
SameWindow (Some seat) (Some later) = later.window ≡ seat.window

-- where there is a seat, it is of the window that has just begun
abbrev pub IsFresh : Book → Publications → Option SeatView → Type 0
IsFresh window published None = Unit {0}
IsFresh window published (Some seat) = seat ≡ fresh_seat window published

abbrev pub IsOfWindow : Book → Option SeatView → Type 0
IsOfWindow window None = Unit {0}
IsOfWindow window (Some seat) = seat.window ≡ window

-- where there is a seat, what it has seen is a front of what was published
abbrev pub SeesFront : Publications → Option SeatView → Type 0
SeesFront published None = Unit {0}
SeesFront published (Some seat) = Extends published seat.seen

-- the same opening, and further lists
abbrev pub published_on : List ServicePath → ℕ → List (List Change) → Publications
published_on table version lists = record { opening = table; first = version; lists = lists }

abbrev pub longer_by : Publications → List (List Change) → Publications
longer_by p lists = record { opening = p.opening; first = p.first; lists = p.lists ++ lists }

-- ---- parts

-- the frames of all parts, in order
abbrev pub slots_of : List Part → List Carried
slots_of parts = flat_map (λ p. p.slots.items) parts

-- parts of workers that are numbered from this number on
abbrev pub AreNumbered : ℕ → List Part → Type 0
AreNumbered worker [] = Unit {0}
AreNumbered worker (p ∷ ps) = (p.worker ≡ worker) × AreNumbered (worker + 1) ps

-- the same worker's, with as many frames
pub record SameShape (old new : Part) : Type 0 where
  pub worker : new.worker ≡ old.worker
  pub many : length new.slots.items ≡ length old.slots.items

-- the part may be filled
pub record IsReady (p : Part) : Type 0 where
  pub limits : AreWithinLimits p.slots.items
  pub seat : MayLook p.seat

-- a worker came as far as it could with its part, from its seat, or where it has none over the opening table
pub record Filled (setup : Parts) (table : List ServicePath) (version : ℕ) (old new : Part) : Type 0 where
  pub shape : SameShape old new
  pub window : SameWindow old.seat new.seat
  pub walked : IfOk new.done (λ done. AreWalkedTo setup new.worker (known_of (seen_of table version new.seat)) (newest_of version old.seat) done old.slots.items new.slots.items)

-- a worker came so far, over what was published in the round
pub record Worked (setup : Parts) (published : Publications) (old new : Part) : Type 0 where
  pub shape : SameShape old new
  pub walked : IfOk new.done (λ done. AreWalkedTo setup new.worker (known_of published) published.first done old.slots.items new.slots.items)

-- the part was forwarded whole, over what was published in the round
pub record Forwarded (setup : Parts) (published : Publications) (old new : Part) : Type 0 where
  pub worker : new.worker ≡ old.worker
  pub walked : AreWalked setup new.worker (known_of published) published.first old.slots.items new.slots.items

-- the frames that a worker did not come to may be forwarded
abbrev pub CanFinish : Part → Type 0
CanFinish p = IfOk p.done (λ done. (done ≤ length p.slots.items) × AreWithinLimits (drop done p.slots.items))

-- a seat was given, or none
pub record Seated (window : Book) (published : Publications) (old new : Part) : Type 0 where
  pub worker : new.worker ≡ old.worker
  pub slots : new.slots.items ≡ old.slots.items
  pub seat : IsFresh window published new.seat

-- its seat was taken, if there was one
pub record Unseated (old new : Part) : Type 0 where
  pub worker : new.worker ≡ old.worker
  pub slots : new.slots.items ≡ old.slots.items
  pub done : new.done ≡ old.done

-- its frames were exchanged for as many others
pub record Exchanged (old new : Part) : Type 0 where
  pub shape : SameShape old new
  pub seat : new.seat ≡ old.seat

-- the slots in order are those of so many workers' parts, whose sizes differ by at most 1, and each part was forwarded whole
pub record AreShared (setup : Parts) (published : Publications) (workers : ℕ) (old new : List Carried) : Type 0 where
  pub before : List Part
  pub parts : List Part
  pub old_is : old ≡ slots_of before
  pub new_is : new ≡ slots_of parts
  pub numbered : AreNumbered 0 before
  pub many : length before ≡ workers
  pub size : ℕ
  pub sized : AllByRecursion (λ p. IsSize size (length p.slots.items)) before
  pub forwarded : AllZip (Forwarded setup published) before parts
