-- Runs on any number of workers: a record for each frame, over versions of the table that its round may show (this project's own).
use Rattle.std.specs.Prelude.{◌≡◌, ℕ, ◌<◌, ◌≤◌, List, [], ◌∷◌, ◌++◌, length, take}
use Rattle.std.specs.List.{AllByRecursion, AllZip}
use Rattle.control_files.specs.declared.segments.Segment.{Segment}
use Rattle.pcap_io.specs.declared.frames.Captured.{Captured}
use Rattle.record_text.specs.declared.records.Record.{Record}
use Rattle.rounds.specs.Rounds.{Round, Rounds}
use Rattle.rounds.specs.Places.{Place, places_of}
use Rattle.rounds.specs.Says.{Says}
use Rattle.sfc_config.specs.Parts.{Parts}
use Rattle.sfc_routes.specs.declared.route_changes.RouteChange.{RouteChange}
use Rattle.session_machine.specs.Groups.{Entry}
use Rattle.control_histories.specs.Logs.{Heard, changes_of}
use Rattle.worker_run.specs.Records.{NamesOnly, TellsWalk}
use Rattle.worker_run.specs.Rounds.{SaysSingle}

-- ---- versions

-- how many changes of routes the first segments of a log made: the number of the last version behind them
abbrev pub made : List Entry → ℕ → ℕ
made log segments = length (changes_of (take segments log))

-- versions that do not fall, none below the first bound and none above the second
abbrev pub ClimbsWithin : ℕ → ℕ → List ℕ → Type 0
ClimbsWithin low high [] = Unit {0}
ClimbsWithin low high (version ∷ versions) = (low ≤ version) × (version ≤ high) × ClimbsWithin version high versions

-- ---- records

-- One frame's record: it tells the frame's walk over the tables of the versions that it names, which climb within these bounds,
-- and its worker is one of so many.
pub record RunRecord (setup : Parts) (changes : List RouteChange) (low high workers : ℕ) (frame : Captured) (r : Record) : Type 0 where
  pub told : TellsWalk setup changes frame r
  pub climbs : ClimbsWithin low high r.versions.items
  pub worker_below : r.worker < workers

-- no version of the later record is below one of the earlier record, where both are of one worker
abbrev pub MayComeBehind : Record → Record → Type 0
MayComeBehind earlier later =
    earlier.worker ≡ later.worker → AllByRecursion (λ seen. AllByRecursion (λ version. seen ≤ version) later.versions.items) earlier.versions.items

-- along the records of one worker no version falls
abbrev pub WorkersClimb : List Record → Type 0
WorkersClimb [] = Unit {0}
WorkersClimb (r ∷ records) = AllByRecursion (MayComeBehind r) records × WorkersClimb records

-- ---- rounds

-- What a round on so many workers may say behind a history of segments: the versions of each record lie from the last that the
-- history made to the last that the round makes.
pub record SaysRun (setup : Parts) (workers : ℕ) (history segments : List Segment) (frames : List Captured) (records : List Record) : Type 0 where
  pub log : List Entry
  pub heard : Heard setup.local setup.peers (history ++ segments) log
  pub each : AllZip (RunRecord setup (changes_of log) (made log (length history)) (length (changes_of log)) workers) frames records
  pub climb : WorkersClimb records

-- both words, as rounds have them
abbrev pub single_says : Parts → Says Record
single_says setup history round records = SaysSingle setup history round.segments round.frames records

abbrev pub run_says : Parts → ℕ → Says Record
run_says setup workers history round records = SaysRun setup workers history round.segments round.frames records

-- ---- runs

-- the record of a frame at its place: its versions lie from the last that the segments of the rounds before its own made to the
-- last that those of its own round make
abbrev pub RecordAt : Parts → List Entry → ℕ → Place → Record → Type 0
RecordAt setup log workers place r = RunRecord setup (changes_of log) (made log place.low) (made log place.high) workers place.frame r

-- one record for each frame, in order
pub record IsRun (setup : Parts) (frames : List Captured) (segments : List Segment) (workers : ℕ) (records : List Record) : Type 0 where
  pub rounds : List Round
  pub are : Rounds 0 frames segments rounds
  pub log : List Entry
  pub heard : Heard setup.local setup.peers segments log
  pub each : AllZip (RecordAt setup log workers) (places_of 0 rounds) records
  pub climb : WorkersClimb records

-- the run on one thread: a run on one worker, of which every version is the newest of its frame's round
pub record IsSingle (setup : Parts) (frames : List Captured) (segments : List Segment) (records : List Record) : Type 0 where
  pub run : IsRun setup frames segments 1 records
  pub newest : AllZip (λ place r. NamesOnly (made run.log place.high) r) (places_of 0 run.rounds) records
