-- What is put of the packets that a workspace keeps of a walk.
use Rattle.std.specs.Prelude.{◌≡◌, ℕ, ◌+◌, Bool, List, length, map, take, All, Result, OnOk, Ok, Err}
use Rattle.sfc_desk.specs.declared.ports.Port.{Port}
use Rattle.sfc_desk.specs.Desks.{Shown, Files}
use Rattle.wire_base.specs.Numbers.{AreBytes}
use Rattle.pcap_io.specs.declared.forms.Form.{Form}
use Rattle.pcap_io.specs.declared.frames.Captured.{Captured}
use Rattle.pcap_io.specs.Captures.{packets}
use Rattle.record_text.specs.declared.records.Record.{Record}
use Rattle.sfc_config.specs.Parts.{Parts}
use Rattle.sfc_routes.specs.declared.route_changes.RouteChange.{RouteChange}
use Rattle.forwarder.specs.Traces.{Traces}
use Rattle.commands.specs.declared.writing.WriteFault.{WriteFault}
use Rattle.commands.specs.Pieces.{Waiting}
use Rattle.worker_run.specs.Records.{SingleRecord}
use Rattle.round_outputs.specs.RoundOutputs.{Puts}

-- these are the packets, whole, of the walk that a run on one thread makes with the frame
pub record KeepsWalk (setup : Parts) (changes : List RouteChange) (frame : Captured) (kept : List (List ℕ)) : Type 0 where
  pub outcome : Record
  pub single : SingleRecord setup changes frame outcome
  pub traces : Traces single.told.walk.stations kept

-- a packet as it stands in a capture, where as many of its bytes were not captured as of its frame
abbrev pub as_captured : (seconds fraction missing : ℕ) → List ℕ → Captured
as_captured seconds fraction missing whole = record { seconds = seconds; fraction = fraction; original = length whole + missing; bytes = take 262144 whole }

-- the first of these packets were put, and all of them where nothing failed
pub record PutsFirst (tells : Bool) (then now : Port → Shown) (had has : Files) (old new : Waiting) (result : Result (Unit {0}) WriteFault) (form : Form) (seconds fraction missing : ℕ) (kept : List (List ℕ)) : Type 0 where
  pub count : ℕ
  pub are_bytes : All AreBytes (take count kept)
  pub all : OnOk result (take count kept ≡ kept)
  pub puts : Puts tells then now had has old new result (packets form (map (as_captured seconds fraction missing) (take count kept)))

-- What is so was put: where nothing failed, one that is so, and else what was taken is a front of each that is so.
abbrev pub PutsEach : {T : Type 0} → Bool → (then now : Port → Shown) → (had has : Files) → (old new : Waiting) → Result (Unit {0}) WriteFault → (T → Type 0) → (T → List ℕ) → Type 0
PutsEach {T} tells then now had has old new (Ok u) Is bytes = (all : T) × Is all × Puts tells then now had has old new (Ok u) (bytes all)
PutsEach {T} tells then now had has old new (Err e) Is bytes = (all : T) → Is all → Puts tells then now had has old new (Err e) (bytes all)
