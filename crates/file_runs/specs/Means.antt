-- What a command says of the rounds of a run, and what it puts of that at its outputs.
use Rattle.std.specs.Prelude.{◌≡◌, ◌⊎◌, Bool, true, List, [], ◌++◌, length, Option, Result, Ok, Err, OnOk, false}
use Rattle.sfc_desk.specs.declared.ports.Port.{Port}
use Rattle.sfc_desk.specs.declared.ports.Port.TheVariants as ports
use Rattle.sfc_desk.specs.Desks.{Shown, Files}
use Rattle.pcap_io.specs.declared.forms.Form.{Form}
use Rattle.pcap_io.specs.declared.frames.Captured.{Captured}
use Rattle.control_files.specs.declared.segments.Segment.{Segment}
use Rattle.session_machine.specs.Groups.{Entry}
use Rattle.rounds.specs.Says.{Says}
use Rattle.commands.specs.declared.writing.WriteFault.{WriteFault}
use Rattle.commands.specs.declared.writing.WriteFault.TheVariants as write
use Rattle.sfc_desk.specs.Ports.{is_input}
use Rattle.commands.specs.Outputs.{Outputs, none_put}
use Rattle.commands.specs.Fronts.{IsFront}
use Rattle.commands.specs.Pieces.{NoneBound}
use Rattle.round_inputs.specs.declared.halts.Halt.{Halt}
use Rattle.round_inputs.specs.declared.halts.Halt.TheVariants as halts
use Rattle.round_inputs.specs.Halts.{Counts, IsRead}
use Rattle.round_inputs.specs.Taking.{round_of}
use Rattle.worker_run.specs.declared.runners.Runner.{Runner}
use Rattle.worker_run.specs.Runners.{Stands}

-- What may be said of a round; the ports of the outputs, of which none is an input; and the bytes there, by the form of the capture and
-- by the frames, the segments, their log and what was said so far.
pub record Means : Type 1 where
  pub Said : Type 0
  pub says : Says Said
  pub is_output : Port → Type 0
  pub no_input : (port : Port) → is_output port → is_input port ≡ false
  pub texts : Option Form → List Captured → List Segment → List Entry → List Said → Outputs

-- ---- outputs

-- the outputs are bound
abbrev pub AreOpen : Means → (Port → Shown) → Type 0
AreOpen m at = (port : Port) → m.is_output port → (at port).bound ≡ true

-- what each took and what waits there are these texts
abbrev pub Put : Means → (Port → Shown) → Outputs → Outputs → Type 0
Put m at waits texts = (port : Port) → m.is_output port → (at port).written ++ waits port ≡ texts port

-- what each took is a front of these texts
abbrev pub PutFronts : Means → (Port → Shown) → Outputs → Type 0
PutFronts m at texts = (port : Port) → m.is_output port → IsFront (at port).written (texts port)

-- each took these texts
abbrev pub PutAll : Means → (Port → Shown) → Outputs → Type 0
PutAll m at texts = (port : Port) → m.is_output port → (at port).written ≡ texts port

-- the port is one of those behind the setup
abbrev pub IsOfRun : Means → Port → Type 0
IsOfRun m port = IsRead port ⊎ m.is_output port

-- the two inputs and the outputs are bound, and nothing stands at the outputs
pub record AreBound (m : Means) (tells : Bool) (at : Port → Shown) : Type 0 where
  pub capture : (at ports.Capture).bound ≡ true
  pub control : (at ports.Control).bound ≡ true
  pub outputs : AreOpen m at
  pub empty : tells ≡ true → PutAll m at none_put

-- the outputs were written to, and nothing else was done
pub record WritesOutputs (IsOut : Port → Type 0) (tells : Bool) (had has : Files) (then now : Port → Shown) : Type 0 where
  pub none_bound : NoneBound tells then now
  pub files : has ≡ had
  pub others : (port : Port) → (IsOut port → ⊥) → now port ≡ then port

-- why a run stops where a write to the port failed
abbrev pub halt_of_fault : WriteFault → Port → Halt
halt_of_fault write.File port = halts.File port
halt_of_fault write.OutOfMemory port = halts.OutOfMemory

-- no answer of a put is that an input is too long
abbrev pub NeverLong : {T : Type 0} → Result T Halt → Type 0
NeverLong {T} result = (port : Port) → ◌≡◌ {A = Result T Halt} result (Err (halts.Long port)) → ⊥

-- what is so of each call that writes to the outputs
pub record Wrote (m : Means) (tells : Bool) (had has : Files) (then now : Port → Shown) (result : Result (Unit {0}) Halt) : Type 0 where
  pub counts : Counts m.is_output then now result
  pub never_long : NeverLong result
  pub writes : WritesOutputs m.is_output tells had has then now

-- what stands before the first round was put at outputs where nothing stood, or fronts of it were written
pub record PutsHead (m : Means) (tells : Bool) (had has : Files) (then now : Port → Shown) (waits : Outputs) (form : Option Form) (result : Result (Unit {0}) Halt) : Type 0 where
  pub open_still : AreOpen m now
  pub ok : tells ≡ true → OnOk result (Put m now waits (m.texts form [] [] [] []))
  pub front : tells ≡ true → PutFronts m now (m.texts form [] [] [] [])
  pub wrote : Wrote m tells had has then now result

-- what waited at the outputs was written, or fronts of it were
pub record Finishes (m : Means) (tells : Bool) (had has : Files) (then now : Port → Shown) (waits : Outputs) (result : Result (Unit {0}) Halt) : Type 0 where
  pub ok : tells ≡ true → (texts : Outputs) → Put m then waits texts → OnOk result (PutAll m now texts)
  pub front : tells ≡ true → (texts : Outputs) → Put m then waits texts → PutFronts m now texts
  pub wrote : Wrote m tells had has then now result

-- ---- a round

-- the runner took the segments, with these effects, and this may be said of the round: one thing of each frame
pub record Saying (m : Means) (runner : Runner) (history : List Segment) (log : List Entry) (segments : List Segment) (frames : List Captured) (now : List Entry) (here : List m.Said) : Type 0 where
  pub stands : Stands runner (history ++ segments) (log ++ now)
  pub each : length here ≡ length frames
  pub says_so : m.says history (round_of segments frames) here

-- Behind what was said of the frames so far the round was run and put; or it was not run, or it was run and fronts of it were written.
abbrev pub RoundPuts : (m : Means) (tells : Bool) (then now : Port → Shown) (old new : Outputs) (runner : Runner) (form : Option Form) (passed : List Captured) (history : List Segment) (log : List Entry) (said : List m.Said) (segments : List Segment) (frames : List Captured)
    → Result (Unit {0}) Halt → Type 0
RoundPuts m tells then now old new runner form passed history log said segments frames (Ok done) =
    (more : List Entry) × (here : List m.Said) × Saying m runner history log segments frames more here
    × (tells ≡ true → Put m then old (m.texts form passed history log said) → Put m now new (m.texts form (passed ++ frames) (history ++ segments) (log ++ more) (said ++ here)))
RoundPuts m tells then now old new runner form passed history log said segments frames (Err halt) =
    tells ≡ true → Put m then old (m.texts form passed history log said)
    → PutFronts m now (m.texts form passed history log said)
    ⊎ ((more : List Entry) × (here : List m.Said) × Saying m runner history log segments frames more here × PutFronts m now (m.texts form (passed ++ frames) (history ++ segments) (log ++ more) (said ++ here)))
