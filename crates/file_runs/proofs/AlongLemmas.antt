-- From one step of a run to the next.
use Rattle.file_runs.specs.declared.round_frames.RoundFrames.{RoundFrames}
use Rattle.file_runs.specs.declared.run_steps.FileRun.{FileRun}
use Rattle.file_runs.specs.Means.{AreOpen, IsOfRun, Means, Put, PutFronts}
use Rattle.file_runs.specs.RunSteps.{Along, HaltSays, Over, Said, SaidSo, Standing, Stopped, Taken, capture_of, control_of}
use Rattle.std.proofs.Common.{◌≡◌, ◌≢◌, inl, inr, ℕ, ◌<◌, ◌^◌, Bool, true, List, ◌++◌, length, Option, None, Some, Result, Ok, Err, IfOk, IfErr, IfSome, refl, sym, ap, subst, ◌∙◌, arith, false}
use Rattle.sfc_desk.specs.declared.ports.Port.{Port}
use Rattle.sfc_desk.specs.declared.ports.Port.TheVariants as ports
use Rattle.sfc_desk.specs.Desks.{Shown, Files, Rose}
use Rattle.pcap_io.specs.declared.frames.Captured.{Captured}
use Rattle.control_files.specs.declared.segments.Segment.{Segment}
use Rattle.session_machine.specs.Groups.{Entry}
use Rattle.sfc_config.specs.Parts.{Parts}
use Rattle.rounds.specs.declared.ends.RunEnd.{RunEnd}
use Rattle.rounds.specs.Rounds.{Round}
use Rattle.commands.specs.declared.statuses.Status.TheVariants as status
use Rattle.commands.specs.Pieces.{NoneBound, SameCounts}
use Rattle.control_histories.specs.Logs.{Heard}
use Rattle.control_histories.proofs.HeardLemmas.{heard}
use Rattle.round_inputs.specs.declared.halts.Halt.{Halt}
use Rattle.round_inputs.specs.declared.halts.Halt.TheVariants as halts
use Rattle.round_inputs.specs.declared.round_inputs.RoundInputs.{RoundInputs}
use Rattle.round_inputs.specs.Filling.{LendsNext}
use Rattle.round_inputs.specs.Halts.{Counts, IsRead, ReadsBoth}
use Rattle.round_inputs.specs.Taking.{AreInputs, IsFew, Takes, round_of}
use Rattle.worker_run.specs.declared.runners.Runner.{Runner}
use Rattle.worker_run.specs.Batches.{frames_in}
use Rattle.worker_run.specs.Runners.{Stands}
use Rattle.sfc_desk.specs.Ports.{is_input}
use Rattle.commands.specs.Outputs.{Outputs}

-- ---- ports

pub read_is_run : (m : Means) (port : Port) → IsRead port → IsOfRun m port
read_is_run m port read = inl read

pub output_is_run : (m : Means) (port : Port) → m.is_output port → IsOfRun m port
output_is_run m port output = inr output

both_said : (b : Bool) → b ≡ true → b ≡ false → ⊥
both_said b is none = cc

pub capture_no_output : (m : Means) → m.is_output ports.Capture → ⊥
capture_no_output m output = both_said (is_input ports.Capture) refl (m.no_input ports.Capture output)

pub control_no_output : (m : Means) → m.is_output ports.Control → ⊥
control_no_output m output = both_said (is_input ports.Control) refl (m.no_input ports.Control output)

-- an output is neither of the inputs
pub output_no_capture : (m : Means) (port : Port) → m.is_output port → port ≢ ports.Capture
output_no_capture m port output is = capture_no_output m (subst m.is_output is output)

pub output_no_control : (m : Means) (port : Port) → m.is_output port → port ≢ ports.Control
output_no_control m port output is = control_no_output m (subst m.is_output is output)

-- where both inputs alone were read, an output is as it was
pub output_read : (m : Means) (tells : Bool) (had has : Files) (then now : Port → Shown) (port : Port) → ReadsBoth tells had has then now → m.is_output port → now port ≡ then port
output_read m tells had has then now port reads output = reads.others port (output_no_capture m port output) (output_no_control m port output)

pub none_bound_then : (tells : Bool) (then mid now : Port → Shown) → NoneBound tells then mid → NoneBound tells mid now → NoneBound tells then now
none_bound_then tells then mid now first more = record {
  binds = λ p. more.binds p ∙ first.binds p;
  names = λ told p. more.names told p ∙ first.names told p;
}

-- ---- what was said so far

-- the segments that the runner took have this log
pub heard_by : (setup : Parts) (runner : Runner) (history : List Segment) (log : List Entry) → runner.setup ≡ setup → Stands runner history log → Heard setup.local setup.peers history log
heard_by setup runner history log is stands =
    subst (λ (p : Parts). Heard p.local p.peers history log) is
    (heard runner.control.sessions runner.setup.local runner.setup.peers history log stands.publishes.with_peers stands.publishes.follows.hears)

pub so_far_said : (m : Means) (setup : Parts) (tells : Bool) (then now : Port → Shown) (waits : Outputs) (run : FileRun) (passed : List Captured) (history : List Segment) (log : List Entry) (said : List m.Said)
    → Standing m setup tells then now run → Said m setup tells then now waits run passed history log said → tells ≡ true → SaidSo m setup (capture_of then) (control_of then) run.form passed history log said
so_far_said m setup tells then now waits run passed history log said standing is_said told = record {
  parts = standing.parts;
  of_peers = is_said.of_peers;
  heard = heard_by setup run.runner history log standing.setup_is is_said.stands;
  each = is_said.each;
  form_is = standing.form_is told;
  reached = is_said.reached told;
}

-- ---- a run that halts

rose_from : (a b c : Shown) → b.faults ≡ a.faults → Rose b c → Rose a c
rose_from a b c is rose = omega (arith, is, rose)

file_apart : (p q : Port) → status.File p ≢ status.File q → q ≢ p
file_apart p q apart is = apart (ap status.File (sym is))

pub halt_says : (m : Means) (setup : Parts) (tells : Bool) (then mid now : Port → Shown) (IsOne : Port → Type 0) (T : Type 0) (halt : Halt) → NoneBound tells then now → SameCounts then mid
    → ((port : Port) → (IsOfRun m port → ⊥) → now port ≡ then port) → ((port : Port) → IsOne port → IsOfRun m port) → Counts {T = T} IsOne mid now (Err halt) → (tells ≡ true → Stopped m setup then now)
    → ((port : Port) → halt ≡ halts.Long port → IsRead port × (tells ≡ true → 2 ^ 40 < length (then port).left)) → HaltSays m setup tells then now halt
halt_says m setup tells then mid now IsOne T (halts.File port) none same others run counts stopped long = record {
  works = ((run port counts.0, rose_from (then port) (mid port) (now port) (same port) counts.1), stopped);
  none_bound = none;
  counts = λ other differs. counts.2 other (file_apart port other differs) ∙ same other;
  others = others;
}
halt_says m setup tells then mid now IsOne T (halts.Long port) none same others run counts stopped long =
    let is = long port refl in
    record {
      works = (is.0, λ told. (is.1 told, stopped told));
      none_bound = none;
      counts = λ other differs. counts.1 other ∙ same other;
      others = others;
    }
halt_says m setup tells then mid now IsOne T halts.OutOfMemory none same others run counts stopped long = record {
  works = stopped;
  none_bound = none;
  counts = λ other differs. counts other ∙ same other;
  others = others;
}

-- what was put, but for what waits, is a front of it
pub fronts_still : (m : Means) (at : Port → Shown) (waits texts : Outputs) → Put m at waits texts → PutFronts m at texts
fronts_still m at waits texts put = λ port output. (waits port, put port output)

-- ---- reading the next round

open_read : (m : Means) (tells : Bool) (had has : Files) (mid now : Port → Shown) → ReadsBoth tells had has mid now → AreOpen m mid → AreOpen m now
open_read m tells had has mid now reads ready = λ port output. ap (λ (s : Shown). s.bound) (output_read m tells had has mid now port reads output) ∙ ready port output

pub put_read : (m : Means) (tells : Bool) (had has : Files) (mid now : Port → Shown) (waits texts : Outputs) → ReadsBoth tells had has mid now → Put m mid waits texts → Put m now waits texts
put_read m tells had has mid now waits texts reads put = λ port output. ap (λ (s : Shown). s.written ++ waits port) (output_read m tells had has mid now port reads output) ∙ put port output

others_read : (m : Means) (tells : Bool) (had has : Files) (then mid now : Port → Shown) → ReadsBoth tells had has mid now → ((port : Port) → (IsOfRun m port → ⊥) → mid port ≡ then port) → (port : Port) → (IsOfRun m port → ⊥) → now port ≡ then port
others_read m tells had has then mid now reads others port outside =
    reads.others port (λ is. outside (inl (inl is))) (λ is. outside (inl (inr is))) ∙ others port outside

-- a run whose inputs, frames and segments are these
abbrev pub with_taken : FileRun → RoundInputs → RoundFrames → List Segment → FileRun
with_taken run inputs frames group = record { form = run.form; inputs = inputs; runner = run.runner; frames = frames; group = group }

standing_read : (m : Means) (setup : Parts) (tells : Bool) (had has : Files) (then mid now : Port → Shown) (run : FileRun) (inputs : RoundInputs) (frames : RoundFrames) (group : List Segment)
    → Standing m setup tells then mid run → ReadsBoth tells had has mid now → SameCounts mid now → inputs.control.peers ≡ run.inputs.control.peers → Standing m setup tells then now (with_taken run inputs frames group)
standing_read m setup tells had has then mid now run inputs frames group standing reads quiet peers = record {
  none_bound = none_bound_then tells then mid now standing.none_bound reads.none_bound;
  others = others_read m tells had has then mid now reads standing.others;
  counts = λ p. quiet p ∙ standing.counts p;
  capture_bound = reads.capture_bound;
  control_bound = reads.control_bound;
  ready = open_read m tells had has mid now reads standing.ready;
  parts = standing.parts;
  setup_is = standing.setup_is;
  peers = peers ∙ standing.peers;
  form_is = standing.form_is;
}

said_read : (m : Means) (setup : Parts) (tells : Bool) (had has : Files) (then mid now : Port → Shown) (waits : Outputs) (run : FileRun) (inputs : RoundInputs) (frames : RoundFrames) (group : List Segment) (passed : List Captured) (history : List Segment) (log : List Entry) (said : List m.Said)
    → ReadsBoth tells had has mid now → Said m setup tells then mid waits run passed history log said → Said m setup tells then now waits (with_taken run inputs frames group) passed history log said
said_read m setup tells had has then mid now waits run inputs frames group passed history log said reads is_said = record {
  stands = is_said.stands;
  of_peers = is_said.of_peers;
  hold = is_said.hold;
  each = is_said.each;
  reached = is_said.reached;
  put = λ told. put_read m tells had has mid now waits (m.texts run.form passed history log said) reads (is_said.put told);
}

pub takes_one : (m : Means) (setup : Parts) (tells : Bool) (had has : Files) (then mid now : Port → Shown) (waits : Outputs) (run : FileRun) (inputs : RoundInputs) (frames : RoundFrames) (group : List Segment) (r : Result (Option RunEnd) Halt)
    → (along : Along m setup tells then mid waits run) → ReadsBoth tells had has mid now → Counts IsRead mid now r → inputs.control.peers ≡ run.inputs.control.peers
    → Takes tells (capture_of then) (control_of then) now inputs along.passed along.history (round_of group (frames_in frames.batch)) r
    → IfOk r (λ end. end ≡ None → IsFew inputs) → IfOk r (λ end. end ≡ None → LendsNext inputs.frame inputs.capture)
    → IfOk r (λ end. end ≡ None → Taken m setup tells then now waits (with_taken run inputs frames group) run.inputs.place)
takes_one m setup tells had has then mid now waits run inputs frames group (Ok None) along reads counts peers takes few lends = λ is. record {
  standing = standing_read m setup tells had has then mid now run inputs frames group along.standing reads counts peers;
  few = few refl;
  lends = lends refl;
  passed = along.passed;
  history = along.history;
  log = along.log;
  said = along.said;
  place_is = along.holds.place;
  holds = takes.holds;
  next = λ told form whole are. takes.next told form whole (subst (λ (ps : List ℕ). AreInputs (capture_of then) (control_of then) form ps whole) (sym (peers ∙ along.standing.peers)) are);
  is_said = said_read m setup tells had has then mid now waits run inputs frames group along.passed along.history along.log along.said reads along.is_said;
}
takes_one m setup tells had has then mid now waits run inputs frames group (Ok (Some end)) along reads counts peers takes few lends = λ is. absurd (cc)
takes_one m setup tells had has then mid now waits run inputs frames group (Err halt) along reads counts peers takes few lends = tt

pub takes_end : (m : Means) (setup : Parts) (tells : Bool) (had has : Files) (then mid now : Port → Shown) (waits : Outputs) (run : FileRun) (inputs : RoundInputs) (frames : RoundFrames) (group : List Segment) (r : Result (Option RunEnd) Halt)
    → (along : Along m setup tells then mid waits run) → ReadsBoth tells had has mid now → Counts IsRead mid now r → inputs.control.peers ≡ run.inputs.control.peers
    → Takes tells (capture_of then) (control_of then) now inputs along.passed along.history (round_of group (frames_in frames.batch)) r
    → IfOk r (λ end. IfSome end (Over m setup tells then now waits (with_taken run inputs frames group)))
takes_end m setup tells had has then mid now waits run inputs frames group (Ok None) along reads counts peers takes = tt
takes_end m setup tells had has then mid now waits run inputs frames group (Ok (Some end)) along reads counts peers takes = record {
  standing = standing_read m setup tells had has then mid now run inputs frames group along.standing reads counts peers;
  passed = along.passed;
  history = along.history;
  log = along.log;
  said = along.said;
  ended = takes;
  is_said = said_read m setup tells had has then mid now waits run inputs frames group along.passed along.history along.log along.said reads along.is_said;
}
takes_end m setup tells had has then mid now waits run inputs frames group (Err halt) along reads counts peers takes = tt

pub read_long : (tells : Bool) (then : Port → Shown) (halt : Halt) (port : Port) → IsRead port → (halt ≡ halts.Long ports.Capture → tells ≡ true → 2 ^ 40 < length (capture_of then)) × (halt ≡ halts.Long ports.Control → tells ≡ true → 2 ^ 40 < length (control_of then))
    → halt ≡ halts.Long port → IsRead port × (tells ≡ true → 2 ^ 40 < length (then port).left)
read_long tells then halt port (inl capture) long is =
    (inl capture, subst (λ (p : Port). tells ≡ true → 2 ^ 40 < length (then p).left) (sym capture) (long.0 (is ∙ ap halts.Long capture)))
read_long tells then halt port (inr control) long is =
    (inr control, subst (λ (p : Port). tells ≡ true → 2 ^ 40 < length (then p).left) (sym control) (long.1 (is ∙ ap halts.Long control)))

long_is_read : (T : Type 0) (mid now : Port → Shown) (halt : Halt) (port : Port) → Counts {T = T} IsRead mid now (Err halt) → halt ≡ halts.Long port → IsRead port
long_is_read T mid now halt port counts is =
    let long : Counts {T = T} IsRead mid now (Err (halts.Long port)) = subst (λ (h : Halt). Counts {T = T} IsRead mid now (Err h)) is counts in
    long.0

pub takes_halt : (m : Means) (setup : Parts) (tells : Bool) (had has : Files) (then mid now : Port → Shown) (waits : Outputs) (run : FileRun) (inputs : RoundInputs) (r : Result (Option RunEnd) Halt) (round : Round)
    → (along : Along m setup tells then mid waits run) → ReadsBoth tells had has mid now → Counts IsRead mid now r
    → Takes tells (capture_of then) (control_of then) now inputs along.passed along.history round r → IfErr r (HaltSays m setup tells then now)
takes_halt m setup tells had has then mid now waits run inputs (Ok end) round along reads counts takes = tt
takes_halt m setup tells had has then mid now waits run inputs (Err halt) round along reads counts takes =
    let standing = along.standing in
    halt_says m setup tells then mid now IsRead (Option RunEnd) halt (none_bound_then tells then mid now standing.none_bound reads.none_bound) standing.counts
    (others_read m tells had has then mid now reads standing.others) (read_is_run m) counts
    (λ told. inr (record {
      form = run.form;
      passed = along.passed;
      history = along.history;
      log = along.log;
      said = along.said;
      so = so_far_said m setup tells then mid waits run along.passed along.history along.log along.said standing along.is_said told;
      fronts = fronts_still m now waits (m.texts run.form along.passed along.history along.log along.said)
          (put_read m tells had has mid now waits (m.texts run.form along.passed along.history along.log along.said) reads (along.is_said.put told));
    }))
    (λ port is. read_long tells then halt port (long_is_read (Option RunEnd) mid now halt port counts is) takes is)
