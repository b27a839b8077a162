-- How a run begins, and how it ends.
use Rattle.std.proofs.Common.{◌≡◌, inl, inr, ℕ, ◌<◌, ◌^◌, Bool, true, List, [], length, Option, None, Ok, Err, refl, sym, ap, subst, ◌∙◌, arith}
use Rattle.sfc_desk.specs.declared.ports.Port.{Port}
use Rattle.sfc_desk.specs.declared.ports.Port.TheVariants as ports
use Rattle.sfc_desk.specs.Desks.{Shown, Files}
use Rattle.pcap_io.specs.declared.forms.Form.{Form}
use Rattle.pcap_io.specs.declared.frames.Captured.{Captured}
use Rattle.control_files.specs.declared.segments.Segment.{Segment}
use Rattle.control_files.specs.Segments.{numbers}
use Rattle.sfc_config.specs.Parts.{Parts}
use Rattle.rounds.specs.declared.ends.RunEnd.{RunEnd}
use Rattle.rounds.specs.declared.ends.RunEnd.TheVariants as ends
use Rattle.rounds.specs.Views.{Inputs}
use Rattle.commands.specs.Pieces.{SameCounts}
use Rattle.control_histories.specs.Logs.{AreOfPeers}
use Rattle.round_inputs.specs.declared.halts.Halt.{Halt}
use Rattle.round_inputs.specs.declared.halts.Halt.TheVariants as halts
use Rattle.round_inputs.specs.declared.round_inputs.RoundInputs.{RoundInputs}
use Rattle.round_inputs.specs.Halts.{Counts, IsRead, ReadsBoth}
use Rattle.round_inputs.specs.Taking.{AreInputs, WasRead}
use Rattle.round_inputs.proofs.LawLemmas.{sound_inputs}
use Rattle.commands.specs.Outputs.{Outputs, none_put}
use Rattle.file_runs.specs.declared.run_steps.FileRun.{FileRun}
use Rattle.file_runs.specs.FileRuns.{WasReadTo, status_of_end}
use Rattle.file_runs.specs.Means.{AreBound, Finishes, IsOfRun, Means, Put, PutAll, PutsHead, WritesOutputs}
use Rattle.file_runs.specs.RunSteps.{Along, Begun, EndedAt, HaltSays, Over, Reached, StreamSays, StreamWorks, capture_of, control_of, view_of}
use Rattle.file_runs.proofs.AlongLemmas.{capture_no_output, control_no_output, halt_says, heard_by, none_bound_then, output_is_run, output_read, read_is_run, read_long, so_far_said}
use Rattle.file_runs.proofs.ReachLemmas.{reached_first}
use Rattle.file_runs.proofs.TakenLemmas.{holds_written, no_long, others_written}

-- ---- begin

pub others_begun : (m : Means) (tells : Bool) (had has : Files) (then now : Port → Shown) → ReadsBoth tells had has then now → (port : Port) → (IsOfRun m port → ⊥) → now port ≡ then port
others_begun m tells had has then now reads port outside = reads.others port (λ is. outside (inl (inl is))) (λ is. outside (inl (inr is)))

-- nothing was written to outputs where nothing stood
nothing_put : (m : Means) (tells : Bool) (had has : Files) (then now : Port → Shown) → AreBound m tells then → ReadsBoth tells had has then now → tells ≡ true → PutAll m now none_put
nothing_put m tells had has then now bound reads told = λ port output. ap (λ (s : Shown). s.written) (output_read m tells had has then now port reads output) ∙ bound.empty told port output

long_read : (T : Type 0) (then now : Port → Shown) (halt : Halt) (port : Port) → Counts {T = T} IsRead then now (Err halt) → halt ≡ halts.Long port → IsRead port
long_read T then now halt port counts is = (subst (λ (h : Halt). Counts {T = T} IsRead then now (Err h)) is counts).0

pub begin_halts : (m : Means) (setup : Parts) (tells : Bool) (had has : Files) (then now : Port → Shown) (T : Type 0) (halt : Halt) → AreBound m tells then → ReadsBoth tells had has then now → Counts {T = T} IsRead then now (Err halt)
    → (halt ≡ halts.Long ports.Capture → tells ≡ true → 2 ^ 40 < length (capture_of then)) → (halt ≡ halts.Long ports.Control → tells ≡ true → 2 ^ 40 < length (control_of then)) → HaltSays m setup tells then now halt
begin_halts m setup tells had has then now T halt bound reads counts capture control =
    halt_says m setup tells then then now IsRead T halt reads.none_bound (λ p. refl) (others_begun m tells had has then now reads) (read_is_run m) counts
    (λ told. inl (nothing_put m tells had has then now bound reads told))
    (λ port is. read_long tells then halt port (long_read T then now halt port counts is) (capture, control) is)

-- there was no memory for the runner or the outputs
pub begin_memory : (m : Means) (setup : Parts) (tells : Bool) (had has : Files) (then now : Port → Shown) → AreBound m tells then → ReadsBoth tells had has then now → SameCounts then now → HaltSays m setup tells then now halts.OutOfMemory
begin_memory m setup tells had has then now bound reads quiet =
    halt_says m setup tells then then now IsRead (Unit {0}) halts.OutOfMemory reads.none_bound (λ p. refl) (others_begun m tells had has then now reads) (read_is_run m) quiet
    (λ told. inl (nothing_put m tells had has then now bound reads told))
    (λ port is. absurd (cc))

-- the outputs are bound and empty still, since both inputs alone were read
pub bound_read : (m : Means) (tells : Bool) (had has : Files) (then now : Port → Shown) → AreBound m tells then → ReadsBoth tells had has then now → AreBound m tells now
bound_read m tells had has then now bound reads = record {
  capture = reads.capture_bound;
  control = reads.control_bound;
  outputs = λ port output. ap (λ (s : Shown). s.bound) (output_read m tells had has then now port reads output) ∙ bound.outputs port output;
  empty = nothing_put m tells had has then now bound reads;
}

none_of_peers : (peers : List (ℕ × ℕ)) → AreOfPeers peers []
none_of_peers peers = λ k d lt. absurd (omega (arith, lt))

first_reached : (m : Means) (setup : Parts) (tells : Bool) (had has : Files) (then mid : Port → Shown) (run : FileRun) → Begun setup tells had has then mid run → (whole : Inputs) → AreInputs (capture_of then) (control_of then) run.form (numbers setup.peers) whole
    → Reached m.says (AreOfPeers setup.peers) whole (view_of whole [] [] [])
first_reached m setup tells had has then mid run x whole are = reached_first m.says (AreOfPeers setup.peers) whole (sound_inputs (capture_of then) (control_of then) (numbers setup.peers) run.form whole are)

first_form : (setup : Parts) (tells : Bool) (had has : Files) (then mid : Port → Shown) (run : FileRun) → Begun setup tells had has then mid run → tells ≡ true → (other : Option Form) (whole : Inputs)
    → AreInputs (capture_of then) (control_of then) other (numbers setup.peers) whole → other ≡ run.form
first_form setup tells had has then mid run x told other whole are =
    x.form_known told other whole (subst (λ (ps : List ℕ). AreInputs (capture_of then) (control_of then) other ps whole) (sym x.peers) are) ∙ sym x.form_is

pub begin_along : (m : Means) (setup : Parts) (tells : Bool) (had has at_last : Files) (then mid now : Port → Shown) (waits : Outputs) (run : FileRun) → Begun setup tells had has then mid run
    → PutsHead m tells has at_last mid now waits run.form (Ok tt) → Along m setup tells then now waits run
begin_along m setup tells had has at_last then mid now waits run x puts = record {
  standing = record {
    none_bound = none_bound_then tells then mid now x.reads.none_bound puts.wrote.writes.none_bound;
    others = others_written m tells has at_last then mid now puts.wrote.writes (others_begun m tells had has then mid x.reads);
    counts = λ p. puts.wrote.counts p ∙ x.quiet p;
    capture_bound = ap (λ (s : Shown). s.bound) (puts.wrote.writes.others ports.Capture (capture_no_output m)) ∙ x.reads.capture_bound;
    control_bound = ap (λ (s : Shown). s.bound) (puts.wrote.writes.others ports.Control (control_no_output m)) ∙ x.reads.control_bound;
    ready = puts.open_still;
    parts = x.parts;
    setup_is = x.setup_is;
    peers = x.peers;
    form_is = first_form setup tells had has then mid run x;
  };
  few = x.few;
  lends = x.lends;
  passed = [];
  history = [];
  log = [];
  said = [];
  holds = holds_written m tells has at_last (capture_of then) (control_of then) mid now run.inputs [] [] puts.wrote.writes x.holds;
  is_said = record {
    stands = x.stands;
    of_peers = none_of_peers setup.peers;
    hold = x.hold;
    each = refl;
    reached = λ told whole are. first_reached m setup tells had has then mid run x whole are;
    put = puts.ok;
  };
}

-- what stands before the first round was not put whole
pub begin_head_halts : (m : Means) (setup : Parts) (tells : Bool) (had has at_last : Files) (then mid now : Port → Shown) (waits : Outputs) (run : FileRun) (halt : Halt) → Begun setup tells had has then mid run
    → PutsHead m tells has at_last mid now waits run.form (Err halt) → HaltSays m setup tells then now halt
begin_head_halts m setup tells had has at_last then mid now waits run halt x puts =
    halt_says m setup tells then mid now m.is_output (Unit {0}) halt (none_bound_then tells then mid now x.reads.none_bound puts.wrote.writes.none_bound) x.quiet
    (others_written m tells has at_last then mid now puts.wrote.writes (others_begun m tells had has then mid x.reads)) (output_is_run m) puts.wrote.counts
    (λ told. inr (record {
      form = run.form;
      passed = [];
      history = [];
      log = [];
      said = [];
      so = record {
        parts = x.parts;
        of_peers = none_of_peers setup.peers;
        heard = heard_by setup run.runner [] [] x.setup_is x.stands;
        each = refl;
        form_is = first_form setup tells had has then mid run x told;
        reached = λ whole are. first_reached m setup tells had has then mid run x whole are;
      };
      fronts = puts.front told;
    }))
    (λ port is. no_long (Unit {0}) halt port puts.wrote.never_long is)

-- ---- end

was_read : (capture control : List ℕ) (mid now : Port → Shown) (inputs : RoundInputs) (end : RunEnd) (passed : List Captured) (history : List Segment) → now ports.Capture ≡ mid ports.Capture → now ports.Control ≡ mid ports.Control → WasRead capture control mid inputs passed history end → WasReadTo capture control now end
was_read capture control mid now inputs ends.Whole passed history same_capture same_control read = (
  read.capture_within,
  read.control_within,
  ap (λ (s : Shown). s.left) same_capture ∙ read.no_capture_left,
  ap (λ (s : Shown). s.left) same_control ∙ read.no_control_left,
)
was_read capture control mid now inputs (ends.Capture r) passed history same_capture same_control read = read
was_read capture control mid now inputs (ends.Control r) passed history same_capture same_control read = read

ended_at : (m : Means) (setup : Parts) (tells : Bool) (had has : Files) (then mid now : Port → Shown) (waits : Outputs) (run : FileRun) (end : RunEnd) → Over m setup tells then mid waits run end → WritesOutputs m.is_output tells had has mid now
    → tells ≡ true → ((texts : Outputs) → Put m mid waits texts → PutAll m now texts) → EndedAt m setup then now end
ended_at m setup tells had has then mid now waits run end x writes told all = record {
  form = run.form;
  passed = x.passed;
  history = x.history;
  log = x.log;
  said = x.said;
  so = so_far_said m setup tells then mid waits run x.passed x.history x.log x.said x.standing x.is_said told;
  ends_so = λ other whole are. x.ended.ends told other whole (subst (λ (ps : List ℕ). AreInputs (capture_of then) (control_of then) other ps whole) (sym x.standing.peers) are);
  read = was_read (capture_of then) (control_of then) mid now run.inputs end x.passed x.history (writes.others ports.Capture (capture_no_output m)) (writes.others ports.Control (control_no_output m)) (x.ended.read told);
  whole = λ is.
      let read = subst (WasRead (capture_of then) (control_of then) mid run.inputs x.passed x.history) is (x.ended.read told) in
      let whole : Inputs = record { frames = x.passed; capture_fault = None; segments = x.history; control_fault = None } in
      let own : AreInputs (capture_of then) (control_of then) run.inputs.capture.form (numbers setup.peers) whole =
      subst (λ (ps : List ℕ). AreInputs (capture_of then) (control_of then) run.inputs.capture.form ps whole) x.standing.peers (record { frames = read.frames; segments = read.segments }) in
      subst (λ (f : Option Form). AreInputs (capture_of then) (control_of then) f (numbers setup.peers) whole) (x.standing.form_is told run.inputs.capture.form whole own) own;
  all = all (m.texts run.form x.passed x.history x.log x.said) (x.is_said.put told);
}

ended_works : (m : Means) (setup : Parts) (tells : Bool) (then now : Port → Shown) (end : RunEnd) → (tells ≡ true → EndedAt m setup then now end) → StreamWorks m setup tells then now (status_of_end end)
ended_works m setup tells then now ends.Whole ended = ended
ended_works m setup tells then now (ends.Capture r) ended = ended
ended_works m setup tells then now (ends.Control r) ended = ended

pub end_says : (m : Means) (setup : Parts) (tells : Bool) (had has : Files) (then mid now : Port → Shown) (waits : Outputs) (run : FileRun) (end : RunEnd) → Over m setup tells then mid waits run end → Finishes m tells had has mid now waits (Ok tt)
    → StreamSays m setup tells then now (status_of_end end)
end_says m setup tells had has then mid now waits run end x done = record {
  works = ended_works m setup tells then now end (λ told. ended_at m setup tells had has then mid now waits run end x done.wrote.writes told (done.ok told));
  none_bound = none_bound_then tells then mid now x.standing.none_bound done.wrote.writes.none_bound;
  counts = λ port differs. done.wrote.counts port ∙ x.standing.counts port;
  others = others_written m tells had has then mid now done.wrote.writes x.standing.others;
}

pub end_halts : (m : Means) (setup : Parts) (tells : Bool) (had has : Files) (then mid now : Port → Shown) (waits : Outputs) (run : FileRun) (end : RunEnd) (halt : Halt) → Over m setup tells then mid waits run end → Finishes m tells had has mid now waits (Err halt)
    → HaltSays m setup tells then now halt
end_halts m setup tells had has then mid now waits run end halt x done =
    halt_says m setup tells then mid now m.is_output (Unit {0}) halt (none_bound_then tells then mid now x.standing.none_bound done.wrote.writes.none_bound) x.standing.counts
    (others_written m tells had has then mid now done.wrote.writes x.standing.others) (output_is_run m) done.wrote.counts
    (λ told. inr (record {
      form = run.form;
      passed = x.passed;
      history = x.history;
      log = x.log;
      said = x.said;
      so = so_far_said m setup tells then mid waits run x.passed x.history x.log x.said x.standing x.is_said told;
      fronts = done.front told (m.texts run.form x.passed x.history x.log x.said) (x.is_said.put told);
    }))
    (λ port is. no_long (Unit {0}) halt port done.wrote.never_long is)
