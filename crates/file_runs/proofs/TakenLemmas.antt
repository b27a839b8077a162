-- The round that was taken may be run, and what is known when it was.
use Rattle.std.proofs.Common.{◌≡◌, ◌⊎◌, inl, inr, ℕ, ◌+◌, ◌≤◌, ◌^◌, Bool, true, List, [], ◌∷◌, ◌++◌, length, Contains, Option, None, Some, Result, Ok, Err, OnOk, IfErr, sym, ap, subst, ◌∙◌, arith, length-append}
use Rattle.std.specs.List.{AllByRecursion}
use Rattle.std.proofs.lemmas.List.Concat.{flat_map-cons}
use Rattle.std.proofs.lemmas.List.Elements.{All-from_recursion}
use Rattle.sfc_desk.specs.declared.ports.Port.{Port}
use Rattle.sfc_desk.specs.declared.ports.Port.TheVariants as ports
use Rattle.sfc_desk.specs.Desks.{Shown, Files}
use Rattle.pcap_io.specs.declared.forms.Form.{Form}
use Rattle.pcap_io.specs.declared.frames.Captured.{Captured}
use Rattle.pcap_io.specs.Captures.{IsWithinLimits}
use Rattle.pcap_io.specs.Kept.{Kept as CaptureKept}
use Rattle.pcap_io.specs.Calls.{lent_frame}
use Rattle.pcap_io.specs.Streams.{StandsIn}
use Rattle.control_files.specs.declared.segments.Segment.{Segment}
use Rattle.control_files.specs.declared.segments.Mark.{Mark}
use Rattle.control_files.specs.Segments.{AreSegments, mark_of, numbers, segment_bytes, segments_bytes, start}
use Rattle.control_files.specs.Kept.{Kept as ControlKept}
use Rattle.control_files.proofs.SegmentLemmas.{length-segment}
use Rattle.session_machine.specs.Groups.{Entry}
use Rattle.session_machine.specs.Peers.{AllHold}
use Rattle.sfc_config.specs.Parts.{Parts}
use Rattle.sfc_routes.proofs.MemberLemmas.{all_front, all_back}
use Rattle.rounds.specs.Views.{Inputs}
use Rattle.commands.specs.Pieces.{SameCounts}
use Rattle.history_laws.proofs.HistoryLemmas.{peers_of_all}
use Rattle.control_histories.specs.Logs.{AreOfPeers}
use Rattle.round_inputs.specs.declared.frames_ahead.FrameAhead.{FrameAhead}
use Rattle.round_inputs.specs.declared.frames_ahead.FrameAhead.TheVariants as frame
use Rattle.round_inputs.specs.declared.segments_ahead.SegmentAhead.{SegmentAhead}
use Rattle.round_inputs.specs.declared.segments_ahead.SegmentAhead.TheVariants as segment
use Rattle.round_inputs.specs.declared.halts.Halt.{Halt}
use Rattle.round_inputs.specs.declared.halts.Halt.TheVariants as halts
use Rattle.round_inputs.specs.declared.round_inputs.RoundInputs.{RoundInputs}
use Rattle.round_inputs.specs.Ahead.{CaptureAt, ControlAt, with_frame, with_segment}
use Rattle.round_inputs.specs.Taking.{AreInputs, HoldsAt, round_of}
use Rattle.round_inputs.proofs.ReadLemmas.{segments_size}
use Rattle.worker_run.specs.declared.runners.Runner.{Runner}
use Rattle.worker_run.specs.Batches.{AreWithinLimits, Carried, frames_in}
use Rattle.worker_run.specs.Controls.{AreShort, HasRoomFor, bytes_in}
use Rattle.worker_run.specs.Runners.{IsSound, Stands}
use Rattle.commands.specs.Outputs.{Outputs}
use Rattle.file_runs.specs.declared.round_frames.RoundFrames.{RoundFrames}
use Rattle.file_runs.specs.declared.run_steps.FileRun.{FileRun}
use Rattle.file_runs.specs.Means.{AreOpen, IsOfRun, Means, NeverLong, Put, PutFronts, RoundPuts, Saying, WritesOutputs, Wrote}
use Rattle.file_runs.specs.RunSteps.{Along, HaltSays, Reached, Said, Standing, StoppedAt, Taken, capture_of, control_of, view_of}
use Rattle.file_runs.proofs.AlongLemmas.{capture_no_output, control_no_output, halt_says, heard_by, none_bound_then, output_is_run, so_far_said}
use Rattle.file_runs.proofs.ReachLemmas.{reached_next}

-- ---- the frames

within_given : (form : Option Form) (feed : CaptureKept) (taken : List ℕ) (given : List Captured) → StandsIn form feed taken given → AllByRecursion IsWithinLimits given
within_given None feed taken given stands = subst (AllByRecursion IsWithinLimits) (sym stands.nothing) tt
within_given (Some form) feed taken given stands = stands.is_capture.within

within_front : (ahead : FrameAhead) (feed : CaptureKept) (passed : List Captured) → AllByRecursion IsWithinLimits (with_frame ahead feed passed) → AllByRecursion IsWithinLimits passed
within_front (frame.Frame head) feed passed all = all_front IsWithinLimits passed (lent_frame head feed ∷ []) all
within_front frame.End feed passed all = all
within_front (frame.Bad r) feed passed all = all

carried_within : (batch : List Carried) → AllByRecursion IsWithinLimits (frames_in batch) → AllByRecursion (λ (c : Carried). IsWithinLimits c.frame) batch
carried_within [] all = tt
carried_within (c ∷ cs) all = (all.0, carried_within cs all.1)

pub frames_within : (tells : Bool) (capture left : List ℕ) (ahead : FrameAhead) (feed : CaptureKept) (passed : List Captured) (batch : List Carried) → CaptureAt tells capture left ahead feed (passed ++ frames_in batch) → AreWithinLimits batch
frames_within tells capture left ahead feed passed batch at =
    let given = within_given feed.form feed at.read.taken (with_frame ahead feed (passed ++ frames_in batch)) at.read.stands in
    let all = within_front ahead feed (passed ++ frames_in batch) given in
    All-from_recursion (λ (c : Carried). IsWithinLimits c.frame) batch (carried_within batch (all_back IsWithinLimits passed (frames_in batch) all))

-- ---- the segments

front_segments : (peers : List ℕ) (mark : Mark) (xs ys : List Segment) → AreSegments peers mark (xs ++ ys) → AreSegments peers mark xs
front_segments peers mark [] ys each = tt
front_segments peers mark (x ∷ xs) ys each = (each.0, front_segments peers (mark_of x) xs ys each.1)

given_front : (peers : List ℕ) (ahead : SegmentAhead) (history : List Segment) → AreSegments peers start (with_segment ahead history) → AreSegments peers start history
given_front peers (segment.Segment s) history each = front_segments peers start history (s ∷ []) each
given_front peers segment.End history each = each
given_front peers (segment.Bad r) history each = each

-- the segments so far may stand in a control file
pub segments_fit : (tells : Bool) (control left : List ℕ) (ahead : SegmentAhead) (feed : ControlKept) (history : List Segment) → ControlAt tells control left ahead feed history → AreSegments feed.peers start history
segments_fit tells control left ahead feed history at = given_front feed.peers ahead history at.read.stands.is_control.each

short_each : (peers : List ℕ) (mark : Mark) (ss : List Segment) → AreSegments peers mark ss → AllByRecursion (λ (s : Segment). length s.bytes ≤ 65535) ss
short_each peers mark [] each = tt
short_each peers mark (s ∷ ss) each = (each.0.most, short_each peers (mark_of s) ss each.1)

pub group_short : (peers : List ℕ) (history group : List Segment) → AreSegments peers start (history ++ group) → AreShort group
group_short peers history group each =
    All-from_recursion (λ (s : Segment). length s.bytes ≤ 65535) group
    (all_back (λ (s : Segment). length s.bytes ≤ 65535) history group (short_each peers start (history ++ group) each))

contains_each : (peers : List ℕ) (mark : Mark) (ss : List Segment) → AreSegments peers mark ss → AllByRecursion (λ (s : Segment). Contains peers s.peer) ss
contains_each peers mark [] each = tt
contains_each peers mark (s ∷ ss) each = (each.0.peer, contains_each peers (mark_of s) ss each.1)

pub group_of_peers : (peers : List (ℕ × ℕ)) (history group : List Segment) → AreSegments (numbers peers) start (history ++ group) → AreOfPeers peers group
group_of_peers peers history group each =
    All-from_recursion (λ (s : Segment). Contains (numbers peers) s.peer) group
    (all_back (λ (s : Segment). Contains (numbers peers) s.peer) history group (contains_each (numbers peers) start (history ++ group) each))

-- ---- room

pub bytes_more : (xs ys : List Segment) → bytes_in (xs ++ ys) ≡ bytes_in xs + bytes_in ys
bytes_more [] ys = omega arith
bytes_more (x ∷ xs) ys = let rest = bytes_more xs ys in omega (arith, rest)

bytes_small : (ss : List Segment) → bytes_in ss ≤ length (segments_bytes ss)
bytes_small [] = omega arith
bytes_small (s ∷ ss) =
    let rest = bytes_small ss in
    let size = ap length (flat_map-cons segment_bytes s ss) in
    omega (arith, rest, size, length-segment s, length-append (segment_bytes s) (segments_bytes ss))

bytes_front : (ahead : SegmentAhead) (history : List Segment) → bytes_in history ≤ bytes_in (with_segment ahead history)
bytes_front (segment.Segment s) history = let more = bytes_more history (s ∷ []) in omega (arith, more)
bytes_front segment.End history = omega arith
bytes_front (segment.Bad r) history = omega arith

pub bytes_few : (tells : Bool) (control left : List ℕ) (ahead : SegmentAhead) (feed : ControlKept) (history : List Segment) → ControlAt tells control left ahead feed history → feed.place + length feed.rest ≤ 2 ^ 40 → bytes_in history ≤ 2 ^ 40
bytes_few tells control left ahead feed history at few =
    let stands = at.read.stands in
    let size = segments_size feed at.read.taken (with_segment ahead history) stands in
    let all = ap length stands.joined in
    let front = ap length stands.is_control.all in
    let small = bytes_small (with_segment ahead history) in
    let own = bytes_front ahead history in
    omega (arith, size, all, front, small, own, few, length-append stands.front feed.rest)

pub room_for : (runner : Runner) (history group : List Segment) → AllHold (bytes_in history) runner.control.sessions.sessions.items → bytes_in (history ++ group) ≤ 2 ^ 40 → HasRoomFor runner.control group
room_for runner history group hold few = (bytes_in history, hold, let more = bytes_more history group in omega (arith, more, few))

-- ---- what is asked before the round is run

pub taken_limits : (m : Means) (setup : Parts) (tells : Bool) (then now : Port → Shown) (waits : Outputs) (run : FileRun) (place : ℕ) → Taken m setup tells then now waits run place → AreWithinLimits run.frames.batch
taken_limits m setup tells then now waits run place x = frames_within tells (capture_of then) (now ports.Capture).left run.inputs.frame run.inputs.capture x.passed run.frames.batch x.holds.frames

taken_fit : (m : Means) (setup : Parts) (tells : Bool) (then now : Port → Shown) (waits : Outputs) (run : FileRun) (place : ℕ) (x : Taken m setup tells then now waits run place) → AreSegments (numbers setup.peers) start (x.history ++ run.group)
taken_fit m setup tells then now waits run place x =
    subst (λ (ps : List ℕ). AreSegments ps start (x.history ++ run.group)) x.standing.peers
    (segments_fit tells (control_of then) (now ports.Control).left run.inputs.segment run.inputs.control (x.history ++ run.group) x.holds.segments)

pub taken_peers : (m : Means) (setup : Parts) (tells : Bool) (then now : Port → Shown) (waits : Outputs) (run : FileRun) (place : ℕ) → Taken m setup tells then now waits run place → AreOfPeers run.runner.setup.peers run.group
taken_peers m setup tells then now waits run place x =
    subst (λ (p : Parts). AreOfPeers p.peers run.group) (sym x.standing.setup_is) (group_of_peers setup.peers x.history run.group (taken_fit m setup tells then now waits run place x))

pub taken_short : (m : Means) (setup : Parts) (tells : Bool) (then now : Port → Shown) (waits : Outputs) (run : FileRun) (place : ℕ) → Taken m setup tells then now waits run place → AreShort run.group
taken_short m setup tells then now waits run place x = group_short (numbers setup.peers) x.history run.group (taken_fit m setup tells then now waits run place x)

pub taken_room : (m : Means) (setup : Parts) (tells : Bool) (then now : Port → Shown) (waits : Outputs) (run : FileRun) (place : ℕ) → Taken m setup tells then now waits run place → HasRoomFor run.runner.control run.group
taken_room m setup tells then now waits run place x =
    room_for run.runner x.history run.group x.is_said.hold
    (bytes_few tells (control_of then) (now ports.Control).left run.inputs.segment run.inputs.control (x.history ++ run.group) x.holds.segments x.few.control)

pub sound_by : (runner : Runner) (history : List Segment) (log : List Entry) → Stands runner history log → IsSound runner
sound_by runner history log stands = inr (history, log, stands)

-- ---- behind the round

-- a run with this runner and these frames
abbrev pub with_run : FileRun → Runner → RoundFrames → FileRun
with_run run runner frames = record { form = run.form; inputs = run.inputs; runner = runner; frames = frames; group = run.group }

pub others_written : (m : Means) (tells : Bool) (had has : Files) (then mid now : Port → Shown) → WritesOutputs m.is_output tells had has mid now → ((port : Port) → (IsOfRun m port → ⊥) → mid port ≡ then port)
    → (port : Port) → (IsOfRun m port → ⊥) → now port ≡ then port
others_written m tells had has then mid now writes others port outside = writes.others port (λ output. outside (output_is_run m port output)) ∙ others port outside

pub standing_written : (m : Means) (setup : Parts) (tells : Bool) (had has : Files) (then mid now : Port → Shown) (run : FileRun) (runner : Runner) (frames : RoundFrames)
    → Standing m setup tells then mid run → WritesOutputs m.is_output tells had has mid now → SameCounts mid now → AreOpen m now → runner.setup ≡ run.runner.setup → Standing m setup tells then now (with_run run runner frames)
standing_written m setup tells had has then mid now run runner frames standing writes quiet ready same = record {
  none_bound = none_bound_then tells then mid now standing.none_bound writes.none_bound;
  others = others_written m tells had has then mid now writes standing.others;
  counts = λ p. quiet p ∙ standing.counts p;
  capture_bound = ap (λ (s : Shown). s.bound) (writes.others ports.Capture (capture_no_output m)) ∙ standing.capture_bound;
  control_bound = ap (λ (s : Shown). s.bound) (writes.others ports.Control (control_no_output m)) ∙ standing.control_bound;
  ready = ready;
  parts = standing.parts;
  setup_is = same ∙ standing.setup_is;
  peers = standing.peers;
  form_is = standing.form_is;
}

-- the inputs stand where they stood, since nothing was read
pub holds_written : (m : Means) (tells : Bool) (had has : Files) (capture control : List ℕ) (mid now : Port → Shown) (inputs : RoundInputs) (passed : List Captured) (history : List Segment)
    → WritesOutputs m.is_output tells had has mid now → HoldsAt tells capture control mid inputs passed history → HoldsAt tells capture control now inputs passed history
holds_written m tells had has capture control mid now inputs passed history writes holds = record {
  frames = subst (λ (s : Shown). CaptureAt tells capture s.left inputs.frame inputs.capture passed) (sym (writes.others ports.Capture (capture_no_output m))) holds.frames;
  segments = subst (λ (s : Shown). ControlAt tells control s.left inputs.segment inputs.control history) (sym (writes.others ports.Control (control_no_output m))) holds.segments;
  place = holds.place;
  steps = holds.steps;
}

-- from the beginning to the view behind the round
reached_round : (m : Means) (setup : Parts) (tells : Bool) (then mid : Port → Shown) (waits : Outputs) (run : FileRun) (place : ℕ) (runner : Runner) (more : List Entry) (here : List m.Said) (x : Taken m setup tells then mid waits run place)
    → Saying m runner x.history x.log run.group (frames_in run.frames.batch) more here → tells ≡ true → (whole : Inputs) → AreInputs (capture_of then) (control_of then) run.form (numbers setup.peers) whole
    → Reached m.says (AreOfPeers setup.peers) whole (view_of whole (x.passed ++ frames_in run.frames.batch) (x.history ++ run.group) (x.said ++ here))
reached_round m setup tells then mid waits run place runner more here x saying told whole are =
    reached_next m.says (AreOfPeers setup.peers) whole x.passed x.history x.said (round_of run.group (frames_in run.frames.batch)) here
    (x.is_said.reached told whole are) (x.next told run.form whole are) (peers_of_all setup.peers (x.history ++ run.group) (taken_fit m setup tells then mid waits run place x)) saying.says_so

many_more : (R : Type 0) (said here : List R) (passed frames : List Captured) → length said ≡ length passed → length here ≡ length frames → length (said ++ here) ≡ length (passed ++ frames)
many_more R said here passed frames was many = omega (arith, many, was, length-append said here, length-append passed frames)

said_round : (m : Means) (setup : Parts) (tells : Bool) (then mid now : Port → Shown) (waits left : Outputs) (run : FileRun) (place : ℕ) (runner : Runner) (frames : RoundFrames) (more : List Entry) (here : List m.Said) (x : Taken m setup tells then mid waits run place)
    → Saying m runner x.history x.log run.group (frames_in run.frames.batch) more here → AllHold (bytes_in x.history + bytes_in run.group) runner.control.sessions.sessions.items
    → (tells ≡ true → Put m mid waits (m.texts run.form x.passed x.history x.log x.said) → Put m now left (m.texts run.form (x.passed ++ frames_in run.frames.batch) (x.history ++ run.group) (x.log ++ more) (x.said ++ here)))
    → Said m setup tells then now left (with_run run runner frames) (x.passed ++ frames_in run.frames.batch) (x.history ++ run.group) (x.log ++ more) (x.said ++ here)
said_round m setup tells then mid now waits left run place runner frames more here x saying hold put = record {
  stands = saying.stands;
  of_peers = peers_of_all setup.peers (x.history ++ run.group) (taken_fit m setup tells then mid waits run place x);
  hold = subst (λ n. AllHold n runner.control.sessions.sessions.items) (sym (bytes_more x.history run.group)) hold;
  each = many_more m.Said x.said here x.passed (frames_in run.frames.batch) x.is_said.each saying.each;
  reached = reached_round m setup tells then mid waits run place runner more here x saying;
  put = λ told. put told (x.is_said.put told);
}

pub along_round : (m : Means) (setup : Parts) (tells : Bool) (had has : Files) (then mid now : Port → Shown) (waits left : Outputs) (run : FileRun) (place : ℕ) (runner : Runner) (frames : RoundFrames) (r : Result (Unit {0}) Halt) (x : Taken m setup tells then mid waits run place)
    → runner.setup ≡ run.runner.setup → Wrote m tells had has mid now r → OnOk r (AreOpen m now) → OnOk r (AllHold (bytes_in x.history + bytes_in run.group) runner.control.sessions.sessions.items)
    → RoundPuts m tells mid now waits left runner run.form x.passed x.history x.log x.said run.group (frames_in run.frames.batch) r
    → OnOk r (Along m setup tells then now left (with_run run runner frames))
along_round m setup tells had has then mid now waits left run place runner frames (Ok done) x same wrote ready hold puts = record {
  standing = standing_written m setup tells had has then mid now run runner frames x.standing wrote.writes wrote.counts ready same;
  few = x.few;
  lends = x.lends;
  passed = x.passed ++ frames_in run.frames.batch;
  history = x.history ++ run.group;
  log = x.log ++ puts.0;
  said = x.said ++ puts.1;
  holds = holds_written m tells had has (capture_of then) (control_of then) mid now run.inputs (x.passed ++ frames_in run.frames.batch) (x.history ++ run.group) wrote.writes x.holds;
  is_said = said_round m setup tells then mid now waits left run place runner frames puts.0 puts.1 x puts.2 hold puts.3;
}
along_round m setup tells had has then mid now waits left run place runner frames (Err halt) x same wrote ready hold puts = tt

-- what was said where the round was not put whole
stopped_round : (m : Means) (setup : Parts) (tells : Bool) (then mid now : Port → Shown) (waits : Outputs) (run : FileRun) (place : ℕ) (runner : Runner) (x : Taken m setup tells then mid waits run place) → runner.setup ≡ setup → tells ≡ true
    → PutFronts m now (m.texts run.form x.passed x.history x.log x.said)
    ⊎ ((more : List Entry) × (here : List m.Said) × Saying m runner x.history x.log run.group (frames_in run.frames.batch) more here
    × PutFronts m now (m.texts run.form (x.passed ++ frames_in run.frames.batch) (x.history ++ run.group) (x.log ++ more) (x.said ++ here)))
    → StoppedAt m setup then now
stopped_round m setup tells then mid now waits run place runner x is told (inl fronts) = record {
  form = run.form;
  passed = x.passed;
  history = x.history;
  log = x.log;
  said = x.said;
  so = so_far_said m setup tells then mid waits run x.passed x.history x.log x.said x.standing x.is_said told;
  fronts = fronts;
}
stopped_round m setup tells then mid now waits run place runner x is told (inr (more, here, saying, fronts)) = record {
  form = run.form;
  passed = x.passed ++ frames_in run.frames.batch;
  history = x.history ++ run.group;
  log = x.log ++ more;
  said = x.said ++ here;
  so = record {
    parts = x.standing.parts;
    of_peers = peers_of_all setup.peers (x.history ++ run.group) (taken_fit m setup tells then mid waits run place x);
    heard = heard_by setup runner (x.history ++ run.group) (x.log ++ more) is saying.stands;
    each = many_more m.Said x.said here x.passed (frames_in run.frames.batch) x.is_said.each saying.each;
    form_is = x.standing.form_is told;
    reached = reached_round m setup tells then mid waits run place runner more here x saying told;
  };
  fronts = fronts;
}

pub no_long : {A B : Type 0} (T : Type 0) (halt : Halt) (port : Port) → NeverLong {T = T} (Err halt) → halt ≡ halts.Long port → A × B
no_long T halt port never is = absurd (never port (ap (λ (h : Halt). Err h) is))

pub halts_round : (m : Means) (setup : Parts) (tells : Bool) (had has : Files) (then mid now : Port → Shown) (waits left : Outputs) (run : FileRun) (place : ℕ) (runner : Runner) (r : Result (Unit {0}) Halt) (x : Taken m setup tells then mid waits run place)
    → runner.setup ≡ run.runner.setup → Wrote m tells had has mid now r
    → RoundPuts m tells mid now waits left runner run.form x.passed x.history x.log x.said run.group (frames_in run.frames.batch) r
    → IfErr r (HaltSays m setup tells then now)
halts_round m setup tells had has then mid now waits left run place runner (Ok done) x same wrote puts = tt
halts_round m setup tells had has then mid now waits left run place runner (Err halt) x same wrote puts =
    halt_says m setup tells then mid now m.is_output (Unit {0}) halt (none_bound_then tells then mid now x.standing.none_bound wrote.writes.none_bound) x.standing.counts
    (others_written m tells had has then mid now wrote.writes x.standing.others) (output_is_run m) wrote.counts
    (λ told. inr (stopped_round m setup tells then mid now waits run place runner x (same ∙ x.standing.setup_is) told (puts told (x.is_said.put told))))
    (λ port is. no_long (Unit {0}) halt port wrote.never_long is)
