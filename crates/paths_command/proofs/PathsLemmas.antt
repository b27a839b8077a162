-- The facts of `paths`: what its words say is determined, its answer is what the files ask for, and from the work on the bound
-- control file to what the answers say.
use Rattle.std.proofs.Common.{◌≡◌, ◌≢◌, ◌⊎◌, inl, inr, ℕ, ◌^◌, ◌<◌, ◌≤◌, Bool, true, false, List, [], ◌∷◌, ◌++◌, append-nil, length, Option, Some, None, codes, refl, sym, ap, ◌∙◌, subst, arith}
use Rattle.sfc_desk.specs.declared.ports.Port.{Port}
use Rattle.sfc_desk.specs.declared.ports.Port.TheVariants as ports
use Rattle.sfc_desk.specs.Desks.{Shown, Files, Rose}
use Rattle.sfc_desk.specs.Ports.{is_input}
use Rattle.control_files.specs.declared.segments.Segment.{Segment}
use Rattle.control_files.specs.declared.reasons.Refusal.{Refusal}
use Rattle.control_files.specs.declared.reasons.ControlReason.TheVariants as reasons
use Rattle.control_files.specs.Refusals.{told as told_at}
use Rattle.control_files.specs.Reads.{ReadsControl}
use Rattle.control_files.specs.Segments.{numbers}
use Rattle.control_files.proofs.OneReading.{one_reading}
use Rattle.sfc_config.specs.Parts.{Parts}
use Rattle.commands.specs.declared.statuses.Status.{Status}
use Rattle.commands.specs.declared.statuses.Status.TheVariants as status
use Rattle.commands.specs.Commands.{Behaves, NoneRose}
use Rattle.commands.specs.Fronts.{IsFrontBehind}
use Rattle.commands.specs.Openings.{Opened}
use Rattle.commands.specs.Outputs.{Outputs}
use Rattle.commands.specs.Pieces.{NoneBound}
use Rattle.commands.specs.Places.{Place, opens, reports, HasPort, IsRow}
use Rattle.commands.proofs.CommandLemmas.{fails_absent}
use Rattle.commands.proofs.PlaceLemmas.{opens_stays}
use Rattle.setup_inputs.specs.Setups.{setup_place, HoldsSetup}
use Rattle.setup_inputs.proofs.SetupLemmas.{wanted_on_setup, never_words_on_setup}
use Rattle.paths_command.specs.PathsCommand.{Paths, IsPaths, PathsRuns, PathsWants, PathsWorks, PathsFronts, ControlAsks, InputAsks, paths_ports}
use Rattle.paths_command.specs.PathsSteps.{StreamWorks, WroteFrontOf, WroteAll, input_of}
use Rattle.paths_command.specs.VersionTexts.{Writes}

-- ---- words and ports

-- a value with these names
paths_with : List ℕ → List ℕ → Paths
paths_with setup control = record { setup = setup; control = control }

-- words are those of one command
pub one_paths : (words : List (List ℕ)) (a b : Paths) → IsPaths words a → IsPaths words b → a ≡ b
unfolding paths_with
one_paths words a b is_a is_b =
    let same : codes "paths" ∷ a.setup ∷ a.control ∷ [] ≡ codes "paths" ∷ b.setup ∷ b.control ∷ [] = sym is_a.spelled ∙ is_b.spelled in
    let setup : a.setup ≡ b.setup = cc in
    let control : a.control ≡ b.control = cc in
    ap (λ name. paths_with name a.control) setup ∙ ap (λ name. paths_with b.setup name) control

never : true ≡ false → ⊥
never e = cc

setup_is_no_control : ports.Setup ≢ ports.Control
setup_is_no_control e = cc

setup_is_no_report : ports.Setup ≢ ports.Report
setup_is_no_report e = cc

control_is_no_report : ports.Control ≢ ports.Report
control_is_no_report e = cc

-- the ports behind the setup
abbrev pub later_ports : Paths → List Place
later_ports paths = opens ports.Control paths.control ∷ reports ∷ []

-- the three ports differ
pub paths_row : (paths : Paths) → IsRow (paths_ports paths)
paths_row paths = (
  λ other has. elim has [ inl is ↦ setup_is_no_control is.0 | inr later ↦ elim later [ inl is ↦ setup_is_no_report is.0 | inr none ↦ none ] ],
  ((λ other has. elim has [ inl is ↦ control_is_no_report is.0 | inr none ↦ none ]), ((λ other has. has), tt)),
)

-- the first two are bound, and Report is as it was
pub two_row : (paths : Paths) → IsRow (setup_place paths.setup ∷ opens ports.Control paths.control ∷ [])
two_row paths = ((λ other has. elim has [ inl is ↦ setup_is_no_control is.0 | inr none ↦ none ]), ((λ other has. has), tt))

pub report_kept : (paths : Paths) (tells : Bool) (then mid : Port → Shown) → Opened (setup_place paths.setup ∷ opens ports.Control paths.control ∷ []) tells then mid → mid ports.Report ≡ then ports.Report
report_kept paths tells then mid was =
    was.only ports.Report (λ name has. elim has [
      | inl is ↦ setup_is_no_report (sym is.0)
      | inr later ↦ elim later [ inl is ↦ control_is_no_report (sym is.0) | inr none ↦ none ]
    ])

report_is_read : (port : Port) → port ≡ ports.Report → is_input port ≡ true → ⊥
report_is_read port is reads = let e : is_input ports.Report ≡ true = subst (λ p. is_input p ≡ true) is reads in cc

-- ---- what the files ask for

asked_whole : (setup : Parts) (input : List ℕ) (segments : List Segment) (wanted : Status) → length input ≤ 2 ^ 40 → ReadsControl input (numbers setup.peers) segments None → ControlAsks setup (Some input) wanted → status.Ok ≡ wanted
asked_whole setup input segments wanted few reads (inl long) = let past = long.0 in absurd (omega (arith, past, few))
asked_whole setup input segments wanted few reads (inr (_, inl whole)) = sym whole.1
asked_whole setup input segments wanted few reads (inr (_, inr refused)) =
    let stop : None ≡ Some refused.0 = (one_reading input (numbers setup.peers) segments refused.1.0 None (Some refused.0) reads refused.1.1).1 in cc

asked_refused : (setup : Parts) (input : List ℕ) (segments : List Segment) (r : Refusal) (wanted : Status) → (r.reason ≡ reasons.Short → length input ≤ 2 ^ 40) → ReadsControl input (numbers setup.peers) segments (Some r) → ControlAsks setup (Some input) wanted → status.Control r.place r.reason ≡ wanted
asked_refused setup input segments r wanted short reads (inl long) =
    let past = long.0 in
    let few = short (long.1 segments r reads) in
    absurd (omega (arith, past, few))
asked_refused setup input segments r wanted short reads (inr (_, inl whole)) =
    let stop : Some r ≡ None = (one_reading input (numbers setup.peers) segments whole.0.0 (Some r) None reads whole.0.1).1 in cc
asked_refused setup input segments r wanted short reads (inr (_, inr refused)) =
    let stop : Some r ≡ Some refused.0 = (one_reading input (numbers setup.peers) segments refused.1.0 (Some r) (Some refused.0) reads refused.1.1).1 in
    let same : r ≡ refused.0 = cc in
    ap (λ (t : Refusal). status.Control t.place t.reason) same ∙ sym refused.2

asked_long : (setup : Parts) (input : List ℕ) (wanted : Status) → 2 ^ 40 < length input → ControlAsks setup (Some input) wanted → status.Long ports.Control ≡ wanted
asked_long setup input wanted past (inl long) = sym long.2
asked_long setup input wanted past (inr within) = let few = within.0 in absurd (omega (arith, past, few))

asks_of : (setup : Parts) (found : Option (List ℕ)) (input : List ℕ) (wanted : Status) → found ≡ Some input → ControlAsks setup found wanted → ControlAsks setup (Some input) wanted
asks_of setup found input wanted there asks = subst (λ (f : Option (List ℕ)). ControlAsks setup f wanted) there asks

asks_none : (setup : Parts) (found : Option (List ℕ)) (wanted : Status) → found ≡ None → ControlAsks setup found wanted → wanted ≡ status.File ports.Control
asks_none setup found wanted none asks = subst (λ (f : Option (List ℕ)). ControlAsks setup f wanted) none asks

there_and_absent : (found : Option (List ℕ)) (text : List ℕ) → found ≡ Some text → found ≡ None → ⊥
there_and_absent found text there none = cc

-- a call failed on a port that has a name: Control, since the setup is there
asked_absent : (paths : Paths) (setup : Parts) (held : Files) (port : Port) (wanted : Status) (name : List ℕ) → HoldsSetup paths.setup held setup → HasPort (paths_ports paths) port name → is_input port ≡ true → held name ≡ None → ControlAsks setup (held paths.control) wanted → status.File port ≡ wanted
asked_absent paths setup held port wanted name holds (inl is) input absent asks =
    absurd (there_and_absent (held paths.setup) holds.text holds.there (subst (λ (n : List ℕ). held n ≡ None) is.1 absent))
asked_absent paths setup held port wanted name holds (inr (inl is)) input absent asks =
    ap status.File is.0 ∙ sym (asks_none setup (held paths.control) wanted (subst (λ (n : List ℕ). held n ≡ None) is.1 absent) asks)
asked_absent paths setup held port wanted name holds (inr (inr (inl is))) input absent asks = absurd (report_is_read port is.0 input)
asked_absent paths setup held port wanted name holds (inr (inr (inr none))) input absent asks = absurd none

-- what the control file asks for is the answer of the work behind the setup
works_wanted : (paths : Paths) (setup : Parts) (tells : Bool) (held : Files) (then now : Port → Shown) (answer wanted : Status) → Behaves (paths_ports paths) tells held then now answer → tells ≡ true → NoneRose then now → answer ≢ status.Memory → HoldsSetup paths.setup held setup → PathsWorks paths setup tells held then now answer → ControlAsks setup (held paths.control) wanted → answer ≡ wanted
works_wanted paths setup tells held then now status.Ok wanted behaves told none some holds works asks =
    let ends = works.1 told in
    asked_whole setup ends.writes.input ends.writes.writes.segments wanted ends.within ends.writes.writes.reads (asks_of setup (held paths.control) ends.writes.input wanted ends.writes.there asks)
works_wanted paths setup tells held then now (status.Control place reason) wanted behaves told none some holds works asks =
    let ends = works.1 told in
    asked_refused setup ends.writes.input ends.writes.writes.segments (told_at place reason) wanted ends.short ends.writes.writes.reads (asks_of setup (held paths.control) ends.writes.input wanted ends.writes.there asks)
works_wanted paths setup tells held then now (status.Long port) wanted behaves told none some holds works asks =
    let long = (works.2 told).0 in
    ap status.Long works.0 ∙ asked_long setup long.input wanted long.past (asks_of setup (held paths.control) long.input wanted long.there asks)
works_wanted paths setup tells held then now (status.File port) wanted behaves told none some holds works asks =
    let failed = fails_absent (paths_ports paths) tells held then now port (behaves.fails port refl) none in
    asked_absent paths setup held port wanted failed.0 holds failed.1 failed.2.input failed.2.none asks
works_wanted paths setup tells held then now status.Memory wanted behaves told none some holds works asks = absurd (some refl)
works_wanted paths setup tells held then now status.Words wanted behaves told none some holds works asks = absurd works
works_wanted paths setup tells held then now (status.Setup line reason) wanted behaves told none some holds works asks = absurd works
works_wanted paths setup tells held then now (status.Capture place reason) wanted behaves told none some holds works asks = absurd works
works_wanted paths setup tells held then now (status.Records number) wanted behaves told none some holds works asks = absurd works
works_wanted paths setup tells held then now (status.Pcapng place reason) wanted behaves told none some holds works asks = absurd works

-- what the files ask for is the answer, where no call failed and memory was there
pub asked_is_answered : (paths : Paths) (tells : Bool) (held : Files) (then now : Port → Shown) (answer wanted : Status) → PathsRuns paths tells held then now answer → Behaves (paths_ports paths) tells held then now answer → PathsWants paths held wanted → tells ≡ true → NoneRose then now → answer ≢ status.Memory → answer ≡ wanted
asked_is_answered paths tells held then now answer wanted runs behaves wants told none some =
    wanted_on_setup (λ setup asked. ControlAsks setup (held paths.control) asked) (λ setup. PathsWorks paths setup tells held then now answer) paths.setup (later_ports paths) tells held then now answer wanted (paths_row paths)
    (λ setup holds works asks. works_wanted paths setup tells held then now answer wanted behaves told none some holds works asks)
    runs behaves wants told none some

-- an answer to the words of `paths` is no refusal of the words
pub served : (paths : Paths) (tells : Bool) (held : Files) (then now : Port → Shown) (answer : Status) → PathsRuns paths tells held then now answer → answer ≡ status.Words → ⊥
served paths tells held then now answer runs refused =
    never_words_on_setup (λ setup. PathsWorks paths setup tells held then now status.Words) paths.setup tells held then now (λ setup works. works)
    (subst (λ (s : Status). PathsRuns paths tells held then now s) refused runs)

-- ---- from the work on the bound control file

one_input : (found : Option (List ℕ)) (a b : List ℕ) → found ≡ Some a → found ≡ Some b → a ≡ b
one_input found a b is_a is_b = cc

-- a front of what segments at the front of a control file make is one of what is written for it
abbrev pub IsFrontOfWhole : Parts → Type 0
IsFrontOfWhole setup = (input before now text : List ℕ) (stop : Option Refusal) → WroteFrontOf setup input before now → Writes setup input stop text → IsFrontBehind before now text

-- what Report took is a front of what is written for the control file
took_front : (paths : Paths) (setup : Parts) (held : Files) (input : List ℕ) (then mid now : Port → Shown) → IsFrontOfWhole setup → mid ports.Report ≡ then ports.Report → held paths.control ≡ Some input → WroteFrontOf setup input (mid ports.Report).written (now ports.Report).written → PathsFronts paths setup held then now
took_front paths setup held input then mid now whole same there wrote =
    inr (λ out writes.
    let one : writes.1.input ≡ input = one_input (held paths.control) writes.1.input input writes.1.there there in
    let front = whole input (mid ports.Report).written (now ports.Report).written (out ports.Report) writes.0 wrote (subst (λ (i : List ℕ). Writes setup i writes.0 (out ports.Report)) one writes.1.writes) in
    ((λ o. absurd (never o)), ((λ o. absurd (never o)), ((front.0, front.1 ∙ ap (λ s. s.written ++ front.0) same, front.2), tt))))

-- what was done on the bound control file, said from before the binds
pub works_from : (paths : Paths) (setup : Parts) (tells : Bool) (held : Files) (then mid now : Port → Shown) (answer : Status) → IsFrontOfWhole setup → Opened (paths_ports paths) tells then mid → mid ports.Report ≡ then ports.Report → NoneBound tells mid now → (tells ≡ true → held paths.control ≡ Some (input_of mid)) → StreamWorks setup tells mid now answer → PathsWorks paths setup tells held then now answer
works_from paths setup tells held then mid now status.Ok whole was same none there works = (
  opens_stays (paths_ports paths) tells then mid now none was.all,
  λ told. let done = works told in let text = done.2 in record {
    out = λ port. text.0;
    writes = record { input = input_of mid; there = there told; writes = text.1 };
    within = done.0;
    read_whole = done.1;
    took = ((λ out. absurd (never out)), ((λ out. absurd (never out)), ((text.0, text.2 ∙ ap (λ s. s.written ++ text.0) same, refl), tt)));
  },
)
works_from paths setup tells held then mid now (status.Control place reason) whole was same none there works = (
  opens_stays (paths_ports paths) tells then mid now none was.all,
  λ told. let done = works told in let text = done.1 in record {
    out = λ port. text.0;
    writes = record { input = input_of mid; there = there told; writes = text.1 };
    short = done.0;
    took = ((λ out. absurd (never out)), ((λ out. absurd (never out)), ((text.0, text.2 ∙ ap (λ s. s.written ++ text.0) same, refl), tt)));
  },
)
works_from paths setup tells held then mid now (status.Long port) whole was same none there works = (
  works.0,
  opens_stays (paths_ports paths) tells then mid now none was.all,
  λ told. let long = works.1 told in (
    record { input = input_of mid; there = there told; past = long.0 },
    took_front paths setup held (input_of mid) then mid now whole same (there told) long.1,
  ),
)
works_from paths setup tells held then mid now (status.File port) whole was same none there works =
    (works.0.0, λ told. took_front paths setup held (input_of mid) then mid now whole same (there told) (works.1 told))
works_from paths setup tells held then mid now status.Memory whole was same none there works =
    λ told. took_front paths setup held (input_of mid) then mid now whole same (there told) (works told)
works_from paths setup tells held then mid now status.Words whole was same none there works = works
works_from paths setup tells held then mid now (status.Setup line reason) whole was same none there works = works
works_from paths setup tells held then mid now (status.Capture place reason) whole was same none there works = works
works_from paths setup tells held then mid now (status.Records number) whole was same none there works = works
works_from paths setup tells held then mid now (status.Pcapng place reason) whole was same none there works = works

-- where the work fails with File, a count rose
pub fails_from : (paths : Paths) (setup : Parts) (tells : Bool) (then now : Port → Shown) (answer : Status) (port : Port) → StreamWorks setup tells then now answer → answer ≡ status.File port → (name : List ℕ) × HasPort (paths_ports paths) port name × Rose (then port) (now port)
fails_from paths setup tells then now (status.File own) port works is =
    let same : own ≡ port = cc in
    let rose : Rose (then port) (now port) = subst (λ p. Rose (then p) (now p)) same works.0.1 in
    elim (works.0.0) [
      | inl control ↦ (paths.control, inr (inl (sym same ∙ control, refl)), rose)
      | inr report ↦ ([], inr (inr (inl (sym same ∙ report, refl))), rose)
    ]
fails_from paths setup tells then now status.Ok port works is = cc
fails_from paths setup tells then now status.Words port works is = cc
fails_from paths setup tells then now (status.Setup line reason) port works is = cc
fails_from paths setup tells then now (status.Capture place reason) port works is = cc
fails_from paths setup tells then now (status.Control place reason) port works is = cc
fails_from paths setup tells then now status.Memory port works is = cc
fails_from paths setup tells then now (status.Records number) port works is = cc
fails_from paths setup tells then now (status.Long own) port works is = cc
fails_from paths setup tells then now (status.Pcapng place reason) port works is = cc
