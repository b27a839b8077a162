-- The facts of a command that runs over both files: its answer is what the files ask for, and from the run over the bound inputs to what
-- the answers say.
use Rattle.std.proofs.Common.{◌≡◌, ◌≢◌, ◌⊎◌, inl, inr, ℕ, ◌+◌, ◌^◌, ◌<◌, ◌≤◌, Bool, true, false, List, [], ◌∷◌, ◌++◌, length, slice_index_or, Option, Some, None, refl, sym, ap, ◌∙◌, subst, arith}
use Rattle.sfc_desk.specs.declared.ports.Port.{Port}
use Rattle.sfc_desk.specs.declared.ports.Port.TheVariants as ports
use Rattle.sfc_desk.specs.Desks.{Shown, Files, Rose, raised}
use Rattle.sfc_desk.specs.Ports.{is_input, number_of}
use Rattle.pcap_io.specs.declared.forms.Form.{Form}
use Rattle.pcap_io.specs.declared.reasons.Refusal.{Refusal as CaptureRefusal}
use Rattle.pcap_io.specs.Refusals.{told as capture_told}
use Rattle.control_files.specs.declared.segments.Segment.{Segment}
use Rattle.control_files.specs.declared.reasons.Refusal.{Refusal as ControlRefusal}
use Rattle.control_files.specs.Refusals.{told as control_told}
use Rattle.control_files.specs.Segments.{numbers}
use Rattle.record_text.specs.declared.records.Record.{Record}
use Rattle.sfc_config.specs.Parts.{Parts, AreParts}
use Rattle.rounds.specs.declared.ends.RunEnd.{RunEnd}
use Rattle.rounds.specs.declared.ends.RunEnd.TheVariants as ends
use Rattle.rounds.specs.Counted.{end_of}
use Rattle.rounds.specs.Says.{IsOne, Says}
use Rattle.rounds.specs.Views.{Inputs, ending}
use Rattle.commands.specs.declared.statuses.Status.{Status}
use Rattle.commands.specs.declared.statuses.Status.TheVariants as status
use Rattle.commands.specs.Commands.{Behaves, NoneRose}
use Rattle.commands.specs.Fronts.{IsFront}
use Rattle.commands.specs.Openings.{Opened}
use Rattle.commands.specs.Outputs.{Outputs, PutAt, TookAll, TookFronts, TookFrontsOfEach, fronts, none_put}
use Rattle.commands.specs.Pieces.{NoneBound}
use Rattle.commands.specs.Places.{Place, opens, reports, HasPort, IsRow, OpensAll}
use Rattle.commands.proofs.CommandLemmas.{fails_absent}
use Rattle.commands.proofs.FrontLemmas.{front_of_more}
use Rattle.commands.proofs.PlaceLemmas.{opens_stays}
use Rattle.setup_inputs.specs.Setups.{HoldsSetup}
use Rattle.setup_inputs.proofs.SetupLemmas.{wanted_on_setup, never_words_on_setup}
use Rattle.round_inputs.specs.Halts.{IsRead}
use Rattle.round_inputs.specs.Taking.{AreInputs}
use Rattle.round_inputs.proofs.LawLemmas.{one_inputs}
use Rattle.control_histories.specs.Logs.{AreOfPeers}
use Rattle.worker_run.proofs.OneSaying.{OneLog}
use Rattle.file_runs.specs.RunTexts.{AreRuns, RunOf, RunWrites}
use Rattle.file_runs.specs.FileRuns.{AsksTheEnd, BothAsk, CaptureIsLong, ControlIsLong, FileAnswers, FileEnds, FileFronts, FileRefused, FileWants, FileWorks, HasCapture, HasLongInput, HaveInputs, InputsAsk, IsRunPort, RunFiles, RunsOf, Stopping, TookFrontsOfSome, WasReadTo, run_ports, status_of_end}
use Rattle.file_runs.specs.Means.{PutAll, PutFronts}
use Rattle.file_runs.specs.RunPuts.{OutsAll, OutsFronts, Texts, nothing_more, outputs_of, run_means, texts_of}
use Rattle.file_runs.specs.RunSteps.{EndedAt, Stopped, StreamWorks, capture_of, control_of, named_by}
use Rattle.file_runs.proofs.WriteLemmas.{Fronts, fronts_of, fronts_of_some, written_there}

-- ---- words and ports

-- seven words are the words at the seven places
seven_words : (words : List (List ℕ)) → length words ≡ 7 → words ≡ slice_index_or words 0 [] ∷ slice_index_or words 1 [] ∷ slice_index_or words 2 [] ∷ slice_index_or words 3 [] ∷ slice_index_or words 4 [] ∷ slice_index_or words 5 [] ∷ slice_index_or words 6 [] ∷ []
seven_words [] e = absurd (omega arith)
seven_words (a ∷ []) e = absurd (omega arith)
seven_words (a ∷ b ∷ []) e = absurd (omega arith)
seven_words (a ∷ b ∷ c ∷ []) e = absurd (omega arith)
seven_words (a ∷ b ∷ c ∷ d ∷ []) e = absurd (omega arith)
seven_words (a ∷ b ∷ c ∷ d ∷ w ∷ []) e = absurd (omega arith)
seven_words (a ∷ b ∷ c ∷ d ∷ w ∷ x ∷ []) e = absurd (omega arith)
seven_words (a ∷ b ∷ c ∷ d ∷ w ∷ x ∷ y ∷ []) e = refl
seven_words (a ∷ b ∷ c ∷ d ∷ w ∷ x ∷ y ∷ z ∷ zs) e = absurd (omega arith)

pub spelled_by : (words : List (List ℕ)) (first : List ℕ) (files : RunFiles) → length words ≡ 7 → slice_index_or words 0 [] ≡ first → files ≡ named_by words
    → words ≡ first ∷ files.setup ∷ files.capture ∷ files.control ∷ files.egress ∷ files.lines ∷ files.replies ∷ []
spelled_by words first files many is same =
    seven_words words many ∙ ap (λ (w : List ℕ). w ∷ slice_index_or words 1 [] ∷ slice_index_or words 2 [] ∷ slice_index_or words 3 [] ∷ slice_index_or words 4 [] ∷ slice_index_or words 5 [] ∷ slice_index_or words 6 [] ∷ []) is
    ∙ ap (λ (f : RunFiles). first ∷ f.setup ∷ f.capture ∷ f.control ∷ f.egress ∷ f.lines ∷ f.replies ∷ []) (sym same)

-- spelled words name the files
pub named_so : (words : List (List ℕ)) (first : List ℕ) (files : RunFiles) → words ≡ first ∷ files.setup ∷ files.capture ∷ files.control ∷ files.egress ∷ files.lines ∷ files.replies ∷ [] → files ≡ named_by words
named_so words first files is = sym (ap named_by is)

-- ports whose numbers rise are a row
abbrev NumbersRise : ℕ → List Place → Type 0
NumbersRise n [] = Unit {0}
NumbersRise n (opens port name ∷ later) = (n ≤ number_of port) × NumbersRise (number_of port + 1) later
NumbersRise n (reports ∷ later) = (n ≤ number_of ports.Report) × NumbersRise (number_of ports.Report + 1) later

not_below : (n : ℕ) (row : List Place) (port : Port) (name : List ℕ) → NumbersRise n row → HasPort row port name → n ≤ number_of port
not_below n [] port name rise has = absurd has
not_below n (opens own word ∷ later) port name rise (inl is) = let e = ap number_of is.0 in let first = rise.0 in omega (arith, first, e)
not_below n (opens own word ∷ later) port name rise (inr has) = let more = not_below (number_of own + 1) later port name rise.1 has in let first = rise.0 in omega (arith, first, more)
not_below n (reports ∷ later) port name rise (inl is) = let e = ap number_of is.0 in let first = rise.0 in omega (arith, first, e)
not_below n (reports ∷ later) port name rise (inr has) = let more = not_below (number_of ports.Report + 1) later port name rise.1 has in let first = rise.0 in omega (arith, first, more)

rising_row : (n : ℕ) (row : List Place) → NumbersRise n row → IsRow row
rising_row n [] rise = tt
rising_row n (opens own word ∷ later) rise =
    ((λ other has. let below = not_below (number_of own + 1) later own other rise.1 has in absurd (omega (arith, below))), rising_row (number_of own + 1) later rise.1)
rising_row n (reports ∷ later) rise =
    ((λ other has. let below = not_below (number_of ports.Report + 1) later ports.Report other rise.1 has in absurd (omega (arith, below))), rising_row (number_of ports.Report + 1) later rise.1)

-- the six ports, and the first of them
pub run_row : (files : RunFiles) → IsRow (run_ports files)
run_row files = rising_row 0 (run_ports files) (omega arith, (omega arith, (omega arith, (omega arith, (omega arith, (omega arith, tt))))))

pub row_of_two : (files : RunFiles) → IsRow (opens ports.Setup files.setup ∷ opens ports.Capture files.capture ∷ [])
row_of_two files = rising_row 0 (opens ports.Setup files.setup ∷ opens ports.Capture files.capture ∷ []) (omega arith, (omega arith, tt))

pub row_of_three : (files : RunFiles) → IsRow (opens ports.Setup files.setup ∷ opens ports.Capture files.capture ∷ opens ports.Control files.control ∷ [])
row_of_three files = rising_row 0 (opens ports.Setup files.setup ∷ opens ports.Capture files.capture ∷ opens ports.Control files.control ∷ []) (omega arith, (omega arith, (omega arith, tt)))

pub row_of_four : (files : RunFiles) → IsRow (opens ports.Setup files.setup ∷ opens ports.Capture files.capture ∷ opens ports.Control files.control ∷ opens ports.Egress files.egress ∷ [])
row_of_four files = rising_row 0 (opens ports.Setup files.setup ∷ opens ports.Capture files.capture ∷ opens ports.Control files.control ∷ opens ports.Egress files.egress ∷ []) (omega arith, (omega arith, (omega arith, (omega arith, tt))))

pub row_of_five : (files : RunFiles) → IsRow (opens ports.Setup files.setup ∷ opens ports.Capture files.capture ∷ opens ports.Control files.control ∷ opens ports.Egress files.egress ∷ opens ports.Lines files.lines ∷ [])
row_of_five files =
    rising_row 0 (opens ports.Setup files.setup ∷ opens ports.Capture files.capture ∷ opens ports.Control files.control ∷ opens ports.Egress files.egress ∷ opens ports.Lines files.lines ∷ [])
    (omega arith, (omega arith, (omega arith, (omega arith, (omega arith, tt)))))

-- the ports behind the setup
abbrev pub later_ports : RunFiles → List Place
later_ports files =
    opens ports.Capture files.capture ∷ opens ports.Control files.control ∷ opens ports.Egress files.egress ∷ opens ports.Lines files.lines ∷ opens ports.Replies files.replies ∷ []

-- ---- from the run over the bound inputs

one_input : (found : Option (List ℕ)) (a b : List ℕ) → found ≡ Some a → found ≡ Some b → a ≡ b
one_input found a b is_a is_b = cc

never : true ≡ false → ⊥
never e = cc

put_at : (then now : Shown) (part : List ℕ) → now.binds ≡ raised then.binds → now.written ≡ part → PutAt then now part
put_at then now part binds written = inl (binds, written)

-- the three outputs took their bytes of a run
took_all : (files : RunFiles) (tells : Bool) (then now : Port → Shown) (texts : Texts) (out : Outputs) → OpensAll (run_ports files) tells then now → OutsAll now texts
    → texts.egress ≡ out ports.Egress → texts.lines ≡ out ports.Lines → texts.replies ≡ out ports.Replies → TookAll (run_ports files) then now out
took_all files tells then now texts out opened put egress lines replies =
    let at_egress = opened.1.1.1.0 in
    let at_lines = opened.1.1.1.1.0 in
    let at_replies = opened.1.1.1.1.1.0 in (
      (λ output. absurd (never output)),
      (
        (λ output. absurd (never output)),
        (
          (λ output. absurd (never output)),
          (
            (λ output. ((now ports.Egress).written, put_at (then ports.Egress) (now ports.Egress) (now ports.Egress).written at_egress.once refl, put.egress ∙ egress)),
            (
              (λ output. ((now ports.Lines).written, put_at (then ports.Lines) (now ports.Lines) (now ports.Lines).written at_lines.once refl, put.lines ∙ lines)),
              (
                (λ output. ((now ports.Replies).written, put_at (then ports.Replies) (now ports.Replies) (now ports.Replies).written at_replies.once refl, put.replies ∙ replies)),
                tt,
              ),
            ),
          ),
        ),
      ),
    )

took_fronts : (files : RunFiles) (tells : Bool) (then now : Port → Shown) (out : Outputs) → OpensAll (run_ports files) tells then now
    → IsFront (now ports.Egress).written (out ports.Egress) → IsFront (now ports.Lines).written (out ports.Lines) → IsFront (now ports.Replies).written (out ports.Replies) → TookFronts (run_ports files) then now out
took_fronts files tells then now out opened egress lines replies =
    let at_egress = opened.1.1.1.0 in
    let at_lines = opened.1.1.1.1.0 in
    let at_replies = opened.1.1.1.1.1.0 in (
      (λ output. absurd (never output)),
      (
        (λ output. absurd (never output)),
        (
          (λ output. absurd (never output)),
          (
            (λ output. ((now ports.Egress).written, put_at (then ports.Egress) (now ports.Egress) (now ports.Egress).written at_egress.once refl, egress)),
            (
              (λ output. ((now ports.Lines).written, put_at (then ports.Lines) (now ports.Lines) (now ports.Lines).written at_lines.once refl, lines)),
              (
                (λ output. ((now ports.Replies).written, put_at (then ports.Replies) (now ports.Replies) (now ports.Replies).written at_replies.once refl, replies)),
                tt,
              ),
            ),
          ),
        ),
      ),
    )

front_over : (written text whole : List ℕ) → IsFront written text → IsFront text whole → IsFront written whole
front_over written text whole a b = front_of_more written text b.0 whole b.1 a

nothing_front : (written whole : List ℕ) → written ≡ [] → IsFront written whole
nothing_front written whole none = (whole, ap (λ (l : List ℕ). l ++ whole) none)

-- the files under the names are what was bound
pub record HeldAre (files : RunFiles) (held : Files) (mid : Port → Shown) : Type 0 where
  pub capture : held files.capture ≡ Some (capture_of mid)
  pub control : held files.control ≡ Some (control_of mid)

abbrev have_inputs : (files : RunFiles) (held : Files) (mid : Port → Shown) → HeldAre files held mid → HaveInputs files held
have_inputs files held mid are = record { capture = capture_of mid; control = control_of mid; capture_there = are.capture; control_there = are.control }

-- what the outputs took, port by port, is what the three took
all_three : (says : Says Record) (setup : Parts) (now : Port → Shown) (texts : Texts) → PutAll (run_means says setup) now (outputs_of texts) → OutsAll now texts
all_three says setup now texts put = record { egress = put ports.Egress (inl refl); lines = put ports.Lines (inr (inl refl)); replies = put ports.Replies (inr (inr refl)) }

fronts_three : (says : Says Record) (setup : Parts) (now : Port → Shown) (texts : Texts) → PutFronts (run_means says setup) now (outputs_of texts) → OutsFronts now texts
fronts_three says setup now texts put = record { egress = put ports.Egress (inl refl); lines = put ports.Lines (inr (inl refl)); replies = put ports.Replies (inr (inr refl)) }

nothing_all : (says : Says Record) (setup : Parts) (now : Port → Shown) → PutAll (run_means says setup) now none_put → PutAll (run_means says setup) now (outputs_of nothing_more)
nothing_all says setup now put port (inl is) = put port (inl is) ∙ ap none_put is ∙ sym (ap (outputs_of nothing_more) is)
nothing_all says setup now put port (inr (inl is)) = put port (inr (inl is)) ∙ ap none_put is ∙ sym (ap (outputs_of nothing_more) is)
nothing_all says setup now put port (inr (inr is)) = put port (inr (inr is)) ∙ ap none_put is ∙ sym (ap (outputs_of nothing_more) is)

-- what a run writes for the files under the names, it writes for what was bound
bound_writes : (Is : RunOf) (files : RunFiles) (setup : Parts) (held : Files) (mid : Port → Shown) (end : RunEnd) (out : Outputs) (there : HaveInputs files held) → HeldAre files held mid → RunWrites Is setup there.capture there.control end out
    → RunWrites Is setup (capture_of mid) (control_of mid) end out
bound_writes Is files setup held mid end out there are writes =
    let capture : there.capture ≡ capture_of mid = one_input (held files.capture) there.capture (capture_of mid) there.capture_there are.capture in
    let control : there.control ≡ control_of mid = one_input (held files.control) there.control (control_of mid) there.control_there are.control in
    subst (λ (l : List ℕ). RunWrites Is setup l (control_of mid) end out) capture (subst (λ (l : List ℕ). RunWrites Is setup there.capture l end out) control writes)

nothing_took : (files : RunFiles) (tells : Bool) (then now : Port → Shown) → OpensAll (run_ports files) tells then now → OutsAll now nothing_more → TookAll (run_ports files) then now none_put
nothing_took files tells then now opened put = took_all files tells then now nothing_more none_put opened put refl refl refl

took_over : (files : RunFiles) (tells : Bool) (then now : Port → Shown) (texts : Texts) (out : Outputs) → OpensAll (run_ports files) tells then now → OutsFronts now texts → Fronts texts out → TookFronts (run_ports files) then now out
took_over files tells then now texts out opened put before =
    took_fronts files tells then now out opened
    (front_over (now ports.Egress).written texts.egress (out ports.Egress) put.egress before.egress)
    (front_over (now ports.Lines).written texts.lines (out ports.Lines) put.lines before.lines)
    (front_over (now ports.Replies).written texts.replies (out ports.Replies) put.replies before.replies)

-- where of a round one list is said at most, fronts of each run
pub stops_each : OneLog → (says : Says Record) (Is : RunsOf) (files : RunFiles) (setup : Parts) (tells : Bool) (held : Files) (then mid now : Port → Shown) → (AreParts setup → AreRuns setup says (Is setup)) → (AreParts setup → IsOne says (AreOfPeers setup.peers))
    → OpensAll (run_ports files) tells then now → HeldAre files held mid → Stopped (run_means says setup) setup mid now → FileFronts Is TookFrontsOfEach files setup held then now
stops_each one_log says Is files setup tells held then mid now runs one opened are (inl nothing) = inl (nothing_took files tells then now opened (all_three says setup now nothing_more (nothing_all says setup now nothing)))
stops_each one_log says Is files setup tells held then mid now runs one opened are (inr stopped) =
    inr (λ out some.
    let own = bound_writes (Is setup) files setup held mid some.0 out some.1.there are some.1.writes in
    took_over files tells then now (texts_of setup stopped.form stopped.passed stopped.history stopped.log stopped.said) out opened (fronts_three says setup now (texts_of setup stopped.form stopped.passed stopped.history stopped.log stopped.said) stopped.fronts)
    (fronts_of one_log says (Is setup) setup (capture_of mid) (control_of mid) stopped.form stopped.passed stopped.history stopped.log stopped.said some.0 out (runs stopped.so.parts) (one stopped.so.parts) stopped.so own))

-- else fronts of one, where there is any
pub stops_some : OneLog → (says : Says Record) (Is : RunsOf) (files : RunFiles) (setup : Parts) (tells : Bool) (held : Files) (then mid now : Port → Shown) → (AreParts setup → AreRuns setup says (Is setup))
    → OpensAll (run_ports files) tells then now → HeldAre files held mid → Stopped (run_means says setup) setup mid now → FileFronts Is TookFrontsOfSome files setup held then now
stops_some one_log says Is files setup tells held then mid now runs opened are (inl nothing) = inl (nothing_took files tells then now opened (all_three says setup now nothing_more (nothing_all says setup now nothing)))
stops_some one_log says Is files setup tells held then mid now runs opened are (inr stopped) =
    inr (λ out some.
    let own = bound_writes (Is setup) files setup held mid some.0 out some.1.there are some.1.writes in
    let all =
    fronts_of_some one_log says (Is setup) setup (capture_of mid) (control_of mid) stopped.form stopped.passed stopped.history stopped.log stopped.said some.0 out (runs stopped.so.parts) stopped.so own in
    fronts all.0 (some.0, record { there = have_inputs files held mid are; writes = all.1 })
    (took_over files tells then now (texts_of setup stopped.form stopped.passed stopped.history stopped.log stopped.said) all.0 opened (fronts_three says setup now (texts_of setup stopped.form stopped.passed stopped.history stopped.log stopped.said) stopped.fronts) all.2))

-- the outputs took all of what is written, over whatever a reader of both files gets
ends_so : (says : Says Record) (Is : RunsOf) (files : RunFiles) (setup : Parts) (tells : Bool) (held : Files) (then mid now : Port → Shown) (end : RunEnd) (form : Option Form) (whole : Inputs) → OpensAll (run_ports files) tells then now → HeldAre files held mid
    → (AreParts setup → AreRuns setup says (Is setup)) → (x : EndedAt (run_means says setup) setup mid now end) → AreInputs (capture_of mid) (control_of mid) form (numbers setup.peers) whole → FileEnds Is files setup held end then now
ends_so says Is files setup tells held then mid now end form whole opened are runs x read =
    let texts = texts_of setup x.form x.passed x.history x.log x.said in
    let own : AreInputs (capture_of mid) (control_of mid) x.form (numbers setup.peers) whole =
    subst (λ (f : Option Form). AreInputs (capture_of mid) (control_of mid) f (numbers setup.peers) whole) (x.so.form_is form whole read) read in
    record {
      out = outputs_of texts;
      writes = record {
        there = have_inputs files held mid are;
        writes = written_there says (Is setup) setup (capture_of mid) (control_of mid) x.form x.passed x.history x.log x.said end whole (runs x.so.parts) x.so own (x.ends_so form whole read);
      };
      read = x.read;
      took = took_all files tells then now texts (outputs_of texts) opened (all_three says setup now texts x.all) refl refl refl;
    }

ends_refused : (says : Says Record) (Is : RunsOf) (files : RunFiles) (setup : Parts) (tells : Bool) (held : Files) (then mid now : Port → Shown) (end : RunEnd) → OpensAll (run_ports files) tells then now → HeldAre files held mid
    → (AreParts setup → AreRuns setup says (Is setup)) → EndedAt (run_means says setup) setup mid now end → FileRefused Is files setup held end then now
ends_refused says Is files setup tells held then mid now end opened are runs x = record {
  there = have_inputs files held mid are;
  ends = λ form whole read. ends_so says Is files setup tells held then mid now end form whole opened are runs x read;
}

long_input : (files : RunFiles) (held : Files) (mid : Port → Shown) (port : Port) → HeldAre files held mid → IsRead port → 2 ^ 40 < length (mid port).left → HasLongInput files held port
long_input files held mid port are (inl capture) past =
    subst (HasLongInput files held) (sym capture) (record { there = have_inputs files held mid are; past = subst (λ (p : Port). 2 ^ 40 < length (mid p).left) capture past })
long_input files held mid port are (inr control) past =
    subst (HasLongInput files held) (sym control) (record { there = have_inputs files held mid are; past = subst (λ (p : Port). 2 ^ 40 < length (mid p).left) control past })

-- what was done on the bound ports, said from before the binds
pub works_from : (says : Says Record) (Is : RunsOf) (Stops : Stopping) (files : RunFiles) (setup : Parts) (tells : Bool) (held : Files) (then mid now : Port → Shown) (answer : Status) → Opened (run_ports files) tells then mid → NoneBound tells mid now
    → (tells ≡ true → HeldAre files held mid) → (AreParts setup → AreRuns setup says (Is setup)) → (OpensAll (run_ports files) tells then now → HeldAre files held mid → Stopped (run_means says setup) setup mid now → FileFronts Is Stops files setup held then now)
    → StreamWorks (run_means says setup) setup tells mid now answer → FileWorks Is Stops files setup tells held then now answer
works_from says Is Stops files setup tells held then mid now status.Ok was none are runs stops works =
    let opened = opens_stays (run_ports files) tells then mid now none was.all in (
      opened,
      λ told. let x = works told in
          ends_so says Is files setup tells held then mid now ends.Whole x.form (record { frames = x.passed; capture_fault = None; segments = x.history; control_fault = None }) opened (are told) runs x (x.whole refl),
    )
works_from says Is Stops files setup tells held then mid now (status.Capture place reason) was none are runs stops works =
    let opened = opens_stays (run_ports files) tells then mid now none was.all in
    (opened, λ told. ends_refused says Is files setup tells held then mid now (ends.Capture (capture_told place reason)) opened (are told) runs (works told))
works_from says Is Stops files setup tells held then mid now (status.Control place reason) was none are runs stops works =
    let opened = opens_stays (run_ports files) tells then mid now none was.all in
    (opened, λ told. ends_refused says Is files setup tells held then mid now (ends.Control (control_told place reason)) opened (are told) runs (works told))
works_from says Is Stops files setup tells held then mid now (status.Long port) was none are runs stops works =
    let opened = opens_stays (run_ports files) tells then mid now none was.all in
    (works.0, opened, λ told. (long_input files held mid port (are told) works.0 (works.1 told).0, stops opened (are told) (works.1 told).1))
works_from says Is Stops files setup tells held then mid now (status.File port) was none are runs stops works =
    let opened = opens_stays (run_ports files) tells then mid now none was.all in
    (works.0.0, (λ apart told. (capture_of mid, (are told).capture)), λ told. stops opened (are told) (works.1 told))
works_from says Is Stops files setup tells held then mid now status.Memory was none are runs stops works =
    let opened = opens_stays (run_ports files) tells then mid now none was.all in
    λ told. stops opened (are told) (works told)
works_from says Is Stops files setup tells held then mid now status.Words was none are runs stops works = works
works_from says Is Stops files setup tells held then mid now (status.Setup line reason) was none are runs stops works = works
works_from says Is Stops files setup tells held then mid now (status.Records number) was none are runs stops works = works
works_from says Is Stops files setup tells held then mid now (status.Pcapng place reason) was none are runs stops works = works

-- the port of a run under its word
named_port : (files : RunFiles) (port : Port) → IsRunPort port → (name : List ℕ) × HasPort (run_ports files) port name
named_port files port (inl (inl is)) = (files.capture, inr (inl (is, refl)))
named_port files port (inl (inr is)) = (files.control, inr (inr (inl (is, refl))))
named_port files port (inr (inl is)) = (files.egress, inr (inr (inr (inl (is, refl)))))
named_port files port (inr (inr (inl is))) = (files.lines, inr (inr (inr (inr (inl (is, refl))))))
named_port files port (inr (inr (inr is))) = (files.replies, inr (inr (inr (inr (inr (inl (is, refl)))))))

-- where the run fails with File, a count rose
pub fails_from : (says : Says Record) (files : RunFiles) (setup : Parts) (tells : Bool) (then now : Port → Shown) (answer : Status) (port : Port) → StreamWorks (run_means says setup) setup tells then now answer → answer ≡ status.File port → (name : List ℕ) × HasPort (run_ports files) port name × Rose (then port) (now port)
fails_from says files setup tells then now (status.File own) port works is =
    let same : own ≡ port = cc in
    let rose : Rose (then port) (now port) = subst (λ p. Rose (then p) (now p)) same works.0.1 in
    let has = named_port files port (subst IsRunPort same works.0.0) in
    (has.0, has.1, rose)
fails_from says files setup tells then now status.Ok port works is = cc
fails_from says files setup tells then now status.Words port works is = cc
fails_from says files setup tells then now (status.Setup line reason) port works is = cc
fails_from says files setup tells then now (status.Capture place reason) port works is = cc
fails_from says files setup tells then now (status.Control place reason) port works is = cc
fails_from says files setup tells then now status.Memory port works is = cc
fails_from says files setup tells then now (status.Records number) port works is = cc
fails_from says files setup tells then now (status.Long own) port works is = cc
fails_from says files setup tells then now (status.Pcapng place reason) port works is = cc

-- a port outside the row is none of a run's
pub outside_run : (files : RunFiles) (port : Port) → ((name : List ℕ) → HasPort (run_ports files) port name → ⊥) → IsRunPort port → ⊥
outside_run files port outside run = let has = named_port files port run in outside has.0 has.1

-- ---- what the files ask for

asks_of : (setup : Parts) (a b : Option (List ℕ)) (capture control : List ℕ) (wanted : Status) → a ≡ Some capture → b ≡ Some control → InputsAsk setup a b wanted → BothAsk setup capture control wanted
asks_of setup a b capture control wanted is_a is_b asks =
    subst (λ (f : Option (List ℕ)). InputsAsk setup (Some capture) f wanted) is_b (subst (λ (f : Option (List ℕ)). InputsAsk setup f b wanted) is_a asks)

whole_no_capture : (r : CaptureRefusal) → ends.Capture r ≡ ends.Whole → ⊥
whole_no_capture r e = cc

-- an end of a run where the capture alone may be refused, and only ends short
capture_end : (k : ℕ) (c : Option CaptureRefusal) (ss : List Segment) (d : Option ControlRefusal) (r : CaptureRefusal) → d ≡ None → ends.Capture r ≡ end_of k c ss d → c ≡ Some r
capture_end k None ss None r none is = cc
capture_end k (Some e) ss None r none is = let same : r ≡ e = cc in ap Some (sym same)
capture_end k c ss (Some f) r none is = absurd (cc)

capture_no_control : (k : ℕ) (c : Option CaptureRefusal) (ss : List Segment) (d : Option ControlRefusal) (r : ControlRefusal) → d ≡ None → ends.Control r ≡ end_of k c ss d → ⊥
capture_no_control k None ss None r none is = cc
capture_no_control k (Some e) ss None r none is = cc
capture_no_control k c ss (Some f) r none is = cc

control_end : (k : ℕ) (c : Option CaptureRefusal) (ss : List Segment) (d : Option ControlRefusal) (r : ControlRefusal) → c ≡ None → ends.Control r ≡ end_of k c ss d → d ≡ Some r
control_end k None ss None r none is = cc
control_end k None ss (Some f) r none is = let same : r ≡ f = cc in ap Some (sym same)
control_end k (Some e) ss d r none is = absurd (cc)

control_no_capture : (k : ℕ) (c : Option CaptureRefusal) (ss : List Segment) (d : Option ControlRefusal) (r : CaptureRefusal) → c ≡ None → ends.Capture r ≡ end_of k c ss d → ⊥
control_no_capture k None ss None r none is = cc
control_no_capture k None ss (Some f) r none is = cc
control_no_capture k (Some e) ss d r none is = cc

same_ending : (Is : RunOf) (setup : Parts) (capture control : List ℕ) (end : RunEnd) (out : Outputs) (form : Option Form) (whole : Inputs) → RunWrites Is setup capture control end out → AreInputs capture control form (numbers setup.peers) whole → end ≡ ending whole
same_ending Is setup capture control end out form whole writes read =
    let same = one_inputs capture control (numbers setup.peers) writes.form form writes.counts.whole whole writes.counts.read read in
    writes.counts.end_is ∙ ap ending same.1

ended_wanted : (setup : Parts) (capture control : List ℕ) (now : Port → Shown) (end : RunEnd) (whole : Inputs) (wanted : Status) → end ≡ ending whole → WasReadTo capture control now end
    → AsksTheEnd capture control whole wanted ⊎ CaptureIsLong capture control whole wanted ⊎ ControlIsLong capture control whole wanted → status_of_end end ≡ wanted
ended_wanted setup capture control now end whole wanted is read (inl asks) = ap status_of_end is ∙ sym asks.answer_is
ended_wanted setup capture control now ends.Whole whole wanted is read (inr (inl long)) = let past = long.past in let few = read.0 in absurd (omega (arith, past, few))
ended_wanted setup capture control now (ends.Capture r) whole wanted is read (inr (inl long)) =
    let past = long.past in
    let few = read (long.unrefused r (capture_end (length whole.frames) whole.capture_fault whole.segments whole.control_fault r long.control_whole is)) in
    absurd (omega (arith, past, few))
ended_wanted setup capture control now (ends.Control r) whole wanted is read (inr (inl long)) =
    absurd (capture_no_control (length whole.frames) whole.capture_fault whole.segments whole.control_fault r long.control_whole is)
ended_wanted setup capture control now ends.Whole whole wanted is read (inr (inr long)) = let past = long.past in let few = read.1 in absurd (omega (arith, past, few))
ended_wanted setup capture control now (ends.Capture r) whole wanted is read (inr (inr long)) =
    absurd (control_no_capture (length whole.frames) whole.capture_fault whole.segments whole.control_fault r long.capture_whole is)
ended_wanted setup capture control now (ends.Control r) whole wanted is read (inr (inr long)) =
    let past = long.past in
    let few = read (long.unrefused r (control_end (length whole.frames) whole.capture_fault whole.segments whole.control_fault r long.capture_whole is)) in
    absurd (omega (arith, past, few))

ends_wanted : (Is : RunsOf) (files : RunFiles) (setup : Parts) (held : Files) (then now : Port → Shown) (end : RunEnd) (wanted : Status) → FileEnds Is files setup held end then now → InputsAsk setup (held files.capture) (held files.control) wanted → status_of_end end ≡ wanted
ends_wanted Is files setup held then now end wanted x asks =
    let there = x.writes.there in
    let both = asks_of setup (held files.capture) (held files.control) there.capture there.control wanted there.capture_there there.control_there asks in
    ended_wanted setup there.capture there.control now end both.whole wanted (same_ending (Is setup) setup there.capture there.control end x.out both.form both.whole x.writes.writes both.read) x.read both.asks

-- a refusal is said of whatever a reader of both files gets, and what is asked for says what one gets
refused_wanted : (Is : RunsOf) (files : RunFiles) (setup : Parts) (held : Files) (then now : Port → Shown) (end : RunEnd) (wanted : Status) → FileRefused Is files setup held end then now → InputsAsk setup (held files.capture) (held files.control) wanted → status_of_end end ≡ wanted
refused_wanted Is files setup held then now end wanted x asks =
    let there = x.there in
    let both = asks_of setup (held files.capture) (held files.control) there.capture there.control wanted there.capture_there there.control_there asks in
    ends_wanted Is files setup held then now end wanted (x.ends both.form both.whole both.read) asks

long_capture : (capture control : List ℕ) (whole : Inputs) (wanted : Status) → AsksTheEnd capture control whole wanted ⊎ CaptureIsLong capture control whole wanted ⊎ ControlIsLong capture control whole wanted → 2 ^ 40 < length capture → status.Long ports.Capture ≡ wanted
long_capture capture control whole wanted (inl asks) past = let few = asks.capture_within in absurd (omega (arith, past, few))
long_capture capture control whole wanted (inr (inl asks)) past = sym asks.answer_is
long_capture capture control whole wanted (inr (inr asks)) past = let few = asks.capture_within in absurd (omega (arith, past, few))

long_control : (capture control : List ℕ) (whole : Inputs) (wanted : Status) → AsksTheEnd capture control whole wanted ⊎ CaptureIsLong capture control whole wanted ⊎ ControlIsLong capture control whole wanted → 2 ^ 40 < length control → status.Long ports.Control ≡ wanted
long_control capture control whole wanted (inl asks) past = let few = asks.control_within in absurd (omega (arith, past, few))
long_control capture control whole wanted (inr (inl asks)) past = let few = asks.control_within in absurd (omega (arith, past, few))
long_control capture control whole wanted (inr (inr asks)) past = sym asks.answer_is

long_wanted : (files : RunFiles) (setup : Parts) (held : Files) (port : Port) (wanted : Status) → IsRead port → HasLongInput files held port → InputsAsk setup (held files.capture) (held files.control) wanted → status.Long port ≡ wanted
long_wanted files setup held port wanted (inl is) long asks =
    let own : HasLongInput files held ports.Capture = subst (HasLongInput files held) is long in
    let there = own.there in
    let both = asks_of setup (held files.capture) (held files.control) there.capture there.control wanted there.capture_there there.control_there asks in
    ap status.Long is ∙ long_capture there.capture there.control both.whole wanted both.asks own.past
long_wanted files setup held port wanted (inr is) long asks =
    let own : HasLongInput files held ports.Control = subst (HasLongInput files held) is long in
    let there = own.there in
    let both = asks_of setup (held files.capture) (held files.control) there.capture there.control wanted there.capture_there there.control_there asks in
    ap status.Long is ∙ long_control there.capture there.control both.whole wanted both.asks own.past

there_and_absent : (found : Option (List ℕ)) (text : List ℕ) → found ≡ Some text → found ≡ None → ⊥
there_and_absent found text there none = cc

output_is_read : (port own : Port) → port ≡ own → is_input own ≡ false → is_input port ≡ true → ⊥
output_is_read port own is none reads = let e : is_input own ≡ true = subst (λ p. is_input p ≡ true) is reads in cc

control_no_capture_port : ports.Control ≢ ports.Capture
control_no_capture_port e = cc

asks_no_capture : (setup : Parts) (a b : Option (List ℕ)) (wanted : Status) → a ≡ None → InputsAsk setup a b wanted → wanted ≡ status.File ports.Capture
asks_no_capture setup a b wanted none asks = subst (λ (f : Option (List ℕ)). InputsAsk setup f b wanted) none asks

asks_no_control : (setup : Parts) (a b : Option (List ℕ)) (capture : List ℕ) (wanted : Status) → a ≡ Some capture → b ≡ None → InputsAsk setup a b wanted → wanted ≡ status.File ports.Control
asks_no_control setup a b capture wanted there none asks =
    subst (λ (f : Option (List ℕ)). InputsAsk setup (Some capture) f wanted) none (subst (λ (f : Option (List ℕ)). InputsAsk setup f b wanted) there asks)

-- a call failed on an input that is not there
asked_absent : (files : RunFiles) (setup : Parts) (held : Files) (port : Port) (wanted : Status) (name : List ℕ) → HoldsSetup files.setup held setup → HasPort (run_ports files) port name → is_input port ≡ true → held name ≡ None
    → (port ≢ ports.Capture → HasCapture files held) → InputsAsk setup (held files.capture) (held files.control) wanted → status.File port ≡ wanted
asked_absent files setup held port wanted name holds (inl is) input absent capture asks =
    absurd (there_and_absent (held files.setup) holds.text holds.there (subst (λ (n : List ℕ). held n ≡ None) is.1 absent))
asked_absent files setup held port wanted name holds (inr (inl is)) input absent capture asks =
    ap status.File is.0 ∙ sym (asks_no_capture setup (held files.capture) (held files.control) wanted (subst (λ (n : List ℕ). held n ≡ None) is.1 absent) asks)
asked_absent files setup held port wanted name holds (inr (inr (inl is))) input absent capture asks =
    let there = capture (λ e. control_no_capture_port (sym is.0 ∙ e)) in
    ap status.File is.0 ∙ sym (asks_no_control setup (held files.capture) (held files.control) there.0 wanted there.1 (subst (λ (n : List ℕ). held n ≡ None) is.1 absent) asks)
asked_absent files setup held port wanted name holds (inr (inr (inr (inl is)))) input absent capture asks = absurd (output_is_read port ports.Egress is.0 refl input)
asked_absent files setup held port wanted name holds (inr (inr (inr (inr (inl is))))) input absent capture asks = absurd (output_is_read port ports.Lines is.0 refl input)
asked_absent files setup held port wanted name holds (inr (inr (inr (inr (inr (inl is)))))) input absent capture asks = absurd (output_is_read port ports.Replies is.0 refl input)
asked_absent files setup held port wanted name holds (inr (inr (inr (inr (inr (inr none)))))) input absent capture asks = absurd none

-- what both files ask for is the answer of the work behind the setup
works_wanted : (Is : RunsOf) (Stops : Stopping) (files : RunFiles) (setup : Parts) (tells : Bool) (held : Files) (then now : Port → Shown) (answer wanted : Status) → Behaves (run_ports files) tells held then now answer → tells ≡ true → NoneRose then now → answer ≢ status.Memory
    → HoldsSetup files.setup held setup → FileWorks Is Stops files setup tells held then now answer → InputsAsk setup (held files.capture) (held files.control) wanted → answer ≡ wanted
works_wanted Is Stops files setup tells held then now status.Ok wanted behaves told none some holds works asks = ends_wanted Is files setup held then now ends.Whole wanted (works.1 told) asks
works_wanted Is Stops files setup tells held then now (status.Capture place reason) wanted behaves told none some holds works asks =
    refused_wanted Is files setup held then now (ends.Capture (capture_told place reason)) wanted (works.1 told) asks
works_wanted Is Stops files setup tells held then now (status.Control place reason) wanted behaves told none some holds works asks =
    refused_wanted Is files setup held then now (ends.Control (control_told place reason)) wanted (works.1 told) asks
works_wanted Is Stops files setup tells held then now (status.Long port) wanted behaves told none some holds works asks = long_wanted files setup held port wanted works.0 (works.2 told).0 asks
works_wanted Is Stops files setup tells held then now (status.File port) wanted behaves told none some holds works asks =
    let failed = fails_absent (run_ports files) tells held then now port (behaves.fails port refl) none in
    asked_absent files setup held port wanted failed.0 holds failed.1 failed.2.input failed.2.none (λ apart. works.1 apart told) asks
works_wanted Is Stops files setup tells held then now status.Memory wanted behaves told none some holds works asks = absurd (some refl)
works_wanted Is Stops files setup tells held then now status.Words wanted behaves told none some holds works asks = absurd works
works_wanted Is Stops files setup tells held then now (status.Setup line reason) wanted behaves told none some holds works asks = absurd works
works_wanted Is Stops files setup tells held then now (status.Records number) wanted behaves told none some holds works asks = absurd works
works_wanted Is Stops files setup tells held then now (status.Pcapng place reason) wanted behaves told none some holds works asks = absurd works

-- what the files ask for is the answer, where no call failed and memory was there
pub asked_is_answered : (Is : RunsOf) (Stops : Stopping) (files : RunFiles) (tells : Bool) (held : Files) (then now : Port → Shown) (answer wanted : Status) → FileAnswers Is Stops files tells held then now answer → Behaves (run_ports files) tells held then now answer
    → FileWants files held wanted → tells ≡ true → NoneRose then now → answer ≢ status.Memory → answer ≡ wanted
asked_is_answered Is Stops files tells held then now answer wanted runs behaves wants told none some =
    wanted_on_setup (λ setup asked. InputsAsk setup (held files.capture) (held files.control) asked) (λ setup. FileWorks Is Stops files setup tells held then now answer) files.setup (later_ports files) tells held then now answer wanted (run_row files)
    (λ setup holds works asks. works_wanted Is Stops files setup tells held then now answer wanted behaves told none some holds works asks)
    runs behaves wants told none some

-- an answer to words of the command is no refusal of the words
pub served : (Is : RunsOf) (Stops : Stopping) (files : RunFiles) (tells : Bool) (held : Files) (then now : Port → Shown) (answer : Status) → FileAnswers Is Stops files tells held then now answer → answer ≡ status.Words → ⊥
served Is Stops files tells held then now answer runs refused =
    never_words_on_setup (λ setup. FileWorks Is Stops files setup tells held then now status.Words) files.setup tells held then now (λ setup works. works)
    (subst (λ (s : Status). FileAnswers Is Stops files tells held then now s) refused runs)
