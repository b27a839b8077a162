-- From the conversion on the bound ports and the counts on Report to what the command says.
use Rattle.std.proofs.Common.{◌≡◌, ◌≢◌, inl, inr, ℕ, zero, suc, ◌^◌, ◌<◌, ◌≤◌, Bool, true, false, List, [], ◌∷◌, ◌++◌, get_or, length, Option, Some, None, codes, decimal, refl, sym, ap, ◌∙◌, subst, append-nil, arith}
use Rattle.std.specs.Prelude.{IfSome}
use Rattle.std.proofs.lemmas.Fmt.{decimal_digit, decimal_injective, first_decimal}
use Rattle.sfc_desk.specs.declared.ports.Port.{Port}
use Rattle.sfc_desk.specs.declared.ports.Port.TheVariants as ports
use Rattle.sfc_desk.specs.Desks.{Shown, Files, Rose, Moves, raised}
use Rattle.sfc_desk.specs.Ports.{is_input}
use Rattle.pcapng_io.specs.declared.frames.NgFrame.{NgFrame}
use Rattle.commands.specs.declared.statuses.Status.{Status}
use Rattle.commands.specs.declared.statuses.Status.TheVariants as status
use Rattle.commands.specs.Fronts.{IsFront, IsFrontBehind}
use Rattle.commands.specs.Openings.{Opened}
use Rattle.commands.specs.Outputs.{Outputs, TookAll, TookFronts}
use Rattle.commands.specs.Pieces.{NoneBound, SameCounts}
use Rattle.commands.specs.Places.{HasPort, IsRow}
use Rattle.commands.proofs.PlaceLemmas.{opens_stays}
use Rattle.setup_inputs.proofs.MoveLemmas.{none_bound_on}
use Rattle.frame_streams.specs.Streams.{FileWritesSome, StreamFronts, StreamRuns}
use Rattle.frame_streams.specs.Turning.{Converts, Counts, FrontOfAll, IsEither, Works}
use Rattle.frame_streams.proofs.TurningLemmas.{counts_later}
use Rattle.from_pcapng_command.specs.declared.capture_makers.CaptureMaker.{CaptureMaker}
use Rattle.from_pcapng_command.specs.FromPcapngCommand.{FromPcapng, FromPcapngRuns, FromPcapngWrites, FromWrites, IsFromPcapng, Makes, chosen_of, count_line, counts_of, from_pcapng_ports, interface_word, skipped_of}
use Rattle.from_pcapng_command.specs.FromPcapngSteps.{FromWorks, IsAtRest, IsOwn, MakesCapture, ReportsCounts, TookFrontsOf, Turns}
use Rattle.from_pcapng_command.proofs.OneCaptureLemmas.{one_capture, one_end}
use Rattle.from_pcapng_command.proofs.ReadingLemmas.{rest_gave}

-- ---- the row

source_is_not_made : ports.Source ≢ ports.Made
source_is_not_made e = cc

source_is_no_report : ports.Source ≢ ports.Report
source_is_no_report e = cc

made_is_no_report : ports.Made ≢ ports.Report
made_is_no_report e = cc

never : true ≡ false → ⊥
never e = cc

pub three_row : (said : FromPcapng) → IsRow (from_pcapng_ports said)
three_row said = (
  (λ other has. elim has [ inl is ↦ source_is_not_made is.0 | inr later ↦ elim later [ inl is ↦ source_is_no_report is.0 | inr none ↦ none ] ]),
  ((λ other has. elim has [ inl is ↦ made_is_no_report is.0 | inr none ↦ none ]), ((λ other has. has), tt)),
)

no_output : (port own : Port) → port ≡ own → is_input own ≡ false → is_input port ≡ true → ⊥
no_output port own is denied holds = never (sym holds ∙ (ap is_input is ∙ denied))

-- the one input of it
pub one_source : (said : FromPcapng) (own : Port) (word : List ℕ) → HasPort (from_pcapng_ports said) own word → is_input own ≡ true → (own ≡ ports.Source) × (word ≡ said.source)
one_source said own word (inl is) holds = is
one_source said own word (inr (inl is)) holds = absurd (no_output own ports.Made is.0 refl holds)
one_source said own word (inr (inr (inl is))) holds = absurd (no_output own ports.Report is.0 refl holds)
one_source said own word (inr (inr (inr none))) holds = absurd none

-- ---- what the words say

said_with : List ℕ → Option ℕ → List ℕ → FromPcapng
said_with source interface made = record { source = source; interface = interface; made = made }

star_is_no_number : (n : ℕ) → n < 2 ^ 32 → codes "*" ≡ decimal n → ⊥
star_is_no_number zero few e =
    let first : 42 ≡ 48 = ap (λ (word : List ℕ). get_or word 0 0) (e ∙ decimal_digit 0 (omega arith)) in absurd (omega (arith, first))
star_is_no_number (suc n) few e =
    let first : 42 ≡ get_or (decimal (suc n)) 0 0 = ap (λ (word : List ℕ). get_or word 0 0) e in
    let above = first_decimal (suc n) (omega arith) (omega (arith, few)) in
    absurd (omega (arith, first, above))

one_interface : (a b : Option ℕ) → IfSome a (λ n. n < 2 ^ 32) → IfSome b (λ n. n < 2 ^ 32) → interface_word a ≡ interface_word b → a ≡ b
one_interface None None fa fb e = refl
one_interface None (Some n) fa fb e = absurd (star_is_no_number n fb e)
one_interface (Some n) None fa fb e = absurd (star_is_no_number n fa (sym e))
one_interface (Some m) (Some n) fa fb e = ap Some (decimal_injective m n (omega (arith, fa)) (omega (arith, fb)) e)

pub one_said : (words : List (List ℕ)) (a b : FromPcapng) → IsFromPcapng words a → IsFromPcapng words b → a ≡ b
unfolding said_with
one_said words a b is_a is_b =
    let same : codes "from-pcapng" ∷ a.source ∷ interface_word a.interface ∷ a.made ∷ [] ≡ codes "from-pcapng" ∷ b.source ∷ interface_word b.interface ∷ b.made ∷ [] = sym is_a.spelled ∙ is_b.spelled in
    let source : a.source ≡ b.source = cc in
    let word : interface_word a.interface ≡ interface_word b.interface = cc in
    let made : a.made ≡ b.made = cc in
    let interface : a.interface ≡ b.interface = one_interface a.interface b.interface is_a.range is_b.range word in
    ap (λ name. said_with name a.interface a.made) source
    ∙ (ap (λ (i : Option ℕ). said_with b.source i a.made) interface ∙ ap (λ name. said_with b.source b.interface name) made)

-- ---- what the outputs took

-- these bytes at Made and these at Report
abbrev out_of : List ℕ → List ℕ → Outputs
out_of made text ports.Report = text
out_of made text _ = made

took_all : (said : FromPcapng) (then now : Port → Shown) (text : List ℕ) → (now ports.Made).binds ≡ raised (then ports.Made).binds → (now ports.Report).written ≡ (then ports.Report).written ++ text → TookAll (from_pcapng_ports said) then now (out_of (now ports.Made).written text)
took_all said then now text once reported = ((λ out. absurd (never out)), ((λ out. ((now ports.Made).written, inl (once, refl), refl)), ((text, reported, refl), tt)))

same_input : (found : Option (List ℕ)) (a b : List ℕ) → found ≡ Some a → found ≡ Some b → a ≡ b
same_input found a b is_a is_b = cc

took_fronts : (said : FromPcapng) (found : Option (List ℕ)) (whole : List ℕ) (then mid now : Port → Shown) → (now ports.Made).binds ≡ raised (then ports.Made).binds → mid ports.Report ≡ then ports.Report → found ≡ Some whole → (mid ports.Source).left ≡ whole → TookFrontsOf said.interface mid now
    → StreamFronts (from_pcapng_ports said) (FromPcapngWrites said.interface) found then now
took_fronts said found whole then mid now once same there is took = inr (λ all some.
    let input : some.1.input ≡ (mid ports.Source).left = same_input found some.1.input whole some.1.there there ∙ sym is in
    let w : FromPcapngWrites said.interface (mid ports.Source).left some.0 all = subst (λ (l : List ℕ). FromPcapngWrites said.interface l some.0 all) input some.1.writes in
    let report = took.1 some.0 (all ports.Made) w.writes in (
      (λ out. absurd (never out)),
      (
        (λ out. ((now ports.Made).written, inl (once, refl), took.0 some.0 (all ports.Made) w.writes)),
        (
          (report.0, report.1 ∙ ap (λ (s : Shown). s.written ++ report.0) same, (report.2.0, report.2.1 ∙ sym w.counts)),
          tt,
        ),
      ),
    ))

-- ---- what each answer says

-- what was done on the bound ports, said from before the binds
pub runs_from : (said : FromPcapng) (tells : Bool) (held : Files) (then mid now : Port → Shown) (answer : Status) → Opened (from_pcapng_ports said) tells then mid → mid ports.Report ≡ then ports.Report → (tells ≡ true → held said.source ≡ Some (mid ports.Source).left) → MakesCapture said.interface tells mid now answer → FromPcapngRuns said tells held then now answer
runs_from said tells held then mid now status.Ok was same there done =
    let all = opens_stays (from_pcapng_ports said) tells then mid now done.none_bound was.all in (
      all,
      λ told. let works = done.works told in
          let text : List ℕ = counts_of said.interface works.0.0.frames status.Ok in (
            record {
              out = out_of (now ports.Made).written text;
              writes = record { input = (mid ports.Source).left; there = there told; writes = record { writes = works.0.0; counts = refl } };
              within = λ end. works.1;
              took = took_all said then now text all.1.0.once (works.0.1 ∙ ap (λ (s : Shown). s.written ++ text) same);
            },
            works.2,
          ),
    )
runs_from said tells held then mid now (status.Pcapng place reason) was same there done =
    let all = opens_stays (from_pcapng_ports said) tells then mid now done.none_bound was.all in (
      all,
      λ told. let works = done.works told in record {
        out = out_of (now ports.Made).written [];
        writes = record { input = (mid ports.Source).left; there = there told; writes = record { writes = works.0; counts = refl } };
        within = works.1;
        took = took_all said then now [] all.1.0.once (works.2 ∙ (ap (λ (s : Shown). s.written) same ∙ sym (append-nil (then ports.Report).written)));
      },
    )
runs_from said tells held then mid now (status.Long port) was same there done =
    let all = opens_stays (from_pcapng_ports said) tells then mid now done.none_bound was.all in (
      done.counts.0,
      all,
      λ told. let works = done.works told in (
        record { input = (mid ports.Source).left; there = there told; past = works.0 },
        took_fronts said (held said.source) (mid ports.Source).left then mid now all.1.0.once same (there told) refl works.1,
      ),
    )
runs_from said tells held then mid now (status.File port) was same there done =
    let all = opens_stays (from_pcapng_ports said) tells then mid now done.none_bound was.all in
    λ told. took_fronts said (held said.source) (mid ports.Source).left then mid now all.1.0.once same (there told) refl (done.works told)
runs_from said tells held then mid now status.Memory was same there done =
    let all = opens_stays (from_pcapng_ports said) tells then mid now done.none_bound was.all in
    λ told. took_fronts said (held said.source) (mid ports.Source).left then mid now all.1.0.once same (there told) refl (done.works told)
runs_from said tells held then mid now status.Words was same there done = done.counts
runs_from said tells held then mid now (status.Setup number reason) was same there done = done.counts
runs_from said tells held then mid now (status.Capture place reason) was same there done = (
  opens_stays (from_pcapng_ports said) tells then mid now done.none_bound was.all,
  λ told. absurd (done.works told),
)
runs_from said tells held then mid now (status.Control place reason) was same there done = done.counts
runs_from said tells held then mid now (status.Records number) was same there done = done.counts

-- the port of a failed call, by its name
pub fails_from : (said : FromPcapng) (then now : Port → Shown) (port : Port) → IsOwn port × Rose (then port) (now port) → (word : List ℕ) × HasPort (from_pcapng_ports said) port word × Rose (then port) (now port)
fails_from said then now port (inl is, rose) = (said.source, inl (is, refl), rose)
fails_from said then now port (inr (inl is), rose) = (said.made, inr (inl (is, refl)), rose)
fails_from said then now port (inr (inr is), rose) = ([], inr (inr (inl (is, refl))), rose)

-- ---- the conversion did not end well

nothing_behind : (then now : Shown) (text : List ℕ) → now ≡ then → IsFrontBehind then.written now.written text
nothing_behind then now text same = ([], ap (λ (s : Shown). s.written) same ∙ sym (append-nil then.written), (text, refl))

took_none : (interface : Option ℕ) (then now : Port → Shown) → now ports.Report ≡ then ports.Report → FrontOfAll (FromWrites interface) (then ports.Source).left (now ports.Made).written → TookFrontsOf interface then now
took_none interface then now same front = (front, λ answer made w. nothing_behind (then ports.Report) (now ports.Report) (counts_of interface w.frames answer) same)

works_kept : (interface : Option ℕ) (then now : Port → Shown) (answer : Status) → now ports.Report ≡ then ports.Report → answer ≢ status.Ok → Works (FromWrites interface) ports.Source ports.Made then now answer → FromWorks interface then now answer
works_kept interface then now status.Ok same other works = absurd (other refl)
works_kept interface then now (status.Capture place reason) same other works = absurd works.0.ends
works_kept interface then now (status.Pcapng place reason) same other works = (works.0, works.1, ap (λ (s : Shown). s.written) same)
works_kept interface then now (status.Long port) same other works = (works.0, took_none interface then now same works.1)
works_kept interface then now (status.File port) same other works = took_none interface then now same works
works_kept interface then now status.Memory same other works = took_none interface then now same works
works_kept interface then now status.Words same other works = works
works_kept interface then now (status.Setup number reason) same other works = works
works_kept interface then now (status.Control place reason) same other works = works
works_kept interface then now (status.Records number) same other works = works

either_own : (port : Port) → IsEither ports.Source ports.Made port → IsOwn port
either_own port (inl is) = inl is
either_own port (inr is) = inr (inl is)

report_is_no_source : ports.Report ≢ ports.Source
report_is_no_source e = cc

report_is_no_made : ports.Report ≢ ports.Made
report_is_no_made e = cc

pub stops_says : (interface : Option ℕ) (tells : Bool) (then now : Port → Shown) (answer : Status) → answer ≢ status.Ok → Converts (FromWrites interface) ports.Source ports.Made tells then now answer → MakesCapture interface tells then now answer
stops_says interface tells then now answer other converts = record {
  works = λ told. works_kept interface then now answer (converts.others ports.Report report_is_no_source report_is_no_made) other (converts.works told);
  counts = counts_later (IsEither ports.Source ports.Made) IsOwn (λ port. port ≡ ports.Source) (λ port. port ≡ ports.Source) then then now answer either_own (λ port is. is) (λ port. refl) converts.counts;
  none_bound = converts.none_bound;
  others = λ port outside. converts.others port (λ is. outside (inl is)) (λ is. outside (inr (inl is)));
}

-- ---- it ended well, and the counts were written

same_line : (interface : Option ℕ) (maker : CaptureMaker) (taken made : List ℕ) (frames : List NgFrame) → (t : Turns maker taken made) → maker.interface ≡ interface → t.given ≡ frames → count_line maker.chosen maker.skipped ≡ counts_of interface frames status.Ok
same_line interface maker taken made frames t asked given =
    let chosen : maker.chosen ≡ length (chosen_of interface frames) = t.chosen ∙ (ap (λ (i : Option ℕ). length (chosen_of i t.given)) asked ∙ ap (λ (l : List NgFrame). length (chosen_of interface l)) given) in
    let skipped : maker.skipped ≡ length (skipped_of interface frames) = t.skipped ∙ (ap (λ (i : Option ℕ). length (skipped_of i t.given)) asked ∙ ap (λ (l : List NgFrame). length (skipped_of interface l)) given) in
    ap (λ n. count_line n maker.skipped) chosen ∙ ap (λ n. count_line (length (chosen_of interface frames)) n) skipped

-- all that is written for the input is the one capture, and the one line
whole_front : (interface : Option ℕ) (input made : List ℕ) → FromWrites interface input status.Ok made → FrontOfAll (FromWrites interface) input made
whole_front interface input made w = λ answer all other. let one = one_capture interface input made all status.Ok answer w other in ([], append-nil made ∙ one.1)

one_line : (interface : Option ℕ) (input made made' line : List ℕ) (answer : Status) → (w : FromWrites interface input status.Ok made) → (other : FromWrites interface input answer made') → line ≡ counts_of interface w.frames status.Ok → line ≡ counts_of interface other.frames answer
one_line interface input made made' line answer w other is =
    let one = one_end input w.frames other.frames status.Ok answer w.ends other.ends in
    is ∙ (ap (λ (l : List NgFrame). counts_of interface l status.Ok) one.0 ∙ ap (counts_of interface other.frames) one.1)

front_same : (before now line text : List ℕ) → line ≡ text → IsFrontBehind before now line → IsFrontBehind before now text
front_same before now line text is front = subst (λ l. IsFrontBehind before now l) is front

reports_counts : (chosen skipped : ℕ) (tells : Bool) (had has : Files) (then now : Port → Shown) (answer : Status) → ReportsCounts chosen skipped tells then now answer → Moves tells ports.Report had has then now → Counts (λ port. port ≡ ports.Report) (λ _. ⊥) then now answer
reports_counts chosen skipped tells had has then now status.Ok reports moves = reports.0
reports_counts chosen skipped tells had has then now (status.File port) reports moves = record {
  own = reports.0;
  rose = reports.1;
  others = λ other differs. ap (λ (s : Shown). s.faults) (moves.elsewhere other (λ is. differs (is ∙ sym reports.0)));
}
reports_counts chosen skipped tells had has then now status.Memory reports moves = reports.0
reports_counts chosen skipped tells had has then now status.Words reports moves = reports
reports_counts chosen skipped tells had has then now (status.Setup number reason) reports moves = reports
reports_counts chosen skipped tells had has then now (status.Capture place reason) reports moves = absurd reports
reports_counts chosen skipped tells had has then now (status.Pcapng place reason) reports moves = absurd reports
reports_counts chosen skipped tells had has then now (status.Control place reason) reports moves = reports
reports_counts chosen skipped tells had has then now (status.Records number) reports moves = reports
reports_counts chosen skipped tells had has then now (status.Long port) reports moves = absurd reports

-- what is known once the conversion ended well, where Source and Made stay as they are
record Converted (interface : Option ℕ) (then mid now : Port → Shown) (line : List ℕ) : Type 0 where
  pub writes : FromWrites interface (then ports.Source).left status.Ok (now ports.Made).written
  pub line_is : line ≡ counts_of interface writes.frames status.Ok
  pub within : length (then ports.Source).left ≤ 2 ^ 40
  pub read : (now ports.Source).left ≡ []
  pub report : mid ports.Report ≡ then ports.Report

works_told : (interface : Option ℕ) (chosen skipped : ℕ) (tells : Bool) (then mid now : Port → Shown) (answer : Status) → tells ≡ true → Converted interface then mid now (count_line chosen skipped) → ReportsCounts chosen skipped tells mid now answer → FromWorks interface then now answer
works_told interface chosen skipped tells then mid now status.Ok told c reports =
    let text : List ℕ = count_line chosen skipped in
    ((c.writes, reports.1 told ∙ (ap (λ (s : Shown). s.written ++ text) c.report ∙ ap (λ l. (then ports.Report).written ++ l) c.line_is)), c.within, c.read)
works_told interface chosen skipped tells then mid now (status.File port) told c reports = (
  whole_front interface (then ports.Source).left (now ports.Made).written c.writes,
  λ answer made other. front_same (then ports.Report).written (now ports.Report).written (count_line chosen skipped) (counts_of interface other.frames answer)
      (one_line interface (then ports.Source).left (now ports.Made).written made (count_line chosen skipped) answer c.writes other c.line_is)
      (subst (λ (s : Shown). IsFrontBehind s.written (now ports.Report).written (count_line chosen skipped)) c.report (reports.2 told)),
)
works_told interface chosen skipped tells then mid now status.Memory told c reports = (
  whole_front interface (then ports.Source).left (now ports.Made).written c.writes,
  λ answer made other. ([], reports.1 told ∙ (ap (λ (s : Shown). s.written) c.report ∙ sym (append-nil (then ports.Report).written)), (counts_of interface other.frames answer, refl)),
)
works_told interface chosen skipped tells then mid now status.Words told c reports = reports
works_told interface chosen skipped tells then mid now (status.Setup number reason) told c reports = reports
works_told interface chosen skipped tells then mid now (status.Capture place reason) told c reports = reports
works_told interface chosen skipped tells then mid now (status.Pcapng place reason) told c reports = absurd reports
works_told interface chosen skipped tells then mid now (status.Control place reason) told c reports = reports
works_told interface chosen skipped tells then mid now (status.Records number) told c reports = reports
works_told interface chosen skipped tells then mid now (status.Long port) told c reports = absurd reports

converted : (interface : Option ℕ) (tells : Bool) (had has : Files) (then mid now : Port → Shown) (maker : CaptureMaker) → tells ≡ true → maker.interface ≡ interface → Converts (FromWrites interface) ports.Source ports.Made tells then mid status.Ok → Turns maker (then ports.Source).left (mid ports.Made).written → IsAtRest maker → Moves tells ports.Report had has mid now
    → Converted interface then mid now (count_line maker.chosen maker.skipped)
converted interface tells had has then mid now maker told asked converts t rest moves =
    let works = converts.works told in
    let w : FromWrites interface (then ports.Source).left status.Ok (mid ports.Made).written = works.0 in
    let made : now ports.Made ≡ mid ports.Made = moves.elsewhere ports.Made made_is_no_report in
    let source : now ports.Source ≡ mid ports.Source = moves.elsewhere ports.Source source_is_no_report in
    record {
      writes = record { frames = w.frames; makes = subst (λ (s : Shown). Makes interface (then ports.Source).left w.frames s.written) (sym made) w.makes; ends = w.ends };
      line_is = same_line interface maker (then ports.Source).left (mid ports.Made).written w.frames t asked (rest_gave maker.feed (then ports.Source).left t.given w.frames None t.stands rest.held w.ends);
      within = works.1;
      read = ap (λ (s : Shown). s.left) source ∙ works.2;
      report = converts.others ports.Report report_is_no_source report_is_no_made;
    }

pub ends_says : (interface : Option ℕ) (tells : Bool) (had has : Files) (then mid now : Port → Shown) (maker : CaptureMaker) (answer : Status) → maker.interface ≡ interface → Converts (FromWrites interface) ports.Source ports.Made tells then mid status.Ok → (tells ≡ true → Turns maker (then ports.Source).left (mid ports.Made).written) → IsAtRest maker
    → ReportsCounts maker.chosen maker.skipped tells mid now answer → Moves tells ports.Report had has mid now → MakesCapture interface tells then now answer
ends_says interface tells had has then mid now maker answer asked converts turned rest reports moves = record {
  works = λ told. works_told interface maker.chosen maker.skipped tells then mid now answer told (converted interface tells had has then mid now maker told asked converts (turned told) rest moves) reports;
  counts = counts_later (λ port. port ≡ ports.Report) IsOwn (λ _. ⊥) (λ port. port ≡ ports.Source) then mid now answer (λ port is. inr (inr is)) (λ port none. absurd none) converts.counts
      (reports_counts maker.chosen maker.skipped tells had has mid now answer reports moves);
  none_bound = none_bound_on tells ports.Report had has then mid now converts.none_bound moves;
  others = λ port outside.
      moves.elsewhere port (λ is. outside (inr (inr is)))
      ∙ converts.others port (λ is. outside (inl is)) (λ is. outside (inr (inl is)));
}
