-- The facts of `show`: what its words say is determined, each answer has its cause, and causes exclude each other; and
-- from the work on the bound source to what the answers say.
use Rattle.std.proofs.Common.{◌≡◌, ◌≢◌, inl, inr, ℕ, Bool, true, false, List, [], ◌∷◌, ◌++◌, append-nil, get_or, None, codes, refl, sym, ap, ◌∙◌, subst, arith, Some}
use Rattle.sfc_desk.specs.declared.ports.Port.{Port}
use Rattle.sfc_desk.specs.declared.ports.Port.TheVariants as ports
use Rattle.sfc_desk.specs.Desks.{Shown, Files, Rose}
use Rattle.sfc_desk.specs.Ports.{is_input}
use Rattle.commands.specs.declared.statuses.Status.{Status}
use Rattle.commands.specs.declared.statuses.Status.TheVariants.{Ok, Words, File, Setup, Capture, Control, Memory, Records, Long, Pcapng}
use Rattle.commands.specs.Commands.{Behaves, NoneRose}
use Rattle.commands.specs.Openings.{Opened}
use Rattle.commands.specs.Pieces.{NoneBound}
use Rattle.commands.specs.Places.{HasPort, IsRow}
use Rattle.commands.proofs.CommandLemmas.{Laws, asks_once, asks_absent, asks_long, asks_judged, fails_absent}
use Rattle.commands.proofs.PlaceLemmas.{opens_stays}
use Rattle.show_command.specs.declared.show_words.Format.{Format}
use Rattle.show_command.specs.declared.show_words.Format.TheVariants.{Nsh, Bgp}
use Rattle.show_command.specs.ShowCommand.{Show, IsShow, Shows, ShowRuns, ShowWants, ShowFronts, fronts, SourceAsks, show_ports, format_word}
use Rattle.show_command.specs.ShowSteps.{ShowWorks, ReportedFront, input_of}

nsh_is_not_bgp : codes "nsh" ≡ codes "bgp" → ⊥
nsh_is_not_bgp e = let first : 110 ≡ 98 = ap (λ word. get_or word 0 0) e in absurd (omega (arith, first))

-- a word names one format
one_format : (f g : Format) → format_word f ≡ format_word g → f ≡ g
one_format Nsh Nsh e = refl
one_format Nsh Bgp e = absurd (nsh_is_not_bgp e)
one_format Bgp Nsh e = absurd (nsh_is_not_bgp (sym e))
one_format Bgp Bgp e = refl

-- what words say is a format and a source
one_said : (a b : Show) → a.format ≡ b.format → a.source ≡ b.source → a ≡ b
one_said a b format source = ap (λ f. record { format = f; source = a.source }) format ∙ ap (λ s. record { format = b.format; source = s }) source

-- words are those of one command
one_show : (words : List (List ℕ)) (a b : Show) → IsShow words a → IsShow words b → a ≡ b
one_show words a b is_a is_b =
    let same : codes "show" ∷ format_word a.format ∷ a.source ∷ [] ≡ codes "show" ∷ format_word b.format ∷ b.source ∷ [] = sym is_a.spelled ∙ is_b.spelled in
    let word : format_word a.format ≡ format_word b.format = cc in
    let source : a.source ≡ b.source = cc in
    let format : a.format ≡ b.format = one_format a.format b.format word in
    one_said a b format source

never : true ≡ false → ⊥
never e = cc

source_is_no_report : ports.Source ≢ ports.Report
source_is_no_report e = cc

-- the two ports differ
pub show_row : (show : Show) → IsRow (show_ports show)
show_row show = ((λ other has. elim has [ inl is ↦ source_is_no_report is.0 | inr none ↦ none ]), ((λ other has. has), tt))

report_is_read : (port : Port) → port ≡ ports.Report → is_input port ≡ true → ⊥
report_is_read port is reads = let e : is_input ports.Report ≡ true = subst (λ p. is_input p ≡ true) is reads in cc

-- each answer has its cause, where no call failed and memory was there
caused : (show : Show) (tells : Bool) (held : Files) (then now : Port → Shown) (answer : Status) → ShowRuns show tells held then now answer → Behaves (show_ports show) tells held then now answer → tells ≡ true → NoneRose then now → answer ≢ Memory → ShowWants show held answer
caused show tells held then now Ok runs behaves told none some =
    let ends = runs.1 told in asks_judged _ _ SourceAsks _ ends.writes.input Ok ends.writes.there ends.within refl
caused show tells held then now (Long port) runs behaves told none some =
    let long = (runs.2 told).0 in
    subst (λ p. ShowWants show held (Long p)) (sym runs.0) (asks_long ports.Source _ SourceAsks _ long.input long.there long.past)
caused show tells held then now (File port) runs behaves told none some =
    let failed = fails_absent (show_ports show) tells held then now port (behaves.fails port refl) none in
    elim (failed.1) [
      | inl source ↦
          subst (λ p. ShowWants show held (File p)) (sym source.0)
          (asks_absent ports.Source _ SourceAsks _ (subst (λ (name : List ℕ). held name ≡ None) source.1 failed.2.none))
      | inr later ↦ elim later [ inl report ↦ absurd (report_is_read port report.0 failed.2.input) | inr nowhere ↦ absurd nowhere ]
    ]
caused show tells held then now Memory runs behaves told none some = absurd (some refl)
caused show tells held then now Words runs behaves told none some = absurd runs
caused show tells held then now (Capture place reason) runs behaves told none some = absurd runs
caused show tells held then now (Setup number reason) runs behaves told none some = absurd runs
caused show tells held then now (Control place reason) runs behaves told none some = absurd runs
caused show tells held then now (Records number) runs behaves told none some = absurd runs
caused show tells held then now (Pcapng place reason) runs behaves told none some = absurd runs

pub show_laws : Laws IsShow show_ports ShowRuns ShowWants
show_laws = record {
  one = one_show;
  never_words = λ show tells held then now runs. runs;
  caused = caused;
  exclusive = λ show held a b. asks_once ports.Source _ SourceAsks (held show.source) a b (λ input c d is_c is_d. is_c ∙ sym is_d);
}

some_injective : {x y : List ℕ} → Some x ≡ Some y → x ≡ y
some_injective e = cc

-- what Report took is a front of what is written for the source
took_front : (show : Show) (held : Files) (input : List ℕ) (then mid now : Port → Shown) → mid ports.Report ≡ then ports.Report → held show.source ≡ Some input → ReportedFront show.format input (mid ports.Report) (now ports.Report) → ShowFronts show held then now
took_front show held input then mid now same there each =
    fronts input there (λ out writes.
    let one : writes.input ≡ input = some_injective (sym writes.there ∙ there) in
    let front = each (out ports.Report) (subst (λ (i : List ℕ). Shows show.format i (out ports.Report)) one writes.shows) in
    ((λ o. absurd (never o)), ((front.0, front.1 ∙ ap (λ s. s.written ++ front.0) same, front.2), tt)))

-- what was done on the bound source, said from before the bind
pub runs_from : (show : Show) (tells : Bool) (held : Files) (then mid now : Port → Shown) (answer : Status) → Opened (show_ports show) tells then mid → mid ports.Report ≡ then ports.Report → NoneBound tells mid now → (tells ≡ true → held show.source ≡ Some (input_of mid)) → ShowWorks show.format tells mid now answer → ShowRuns show tells held then now answer
runs_from show tells held then mid now Ok was same none there works = (
  opens_stays (show_ports show) tells then mid now none was.all,
  λ told. let done = works told in record {
    out = λ port. done.2.0;
    writes = record { input = input_of mid; there = there told; shows = done.2.1 };
    within = done.0;
    read_whole = done.1;
    took = ((λ out. absurd (never out)), ((done.2.0, done.2.2 ∙ ap (λ s. s.written ++ done.2.0) same, refl), tt));
  },
)
runs_from show tells held then mid now (Long port) was same none there works = (
  works.0,
  opens_stays (show_ports show) tells then mid now none was.all,
  λ told. let long = works.1 told in (
    record { input = input_of mid; there = there told; past = long.0 },
    took_front show held (input_of mid) then mid now same (there told) long.1,
  ),
)
runs_from show tells held then mid now (File port) was same none there works =
    λ told. took_front show held (input_of mid) then mid now same (there told) (works.1 told)
runs_from show tells held then mid now Memory was same none there works =
    λ told. took_front show held (input_of mid) then mid now same (there told) (works told)
runs_from show tells held then mid now Words was same none there works = works
runs_from show tells held then mid now (Capture place reason) was same none there works = works
runs_from show tells held then mid now (Setup number reason) was same none there works = works
runs_from show tells held then mid now (Control place reason) was same none there works = works
runs_from show tells held then mid now (Records number) was same none there works = works
runs_from show tells held then mid now (Pcapng place reason) was same none there works = works

-- where the work fails with File, a count rose
pub fails_from : (show : Show) (tells : Bool) (then now : Port → Shown) (answer : Status) (port : Port) → ShowWorks show.format tells then now answer → answer ≡ File port → (name : List ℕ) × HasPort (show_ports show) port name × Rose (then port) (now port)
fails_from show tells then now (File own) port works is =
    let same : own ≡ port = cc in
    let rose : Rose (then port) (now port) = subst (λ p. Rose (then p) (now p)) same works.0.1 in
    elim (works.0.0) [
      | inl source ↦ (show.source, inl (sym same ∙ source, refl), rose)
      | inr report ↦ ([], inr (inl (sym same ∙ report, refl)), rose)
    ]
fails_from show tells then now Ok port works is = cc
fails_from show tells then now Words port works is = cc
fails_from show tells then now (Capture place reason) port works is = cc
fails_from show tells then now (Setup number reason) port works is = cc
fails_from show tells then now (Control place reason) port works is = cc
fails_from show tells then now (Records number) port works is = cc
fails_from show tells then now (Pcapng place reason) port works is = cc
fails_from show tells then now Memory port works is = cc
fails_from show tells then now (Long own) port works is = cc
