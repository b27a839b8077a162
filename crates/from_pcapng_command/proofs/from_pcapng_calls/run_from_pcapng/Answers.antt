use Rattle.std.proofs.Common.{◌≡◌, ◌≢◌, Some, inl, inr, [], ◌∷◌, refl, sym, ◌∙◌, subst}
use Rattle.sfc_desk.specs.declared.ports.Port.TheVariants.{Source, Made, Report}
use Rattle.sfc_desk.specs.Desks.{Shown, Files}
use Rattle.commands.specs.Openings.{StopsAt}
use Rattle.commands.specs.Places.{opens, reports}
use Rattle.commands.proofs.CallLemmas.{on_ok_at, on_err_at}
use Rattle.commands.proofs.PlaceLemmas.{none_opened, opened_reports, behaves_so}
use Rattle.frame_streams.proofs.RunLemmas.{fails_own, counts_other, two_row}
use Rattle.from_pcapng_command.specs.FromPcapngCommand.{from_pcapng_ports}
use Rattle.from_pcapng_command.specs.FromPcapngSteps.{IsOwn, from_pcapng_of}
use Rattle.from_pcapng_command.proofs.RunLemmas.{three_row, runs_from, fails_from}
use Rattle.from_pcapng_command.proofs.from_pcapng_calls.run_from_pcapng.Goals as goal

source_is_not_made : Source ≢ Made
source_is_not_made e = cc

report_is_no_source : Report ≢ Source
report_is_no_source e = cc

report_is_no_made : Report ≢ Made
report_is_no_made e = cc

-- the source was not bound
pub returns-then-is_err-clause-runs : goal.returns-then-is_err-clause-runs
returns-then-is_err-clause-runs g c =
    let said = from_pcapng_of c.args.said.now in
    let then = g.D.Desk.at c.args.desk.now in
    let stops = on_err_at _ c.open_port.result (sym c.is_err.ensures.value ∙ c.if-is_err.true)
    (c.open_port.ensures.stops [] (opens Made said.made ∷ reports ∷ []) then (three_row said) (none_opened g.D.Desk.tells then)) in
    λ tells. inl (stops.nothing tells)

pub returns-then-is_err-clause-behaves : goal.returns-then-is_err-clause-behaves
returns-then-is_err-clause-behaves g c =
    let said = from_pcapng_of c.args.said.now in
    let then = g.D.Desk.at c.args.desk.now in
    (on_err_at _ c.open_port.result (sym c.is_err.ensures.value ∙ c.if-is_err.true)
    (c.open_port.ensures.stops [] (opens Made said.made ∷ reports ∷ []) then (three_row said) (none_opened g.D.Desk.tells then))).behaves

-- Made was not bound
pub returns-then-is_err-2-clause-runs : goal.returns-then-is_err-2-clause-runs
returns-then-is_err-2-clause-runs g c =
    let said = from_pcapng_of c.args.said.now in
    let then = g.D.Desk.at c.args.desk.now in
    let opened = on_ok_at _ c.open_port.result (sym c.is_err.ensures.value ∙ c.if-is_err.false)
    (c.open_port.ensures.opens [] then ((λ other has. has), tt) (none_opened g.D.Desk.tells then)) in
    let stops = on_err_at _ c.open_port-2.result (sym c.is_err-2.ensures.value ∙ c.if-is_err-2.true)
    (c.open_port-2.ensures.stops (opens Source said.source ∷ []) (reports ∷ []) then (three_row said) opened) in
    λ tells. inl (stops.nothing tells)

pub returns-then-is_err-2-clause-behaves : goal.returns-then-is_err-2-clause-behaves
returns-then-is_err-2-clause-behaves g c =
    let said = from_pcapng_of c.args.said.now in
    let then = g.D.Desk.at c.args.desk.now in
    let opened = on_ok_at _ c.open_port.result (sym c.is_err.ensures.value ∙ c.if-is_err.false)
    (c.open_port.ensures.opens [] then ((λ other has. has), tt) (none_opened g.D.Desk.tells then)) in
    let stops = on_err_at _ c.open_port-2.result (sym c.is_err-2.ensures.value ∙ c.if-is_err-2.true)
    (c.open_port-2.ensures.stops (opens Source said.source ∷ []) (reports ∷ []) then (three_row said) opened) in
    (subst (λ (held : Files). StopsAt (from_pcapng_ports said) g.D.Desk.tells held then (g.D.Desk.at c.open_port-2.new.desk) Made) c.open_port.ensures.touches.files stops).behaves

-- both were bound, and the work was done
pub returns-clause-runs : goal.returns-clause-runs
returns-clause-runs g c =
    let said = from_pcapng_of c.args.said.now in
    let then = g.D.Desk.at c.args.desk.now in
    let mid = g.D.Desk.at c.open_port-2.new.desk in
    let held = g.D.Desk.held c.args.desk.now in
    let opened = on_ok_at _ c.open_port.result (sym c.is_err.ensures.value ∙ c.if-is_err.false)
    (c.open_port.ensures.opens [] then ((λ other has. has), tt) (none_opened g.D.Desk.tells then)) in
    let both = on_ok_at _ c.open_port-2.result (sym c.is_err-2.ensures.value ∙ c.if-is_err-2.false)
    (c.open_port-2.ensures.opens (opens Source said.source ∷ []) then (two_row Source Made said.source said.made refl refl) opened) in
    let all = opened_reports (opens Source said.source ∷ opens Made said.made ∷ []) g.D.Desk.tells then mid (three_row said) both in
    runs_from said g.D.Desk.tells held then mid (g.D.Desk.at c.make_capture.new.desk) c.make_capture.result all
    (c.open_port-2.ensures.touches.elsewhere Report report_is_no_made ∙ c.open_port.ensures.touches.elsewhere Report report_is_no_source)
    (λ tells.
    subst (λ (s : Shown). held said.source ≡ Some s.left) (sym (c.open_port-2.ensures.touches.elsewhere Source source_is_not_made))
    (on_ok_at _ c.open_port.result (sym c.is_err.ensures.value ∙ c.if-is_err.false) c.open_port.ensures.input tells refl))
    c.make_capture.ensures

pub returns-clause-behaves : goal.returns-clause-behaves
returns-clause-behaves g c =
    let said = from_pcapng_of c.args.said.now in
    let then = g.D.Desk.at c.args.desk.now in
    let mid = g.D.Desk.at c.open_port-2.new.desk in
    let now = g.D.Desk.at c.make_capture.new.desk in
    let made = c.make_capture.ensures in
    let opened = on_ok_at _ c.open_port.result (sym c.is_err.ensures.value ∙ c.if-is_err.false)
    (c.open_port.ensures.opens [] then ((λ other has. has), tt) (none_opened g.D.Desk.tells then)) in
    let both = on_ok_at _ c.open_port-2.result (sym c.is_err-2.ensures.value ∙ c.if-is_err-2.false)
    (c.open_port-2.ensures.opens (opens Source said.source ∷ []) then (two_row Source Made said.source said.made refl refl) opened) in
    let all = opened_reports (opens Source said.source ∷ opens Made said.made ∷ []) g.D.Desk.tells then mid (three_row said) both in
    behaves_so (from_pcapng_ports said) [] g.D.Desk.tells (g.D.Desk.held c.args.desk.now) then mid now c.make_capture.result (three_row said) all made.none_bound
    (λ port outside. made.others port (λ own. elim own [
      | inl is ↦ outside said.source (inl (is, refl))
      | inr later ↦ elim later [ inl is ↦ outside said.made (inr (inl (is, refl))) | inr is ↦ outside [] (inr (inr (inl (is, refl)))) ]
    ]))
    (λ port is. fails_from said mid now port (fails_own IsOwn (λ own. own ≡ Source) mid now c.make_capture.result port made.counts is))
    (λ port differs. counts_other IsOwn (λ own. own ≡ Source) mid now c.make_capture.result port made.counts differs)
