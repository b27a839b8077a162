use Rattle.std.proofs.Common.{◌≢◌, inl, inr, [], ◌∷◌, refl, sym, ◌∙◌}
use Rattle.sfc_desk.specs.declared.ports.Port.TheVariants.{Source, Report}
use Rattle.show_command.specs.ShowCommand.{nothing}
use Rattle.commands.specs.Places.{opens, reports}
use Rattle.commands.proofs.CallLemmas.{on_ok_at, on_err_at}
use Rattle.commands.proofs.PlaceLemmas.{none_opened, opened_reports, behaves_so}
use Rattle.show_command.specs.ShowCommand.{show_ports}
use Rattle.show_command.specs.ShowSteps.{show_of}
use Rattle.show_command.proofs.ShowLemmas.{show_row, runs_from, fails_from}
use Rattle.show_command.proofs.show_calls.run_show.Goals as goal

report_is_no_source : Report ≢ Source
report_is_no_source e = cc

-- the source was not bound
pub returns-then-is_err-clause-runs : goal.returns-then-is_err-clause-runs
returns-then-is_err-clause-runs g c =
    let show = show_of c.args.said.now in
    let then = g.D.Desk.at c.args.desk.now in
    λ tells. nothing ((on_err_at _ c.open_port.result (sym c.is_err.ensures.value ∙ c.if-is_err.true)
    (c.open_port.ensures.stops [] (reports ∷ []) then (show_row show) (none_opened g.D.Desk.tells then))).nothing tells)

pub returns-then-is_err-clause-behaves : goal.returns-then-is_err-clause-behaves
returns-then-is_err-clause-behaves g c =
    let show = show_of c.args.said.now in
    let then = g.D.Desk.at c.args.desk.now in
    (on_err_at _ c.open_port.result (sym c.is_err.ensures.value ∙ c.if-is_err.true)
    (c.open_port.ensures.stops [] (reports ∷ []) then (show_row show) (none_opened g.D.Desk.tells then))).behaves

-- it was bound, and the work was done
pub returns-clause-runs : goal.returns-clause-runs
returns-clause-runs g c =
    let show = show_of c.args.said.now in
    let then = g.D.Desk.at c.args.desk.now in
    let opened = on_ok_at _ c.open_port.result (sym c.is_err.ensures.value ∙ c.if-is_err.false)
    (c.open_port.ensures.opens [] then ((λ other has. has), tt) (none_opened g.D.Desk.tells then)) in
    let all = opened_reports (opens Source show.source ∷ []) g.D.Desk.tells then (g.D.Desk.at c.open_port.new.desk) (show_row show) opened in
    runs_from show g.D.Desk.tells (g.D.Desk.held c.args.desk.now) then (g.D.Desk.at c.open_port.new.desk) (g.D.Desk.at c.show_bound.new.desk) c.show_bound.result all
    (c.open_port.ensures.touches.elsewhere Report report_is_no_source) c.show_bound.ensures.none_bound
    (λ tells. on_ok_at _ c.open_port.result (sym c.is_err.ensures.value ∙ c.if-is_err.false) c.open_port.ensures.input tells refl)
    c.show_bound.ensures.works

pub returns-clause-behaves : goal.returns-clause-behaves
returns-clause-behaves g c =
    let show = show_of c.args.said.now in
    let then = g.D.Desk.at c.args.desk.now in
    let opened = on_ok_at _ c.open_port.result (sym c.is_err.ensures.value ∙ c.if-is_err.false)
    (c.open_port.ensures.opens [] then ((λ other has. has), tt) (none_opened g.D.Desk.tells then)) in
    let all = opened_reports (opens Source show.source ∷ []) g.D.Desk.tells then (g.D.Desk.at c.open_port.new.desk) (show_row show) opened in
    behaves_so (show_ports show) [] g.D.Desk.tells (g.D.Desk.held c.args.desk.now) then (g.D.Desk.at c.open_port.new.desk) (g.D.Desk.at c.show_bound.new.desk) c.show_bound.result (show_row show) all c.show_bound.ensures.none_bound
    (λ port outside. c.show_bound.ensures.others port (λ is. outside show.source (inl (is, refl))) (λ is. outside [] (inr (inl (is, refl)))))
    (λ port is. fails_from show g.D.Desk.tells (g.D.Desk.at c.open_port.new.desk) (g.D.Desk.at c.show_bound.new.desk) c.show_bound.result port c.show_bound.ensures.works is)
    c.show_bound.ensures.counts
