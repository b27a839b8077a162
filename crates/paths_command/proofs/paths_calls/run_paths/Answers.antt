use Rattle.std.proofs.Common.{◌≡◌, inl, inr, Some, [], ◌∷◌, refl, sym, ◌∙◌, subst}
use Rattle.sfc_desk.specs.declared.ports.Port.TheVariants.{Control}
use Rattle.sfc_desk.specs.Desks.{Files}
use Rattle.commands.specs.Openings.{StopsAt}
use Rattle.commands.specs.Places.{opens, reports}
use Rattle.commands.proofs.CallLemmas.{on_ok_at, on_err_at}
use Rattle.commands.proofs.PlaceLemmas.{opened_reports, behaves_so}
use Rattle.setup_inputs.specs.Setups.{setup_place}
use Rattle.paths_command.specs.PathsCommand.{paths_ports}
use Rattle.paths_command.specs.PathsSteps.{input_of, paths_of}
use Rattle.paths_command.proofs.PathsLemmas.{paths_row, two_row, report_kept, later_ports, works_from, fails_from}
use Rattle.paths_command.proofs.WholeLemmas.{whole_front}
use Rattle.paths_command.proofs.paths_calls.run_paths.Goals as goal

-- there is no setup
pub returns-in-Err-clause-behaves : goal.returns-in-Err-clause-behaves
returns-in-Err-clause-behaves g c = let paths = paths_of c.args.said.now in c.in-Err.ensures.behaves (later_ports paths) (paths_row paths)

-- the control file was not bound
pub returns-then-is_err-clause-runs : goal.returns-then-is_err-clause-runs
returns-then-is_err-clause-runs g c =
    let paths = paths_of c.args.said.now in
    let then = g.D.Desk.at c.args.desk.now in
    let stops = on_err_at _ c.open_port.result (sym c.is_err.ensures.value ∙ c.if-is_err.true)
    (c.open_port.ensures.stops (setup_place paths.setup ∷ []) (reports ∷ []) then (paths_row paths) c.in-Ok.ensures.opened) in
    inr (c.in-Ok.setup, c.in-Ok.ensures.setup, (inl refl, λ told. inl (stops.nothing told)))

pub returns-then-is_err-clause-behaves : goal.returns-then-is_err-clause-behaves
returns-then-is_err-clause-behaves g c =
    let paths = paths_of c.args.said.now in
    let then = g.D.Desk.at c.args.desk.now in
    let stops = on_err_at _ c.open_port.result (sym c.is_err.ensures.value ∙ c.if-is_err.true)
    (c.open_port.ensures.stops (setup_place paths.setup ∷ []) (reports ∷ []) then (paths_row paths) c.in-Ok.ensures.opened) in
    (subst (λ (held : Files). StopsAt (paths_ports paths) g.D.Desk.tells held then (g.D.Desk.at c.open_port.new.desk) Control) c.read_setup.ensures.files stops).behaves

-- it was bound, and the work was done
pub returns-clause-runs : goal.returns-clause-runs
returns-clause-runs g c =
    let paths = paths_of c.args.said.now in
    let then = g.D.Desk.at c.args.desk.now in
    let mid = g.D.Desk.at c.open_port.new.desk in
    let both = on_ok_at _ c.open_port.result (sym c.is_err.ensures.value ∙ c.if-is_err.false)
    (c.open_port.ensures.opens (setup_place paths.setup ∷ []) then (two_row paths) c.in-Ok.ensures.opened) in
    let all = opened_reports (setup_place paths.setup ∷ opens Control paths.control ∷ []) g.D.Desk.tells then mid (paths_row paths) both in
    inr (
      c.in-Ok.setup,
      c.in-Ok.ensures.setup,
      works_from paths c.in-Ok.setup g.D.Desk.tells (g.D.Desk.held c.args.desk.now) then mid (g.D.Desk.at c.paths_stream.new.desk) c.paths_stream.result
          (whole_front c.segments_have_one_log.ensures c.changes_have_one_table.ensures c.in-Ok.setup c.paths_stream.ensures.kept) all
          (report_kept paths g.D.Desk.tells then mid both) c.paths_stream.ensures.says.none_bound
          (λ told. subst (λ (held : Files). held paths.control ≡ Some (input_of mid)) c.read_setup.ensures.files
          (on_ok_at _ c.open_port.result (sym c.is_err.ensures.value ∙ c.if-is_err.false) c.open_port.ensures.input told refl))
          c.paths_stream.ensures.says.works,
    )

pub returns-clause-behaves : goal.returns-clause-behaves
returns-clause-behaves g c =
    let paths = paths_of c.args.said.now in
    let then = g.D.Desk.at c.args.desk.now in
    let mid = g.D.Desk.at c.open_port.new.desk in
    let both = on_ok_at _ c.open_port.result (sym c.is_err.ensures.value ∙ c.if-is_err.false)
    (c.open_port.ensures.opens (setup_place paths.setup ∷ []) then (two_row paths) c.in-Ok.ensures.opened) in
    let all = opened_reports (setup_place paths.setup ∷ opens Control paths.control ∷ []) g.D.Desk.tells then mid (paths_row paths) both in
    let says = c.paths_stream.ensures.says in
    behaves_so (paths_ports paths) [] g.D.Desk.tells (g.D.Desk.held c.args.desk.now) then mid (g.D.Desk.at c.paths_stream.new.desk) c.paths_stream.result (paths_row paths) all says.none_bound
    (λ port outside. says.others port (λ is. outside paths.control (inr (inl (is, refl)))) (λ is. outside [] (inr (inr (inl (is, refl))))))
    (λ port is. fails_from paths c.in-Ok.setup g.D.Desk.tells mid (g.D.Desk.at c.paths_stream.new.desk) c.paths_stream.result port says.works is)
    says.counts
