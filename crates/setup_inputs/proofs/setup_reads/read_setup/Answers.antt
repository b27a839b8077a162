use Rattle.std.proofs.Common.{[], refl, sym, ◌∙◌}
use Rattle.std.proofs.lemmas.Result.{IfOk-weaker, IfErr-weaker, on_ok_weaker}
use Rattle.commands.proofs.CallLemmas.{on_ok_at, on_err_at}
use Rattle.commands.proofs.PlaceLemmas.{none_opened}
use Rattle.setup_inputs.proofs.ReadLemmas.{opened_from, holds_from, stops_from, behaves_from, unbound_stops}
use Rattle.setup_inputs.proofs.setup_reads.read_setup.Goals as goal

-- Setup was not bound
pub returns-then-is_err-clause-stops : goal.returns-then-is_err-clause-stops
returns-then-is_err-clause-stops g c =
    unbound_stops c.args.name.now g.D.Desk.tells (g.D.Desk.held c.args.desk.now) (g.D.Desk.at c.args.desk.now) (g.D.Desk.at c.open_port.new.desk) c.open_port.ensures.touches.elsewhere

pub returns-then-is_err-clause-behaves : goal.returns-then-is_err-clause-behaves
returns-then-is_err-clause-behaves g c = λ later row.
    (on_err_at _ c.open_port.result (sym c.is_err.ensures.value ∙ c.if-is_err.true)
    (c.open_port.ensures.stops [] later (g.D.Desk.at c.args.desk.now) row (none_opened g.D.Desk.tells (g.D.Desk.at c.args.desk.now)))).behaves

-- it was bound, and read
pub returns-clause-opened : goal.returns-clause-opened
returns-clause-opened g c =
    let then = g.D.Desk.at c.args.desk.now in
    let opened = on_ok_at _ c.open_port.result (sym c.is_err.ensures.value ∙ c.if-is_err.false)
    (c.open_port.ensures.opens [] then ((λ other has. has), tt) (none_opened g.D.Desk.tells then)) in
    on_ok_weaker c.bound_setup.result
    (opened_from c.args.name.now g.D.Desk.tells _ _ then (g.D.Desk.at c.open_port.new.desk) (g.D.Desk.at c.bound_setup.new.desk) opened c.bound_setup.ensures.moves)
    c.bound_setup.ensures.quiet

pub returns-clause-setup : goal.returns-clause-setup
returns-clause-setup g c = λ told.
    let there = on_ok_at _ c.open_port.result (sym c.is_err.ensures.value ∙ c.if-is_err.false) c.open_port.ensures.input told refl in
    IfOk-weaker c.bound_setup.result _ _
    (λ setup spells. holds_from c.args.name.now (g.D.Desk.held c.args.desk.now) (g.D.Desk.at c.open_port.new.desk) setup there spells)
    (c.bound_setup.ensures.setup told)

pub returns-clause-stops : goal.returns-clause-stops
returns-clause-stops g c =
    let then = g.D.Desk.at c.args.desk.now in
    let opened = on_ok_at _ c.open_port.result (sym c.is_err.ensures.value ∙ c.if-is_err.false)
    (c.open_port.ensures.opens [] then ((λ other has. has), tt) (none_opened g.D.Desk.tells then)) in
    IfErr-weaker c.bound_setup.result _ _
    (λ answer stops. stops_from c.args.name.now g.D.Desk.tells (g.D.Desk.held c.args.desk.now) _ _ then (g.D.Desk.at c.open_port.new.desk) (g.D.Desk.at c.bound_setup.new.desk) answer opened
    (λ told. on_ok_at _ c.open_port.result (sym c.is_err.ensures.value ∙ c.if-is_err.false) c.open_port.ensures.input told refl)
    c.bound_setup.ensures.moves stops)
    c.bound_setup.ensures.stops

pub returns-clause-behaves : goal.returns-clause-behaves
returns-clause-behaves g c = λ later row.
    let then = g.D.Desk.at c.args.desk.now in
    let opened = on_ok_at _ c.open_port.result (sym c.is_err.ensures.value ∙ c.if-is_err.false)
    (c.open_port.ensures.opens [] then ((λ other has. has), tt) (none_opened g.D.Desk.tells then)) in
    IfErr-weaker c.bound_setup.result _ _
    (λ answer stops. behaves_from c.args.name.now later g.D.Desk.tells (g.D.Desk.held c.args.desk.now) _ _ then (g.D.Desk.at c.open_port.new.desk) (g.D.Desk.at c.bound_setup.new.desk) answer row opened c.bound_setup.ensures.moves stops)
    c.bound_setup.ensures.stops
