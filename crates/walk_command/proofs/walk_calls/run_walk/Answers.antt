use Rattle.std.proofs.Common.{◌≡◌, ◌≢◌, Some, inl, inr, [], ◌∷◌, refl, sym, ◌∙◌, subst}
use Rattle.sfc_desk.specs.declared.ports.Port.TheVariants.{Capture, Egress}
use Rattle.sfc_desk.specs.Desks.{Shown, Files}
use Rattle.commands.specs.Openings.{StopsAt}
use Rattle.commands.specs.Places.{opens}
use Rattle.commands.proofs.CallLemmas.{on_ok_at, on_err_at}
use Rattle.commands.proofs.PlaceLemmas.{none_opened, behaves_so}
use Rattle.walk_command.specs.WalkCommand.{walk_ports}
use Rattle.walk_command.specs.WalkSteps.{walk_of}
use Rattle.walk_command.proofs.WalkRunLemmas.{walk_row, runs_from, fails_from}
use Rattle.walk_command.proofs.walk_calls.run_walk.Goals as goal

capture_is_no_egress : Capture ≢ Egress
capture_is_no_egress e = cc

-- the capture was not bound
pub returns-then-is_err-clause-behaves : goal.returns-then-is_err-clause-behaves
returns-then-is_err-clause-behaves g c =
    let walk = walk_of c.args.said.now in
    let then = g.D.Desk.at c.args.desk.now in
    (on_err_at _ c.open_port.result (sym c.is_err.ensures.value ∙ c.if-is_err.true)
    (c.open_port.ensures.stops [] (opens Egress walk.egress ∷ []) then (walk_row walk) (none_opened g.D.Desk.tells then))).behaves

-- the egress was not bound
pub returns-then-is_err-2-clause-runs : goal.returns-then-is_err-2-clause-runs
returns-then-is_err-2-clause-runs g c =
    let walk = walk_of c.args.said.now in
    let then = g.D.Desk.at c.args.desk.now in
    let opened = on_ok_at _ c.open_port.result (sym c.is_err.ensures.value ∙ c.if-is_err.false)
    (c.open_port.ensures.opens [] then ((λ other has. has), tt) (none_opened g.D.Desk.tells then)) in
    let stops = on_err_at _ c.open_port-2.result (sym c.is_err-2.ensures.value ∙ c.if-is_err-2.true)
    (c.open_port-2.ensures.stops (opens Capture walk.capture ∷ []) [] then (walk_row walk) opened) in
    λ tells. inl (stops.nothing tells)

pub returns-then-is_err-2-clause-behaves : goal.returns-then-is_err-2-clause-behaves
returns-then-is_err-2-clause-behaves g c =
    let walk = walk_of c.args.said.now in
    let then = g.D.Desk.at c.args.desk.now in
    let opened = on_ok_at _ c.open_port.result (sym c.is_err.ensures.value ∙ c.if-is_err.false)
    (c.open_port.ensures.opens [] then ((λ other has. has), tt) (none_opened g.D.Desk.tells then)) in
    let stops = on_err_at _ c.open_port-2.result (sym c.is_err-2.ensures.value ∙ c.if-is_err-2.true)
    (c.open_port-2.ensures.stops (opens Capture walk.capture ∷ []) [] then (walk_row walk) opened) in
    (subst (λ (held : Files). StopsAt (walk_ports walk) g.D.Desk.tells held then (g.D.Desk.at c.open_port-2.new.desk) Egress) c.open_port.ensures.touches.files stops).behaves

-- both were bound, and the work was done
pub returns-clause-runs : goal.returns-clause-runs
returns-clause-runs g c =
    let walk = walk_of c.args.said.now in
    let then = g.D.Desk.at c.args.desk.now in
    let held = g.D.Desk.held c.args.desk.now in
    let opened = on_ok_at _ c.open_port.result (sym c.is_err.ensures.value ∙ c.if-is_err.false)
    (c.open_port.ensures.opens [] then ((λ other has. has), tt) (none_opened g.D.Desk.tells then)) in
    let both = on_ok_at _ c.open_port-2.result (sym c.is_err-2.ensures.value ∙ c.if-is_err-2.false)
    (c.open_port-2.ensures.opens (opens Capture walk.capture ∷ []) then (walk_row walk) opened) in
    runs_from walk g.D.Desk.tells held then (g.D.Desk.at c.open_port-2.new.desk) (g.D.Desk.at c.walk_bound.new.desk) c.walk_bound.result c.requires.some c.requires.most both c.walk_bound.ensures.none_bound
    (λ tells.
    subst (λ (s : Shown). held walk.capture ≡ Some s.left) (sym (c.open_port-2.ensures.touches.elsewhere Capture capture_is_no_egress))
    (on_ok_at _ c.open_port.result (sym c.is_err.ensures.value ∙ c.if-is_err.false) c.open_port.ensures.input tells refl))
    c.walk_bound.ensures.works

pub returns-clause-behaves : goal.returns-clause-behaves
returns-clause-behaves g c =
    let walk = walk_of c.args.said.now in
    let then = g.D.Desk.at c.args.desk.now in
    let opened = on_ok_at _ c.open_port.result (sym c.is_err.ensures.value ∙ c.if-is_err.false)
    (c.open_port.ensures.opens [] then ((λ other has. has), tt) (none_opened g.D.Desk.tells then)) in
    let both = on_ok_at _ c.open_port-2.result (sym c.is_err-2.ensures.value ∙ c.if-is_err-2.false)
    (c.open_port-2.ensures.opens (opens Capture walk.capture ∷ []) then (walk_row walk) opened) in
    behaves_so (walk_ports walk) [] g.D.Desk.tells (g.D.Desk.held c.args.desk.now) then (g.D.Desk.at c.open_port-2.new.desk) (g.D.Desk.at c.walk_bound.new.desk) c.walk_bound.result (walk_row walk) both c.walk_bound.ensures.none_bound
    (λ port outside. c.walk_bound.ensures.others port (λ is. outside walk.capture (inl (is, refl))) (λ is. outside walk.egress (inr (inl (is, refl)))))
    (λ port is. fails_from walk g.D.Desk.tells (g.D.Desk.at c.open_port-2.new.desk) (g.D.Desk.at c.walk_bound.new.desk) c.walk_bound.result port c.walk_bound.ensures.works is)
    c.walk_bound.ensures.counts
