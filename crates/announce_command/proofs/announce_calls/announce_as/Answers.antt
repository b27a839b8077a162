use Rattle.std.proofs.Common.{◌≡◌, Some, inl, inr, [], ◌∷◌, refl, sym, ◌∙◌, subst}
use Rattle.sfc_desk.specs.declared.ports.Port.TheVariants.{Routes, Made}
use Rattle.sfc_desk.specs.Desks.{Shown, Files}
use Rattle.sfc_config.specs.Parts.{Parts, AreParts}
use Rattle.commands.specs.Openings.{StopsAt}
use Rattle.commands.specs.Outputs.{nothing}
use Rattle.commands.specs.Places.{opens}
use Rattle.commands.proofs.CallLemmas.{on_ok_at, on_err_at}
use Rattle.commands.proofs.PlaceLemmas.{behaves_so}
use Rattle.setup_inputs.specs.Setups.{setup_place}
use Rattle.announce_command.specs.AnnounceCommand.{announce_ports}
use Rattle.announce_command.specs.AnnounceSteps.{announce_of, AnnounceWorks}
use Rattle.announce_command.proofs.RunLemmas.{announce_row, routes_row, routes_are_not_made, runs_from, fails_from}
use Rattle.announce_command.proofs.announce_calls.announce_as.Goals as goal

-- Routes was not bound
pub returns-then-is_err-clause-behaves : goal.returns-then-is_err-clause-behaves
returns-then-is_err-clause-behaves g c = λ then was.
    let said = announce_of c.args.said.now in
    (on_err_at _ c.open_port.result (sym c.is_err.ensures.value ∙ c.if-is_err.true)
    (c.open_port.ensures.stops (setup_place said.setup ∷ []) (opens Made said.made ∷ []) then (announce_row said) was)).behaves

-- Made was not bound
pub returns-then-is_err-2-clause-runs : goal.returns-then-is_err-2-clause-runs
returns-then-is_err-2-clause-runs g c = λ then was told.
    let said = announce_of c.args.said.now in
    let opened = on_ok_at _ c.open_port.result (sym c.is_err.ensures.value ∙ c.if-is_err.false)
    (c.open_port.ensures.opens (setup_place said.setup ∷ []) then (routes_row said) was) in
    let stops = on_err_at _ c.open_port-2.result (sym c.is_err-2.ensures.value ∙ c.if-is_err-2.true)
    (c.open_port-2.ensures.stops (setup_place said.setup ∷ opens Routes said.routes ∷ []) [] then (announce_row said) opened) in
    nothing (stops.nothing told)

pub returns-then-is_err-2-clause-behaves : goal.returns-then-is_err-2-clause-behaves
returns-then-is_err-2-clause-behaves g c = λ then was.
    let said = announce_of c.args.said.now in
    let opened = on_ok_at _ c.open_port.result (sym c.is_err.ensures.value ∙ c.if-is_err.false)
    (c.open_port.ensures.opens (setup_place said.setup ∷ []) then (routes_row said) was) in
    let stops = on_err_at _ c.open_port-2.result (sym c.is_err-2.ensures.value ∙ c.if-is_err-2.true)
    (c.open_port-2.ensures.stops (setup_place said.setup ∷ opens Routes said.routes ∷ []) [] then (announce_row said) opened) in
    (subst (λ (held : Files). StopsAt (announce_ports said) g.D.Desk.tells held then (g.D.Desk.at c.open_port-2.new.desk) Made) c.open_port.ensures.touches.files stops).behaves

-- both were bound, and the work was done
pub returns-clause-runs : goal.returns-clause-runs
returns-clause-runs g c = λ then was.
    let said = announce_of c.args.said.now in
    let held = g.D.Desk.held c.args.desk.now in
    let opened = on_ok_at _ c.open_port.result (sym c.is_err.ensures.value ∙ c.if-is_err.false)
    (c.open_port.ensures.opens (setup_place said.setup ∷ []) then (routes_row said) was) in
    let both = on_ok_at _ c.open_port-2.result (sym c.is_err-2.ensures.value ∙ c.if-is_err-2.false)
    (c.open_port-2.ensures.opens (setup_place said.setup ∷ opens Routes said.routes ∷ []) then (announce_row said) opened) in
    let mid = g.D.Desk.at c.open_port-2.new.desk in
    let now = g.D.Desk.at c.announce_bound.new.desk in
    runs_from said c.args.setup.now c.args.asn g.D.Desk.tells held then mid now c.announce_bound.result (subst AreParts c.setup.view_is c.setup.invariant) c.requires both c.announce_bound.ensures.none_bound
    (λ told.
    subst (λ (s : Shown). held said.routes ≡ Some s.left) (sym (c.open_port-2.ensures.touches.elsewhere Routes routes_are_not_made))
    (on_ok_at _ c.open_port.result (sym c.is_err.ensures.value ∙ c.if-is_err.false) c.open_port.ensures.input told refl))
    (subst (λ (p : Parts). AnnounceWorks p.local said.peer c.args.asn g.D.Desk.tells mid now c.announce_bound.result) c.setup.view_is c.announce_bound.ensures.works)

pub returns-clause-behaves : goal.returns-clause-behaves
returns-clause-behaves g c = λ then was.
    let said = announce_of c.args.said.now in
    let opened = on_ok_at _ c.open_port.result (sym c.is_err.ensures.value ∙ c.if-is_err.false)
    (c.open_port.ensures.opens (setup_place said.setup ∷ []) then (routes_row said) was) in
    let both = on_ok_at _ c.open_port-2.result (sym c.is_err-2.ensures.value ∙ c.if-is_err-2.false)
    (c.open_port-2.ensures.opens (setup_place said.setup ∷ opens Routes said.routes ∷ []) then (announce_row said) opened) in
    let mid = g.D.Desk.at c.open_port-2.new.desk in
    let now = g.D.Desk.at c.announce_bound.new.desk in
    behaves_so (announce_ports said) [] g.D.Desk.tells (g.D.Desk.held c.args.desk.now) then mid now c.announce_bound.result (announce_row said) both c.announce_bound.ensures.none_bound
    (λ port outside. c.announce_bound.ensures.others port (λ is. outside said.routes (inr (inl (is, refl)))) (λ is. outside said.made (inr (inr (inl (is, refl))))))
    (λ port is. fails_from said c.args.setup.now c.args.asn g.D.Desk.tells mid now c.announce_bound.result port
    (subst (λ (p : Parts). AnnounceWorks p.local said.peer c.args.asn g.D.Desk.tells mid now c.announce_bound.result) c.setup.view_is c.announce_bound.ensures.works) is)
    c.announce_bound.ensures.counts
