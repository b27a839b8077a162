use Rattle.std.proofs.Common.{◌≡◌, ◌≢◌, Some, inl, inr, [], ◌∷◌, refl, sym, ◌∙◌, subst}
use Rattle.sfc_desk.specs.declared.ports.Port.TheVariants.{Capture, Made}
use Rattle.sfc_desk.specs.Desks.{Shown, Files}
use Rattle.commands.specs.Openings.{StopsAt}
use Rattle.commands.specs.Places.{opens}
use Rattle.commands.proofs.CallLemmas.{on_ok_at, on_err_at}
use Rattle.commands.proofs.PlaceLemmas.{none_opened, behaves_so}
use Rattle.frame_streams.specs.Turning.{IsEither}
use Rattle.frame_streams.proofs.RunLemmas.{two_row, runs_from, fails_own, fails_from, counts_other}
use Rattle.to_pcapng_command.specs.ToPcapngCommand.{ToWrites, to_pcapng_ports}
use Rattle.to_pcapng_command.specs.ToPcapngSteps.{to_pcapng_of}
use Rattle.to_pcapng_command.proofs.to_pcapng_calls.run_to_pcapng.Goals as goal

capture_is_not_made : Capture ≢ Made
capture_is_not_made e = cc

-- the capture was not bound
pub returns-then-is_err-clause-behaves : goal.returns-then-is_err-clause-behaves
returns-then-is_err-clause-behaves g c =
    let said = to_pcapng_of c.args.said.now in
    let then = g.D.Desk.at c.args.desk.now in
    (on_err_at _ c.open_port.result (sym c.is_err.ensures.value ∙ c.if-is_err.true)
    (c.open_port.ensures.stops [] (opens Made said.made ∷ []) then (two_row Capture Made said.capture said.made refl refl) (none_opened g.D.Desk.tells then))).behaves

pub returns-then-is_err-clause-runs : goal.returns-then-is_err-clause-runs
returns-then-is_err-clause-runs g c =
    let said = to_pcapng_of c.args.said.now in
    let then = g.D.Desk.at c.args.desk.now in
    let stops = on_err_at _ c.open_port.result (sym c.is_err.ensures.value ∙ c.if-is_err.true)
    (c.open_port.ensures.stops [] (opens Made said.made ∷ []) then (two_row Capture Made said.capture said.made refl refl) (none_opened g.D.Desk.tells then)) in
    λ tells. inl (stops.nothing tells)

-- Made was not bound
pub returns-then-is_err-2-clause-runs : goal.returns-then-is_err-2-clause-runs
returns-then-is_err-2-clause-runs g c =
    let said = to_pcapng_of c.args.said.now in
    let then = g.D.Desk.at c.args.desk.now in
    let opened = on_ok_at _ c.open_port.result (sym c.is_err.ensures.value ∙ c.if-is_err.false)
    (c.open_port.ensures.opens [] then ((λ other has. has), tt) (none_opened g.D.Desk.tells then)) in
    let stops = on_err_at _ c.open_port-2.result (sym c.is_err-2.ensures.value ∙ c.if-is_err-2.true)
    (c.open_port-2.ensures.stops (opens Capture said.capture ∷ []) [] then (two_row Capture Made said.capture said.made refl refl) opened) in
    λ tells. inl (stops.nothing tells)

pub returns-then-is_err-2-clause-behaves : goal.returns-then-is_err-2-clause-behaves
returns-then-is_err-2-clause-behaves g c =
    let said = to_pcapng_of c.args.said.now in
    let then = g.D.Desk.at c.args.desk.now in
    let opened = on_ok_at _ c.open_port.result (sym c.is_err.ensures.value ∙ c.if-is_err.false)
    (c.open_port.ensures.opens [] then ((λ other has. has), tt) (none_opened g.D.Desk.tells then)) in
    let stops = on_err_at _ c.open_port-2.result (sym c.is_err-2.ensures.value ∙ c.if-is_err-2.true)
    (c.open_port-2.ensures.stops (opens Capture said.capture ∷ []) [] then (two_row Capture Made said.capture said.made refl refl) opened) in
    (subst (λ (held : Files). StopsAt (to_pcapng_ports said) g.D.Desk.tells held then (g.D.Desk.at c.open_port-2.new.desk) Made) c.open_port.ensures.touches.files stops).behaves

-- both were bound, and the work was done
pub returns-clause-runs : goal.returns-clause-runs
returns-clause-runs g c =
    let said = to_pcapng_of c.args.said.now in
    let then = g.D.Desk.at c.args.desk.now in
    let held = g.D.Desk.held c.args.desk.now in
    let opened = on_ok_at _ c.open_port.result (sym c.is_err.ensures.value ∙ c.if-is_err.false)
    (c.open_port.ensures.opens [] then ((λ other has. has), tt) (none_opened g.D.Desk.tells then)) in
    let both = on_ok_at _ c.open_port-2.result (sym c.is_err-2.ensures.value ∙ c.if-is_err-2.false)
    (c.open_port-2.ensures.opens (opens Capture said.capture ∷ []) then (two_row Capture Made said.capture said.made refl refl) opened) in
    runs_from Capture Made said.capture said.made ToWrites g.D.Desk.tells held then (g.D.Desk.at c.open_port-2.new.desk) (g.D.Desk.at c.convert.new.desk) c.convert.result refl both
    (λ tells.
    subst (λ (s : Shown). held said.capture ≡ Some s.left) (sym (c.open_port-2.ensures.touches.elsewhere Capture capture_is_not_made))
    (on_ok_at _ c.open_port.result (sym c.is_err.ensures.value ∙ c.if-is_err.false) c.open_port.ensures.input tells refl))
    c.convert.ensures.converts

pub returns-clause-behaves : goal.returns-clause-behaves
returns-clause-behaves g c =
    let said = to_pcapng_of c.args.said.now in
    let then = g.D.Desk.at c.args.desk.now in
    let mid = g.D.Desk.at c.open_port-2.new.desk in
    let now = g.D.Desk.at c.convert.new.desk in
    let converts = c.convert.ensures.converts in
    let opened = on_ok_at _ c.open_port.result (sym c.is_err.ensures.value ∙ c.if-is_err.false)
    (c.open_port.ensures.opens [] then ((λ other has. has), tt) (none_opened g.D.Desk.tells then)) in
    let both = on_ok_at _ c.open_port-2.result (sym c.is_err-2.ensures.value ∙ c.if-is_err-2.false)
    (c.open_port-2.ensures.opens (opens Capture said.capture ∷ []) then (two_row Capture Made said.capture said.made refl refl) opened) in
    behaves_so (to_pcapng_ports said) [] g.D.Desk.tells (g.D.Desk.held c.args.desk.now) then mid now c.convert.result (two_row Capture Made said.capture said.made refl refl) both converts.none_bound
    (λ port outside. converts.others port (λ is. outside said.capture (inl (is, refl))) (λ is. outside said.made (inr (inl (is, refl)))))
    (λ port is. fails_from Capture Made said.capture said.made mid now port (fails_own (IsEither Capture Made) (λ own. own ≡ Capture) mid now c.convert.result port converts.counts is))
    (λ port differs. counts_other (IsEither Capture Made) (λ own. own ≡ Capture) mid now c.convert.result port converts.counts differs)
