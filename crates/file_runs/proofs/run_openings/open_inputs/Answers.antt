-- The capture and then the control file, each behind the ports before it.
use Rattle.std.proofs.Common.{◌≡◌, Some, [], ◌∷◌, refl, sym, ap, ◌∙◌, subst}
use Rattle.sfc_desk.specs.Desks.{Shown, Files}
use Rattle.sfc_desk.specs.declared.ports.Port.TheVariants.{Capture, Control, Egress, Lines, Replies}
use Rattle.commands.specs.Openings.{StopsAt}
use Rattle.commands.specs.Places.{opens}
use Rattle.commands.proofs.CallLemmas.{on_ok_at, on_err_at}
use Rattle.setup_inputs.specs.Setups.{setup_place}
use Rattle.file_runs.specs.FileRuns.{run_ports}
use Rattle.file_runs.specs.RunSteps.{files_of}
use Rattle.file_runs.proofs.OpenLemmas.{capture_no_control, ok_again}
use Rattle.file_runs.proofs.CallLemmas.{row_of_two, row_of_three, run_row}
use Rattle.file_runs.proofs.run_openings.open_inputs.Goals as goal

-- the capture was not bound
pub returns-then-is_err-clause-stops : goal.returns-then-is_err-clause-stops
returns-then-is_err-clause-stops g c = λ then was.
    let files = files_of c.args.said.now in
    on_err_at _ c.open_port.result (sym c.is_err.ensures.value ∙ c.if-is_err.true)
    (c.open_port.ensures.stops (setup_place files.setup ∷ []) (opens Control files.control ∷ opens Egress files.egress ∷ opens Lines files.lines ∷ opens Replies files.replies ∷ []) then (run_row files) was)

pub returns-then-is_err-clause-there : goal.returns-then-is_err-clause-there
returns-then-is_err-clause-there g c = λ apart. absurd (apart refl)

-- the control file was not
pub returns-then-is_err-2-clause-stops : goal.returns-then-is_err-2-clause-stops
returns-then-is_err-2-clause-stops g c = λ then was.
    let files = files_of c.args.said.now in
    let opened = on_ok_at _ c.open_port.result (sym c.is_err.ensures.value ∙ c.if-is_err.false) (c.open_port.ensures.opens (setup_place files.setup ∷ []) then (row_of_two files) was) in
    let stops = on_err_at _ c.open_port-2.result (sym c.is_err-2.ensures.value ∙ c.if-is_err-2.true)
    (c.open_port-2.ensures.stops (setup_place files.setup ∷ opens Capture files.capture ∷ []) (opens Egress files.egress ∷ opens Lines files.lines ∷ opens Replies files.replies ∷ []) then (run_row files) opened) in
    subst (λ (held : Files). StopsAt (run_ports files) g.D.Desk.tells held then (g.D.Desk.at c.open_port-2.new.desk) Control) c.open_port.ensures.touches.files stops

pub returns-then-is_err-2-clause-there : goal.returns-then-is_err-2-clause-there
returns-then-is_err-2-clause-there g c = λ apart told.
    ((g.D.Desk.at c.open_port.new.desk Capture).left, on_ok_at _ c.open_port.result (sym c.is_err.ensures.value ∙ c.if-is_err.false) c.open_port.ensures.input told refl)

-- both were
pub returns-clause-opens : goal.returns-clause-opens
returns-clause-opens g c = λ then was.
    let files = files_of c.args.said.now in
    let opened = on_ok_at _ c.open_port.result (sym c.is_err.ensures.value ∙ c.if-is_err.false) (c.open_port.ensures.opens (setup_place files.setup ∷ []) then (row_of_two files) was) in
    on_ok_at _ c.open_port-2.result (sym c.is_err-2.ensures.value ∙ c.if-is_err-2.false) (c.open_port-2.ensures.opens (setup_place files.setup ∷ opens Capture files.capture ∷ []) then (row_of_three files) opened)

pub returns-clause-holds : goal.returns-clause-holds
returns-clause-holds g c = λ told.
    let files = files_of c.args.said.now in
    let held = g.D.Desk.held c.args.desk.now in
    record {
      capture = subst (λ (s : Shown). held files.capture ≡ Some s.left) (sym (c.open_port-2.ensures.touches.elsewhere Capture capture_no_control))
          (on_ok_at _ c.open_port.result (sym c.is_err.ensures.value ∙ c.if-is_err.false) c.open_port.ensures.input told refl);
      control = subst (λ (h : Files). h files.control ≡ Some (g.D.Desk.at c.open_port-2.new.desk Control).left) c.open_port.ensures.touches.files
          (on_ok_at _ c.open_port-2.result (sym c.is_err-2.ensures.value ∙ c.if-is_err-2.false) c.open_port-2.ensures.input told refl);
    }

pub returns-clause-bound : goal.returns-clause-bound
returns-clause-bound g c = (
  ap (λ (s : Shown). s.bound) (c.open_port-2.ensures.touches.elsewhere Capture capture_no_control) ∙ c.open_port.ensures.bound ∙ ok_again c.open_port.result (sym c.is_err.ensures.value ∙ c.if-is_err.false),
  c.open_port-2.ensures.bound ∙ ok_again c.open_port-2.result (sym c.is_err-2.ensures.value ∙ c.if-is_err-2.false),
)
