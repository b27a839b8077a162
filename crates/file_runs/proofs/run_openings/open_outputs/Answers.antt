-- The three outputs, each behind the ports before it.
use Rattle.std.proofs.Common.{[], ◌∷◌, refl, sym, ap, ◌∙◌, subst}
use Rattle.sfc_desk.specs.Desks.{Shown, Files}
use Rattle.sfc_desk.specs.declared.ports.Port.TheVariants.{Setup, Capture, Control, Egress, Lines, Replies}
use Rattle.commands.specs.Openings.{StopsAt}
use Rattle.commands.specs.Places.{opens}
use Rattle.commands.proofs.CallLemmas.{on_ok_at, on_err_at}
use Rattle.file_runs.specs.FileRuns.{run_ports}
use Rattle.file_runs.specs.RunSteps.{files_of, input_ports}
use Rattle.file_runs.proofs.OpenLemmas.{capture_no_egress, capture_no_lines, capture_no_replies, control_no_egress, control_no_lines, control_no_replies, ok_again}
use Rattle.file_runs.proofs.PutLemmas.{egress_no_lines, egress_no_replies, lines_no_replies}
use Rattle.file_runs.proofs.CallLemmas.{row_of_four, row_of_five, run_row}
use Rattle.file_runs.proofs.run_openings.open_outputs.Goals as goal

-- the egress was not bound
pub returns-then-is_err-clause-stops : goal.returns-then-is_err-clause-stops
returns-then-is_err-clause-stops g c = λ then was.
    let files = files_of c.args.said.now in
    on_err_at _ c.open_port.result (sym c.is_err.ensures.value ∙ c.if-is_err.true)
    (c.open_port.ensures.stops (input_ports files) (opens Lines files.lines ∷ opens Replies files.replies ∷ []) then (run_row files) was)

-- the lines were not
pub returns-then-is_err-2-clause-stops : goal.returns-then-is_err-2-clause-stops
returns-then-is_err-2-clause-stops g c = λ then was.
    let files = files_of c.args.said.now in
    let first = on_ok_at _ c.open_port.result (sym c.is_err.ensures.value ∙ c.if-is_err.false) (c.open_port.ensures.opens (input_ports files) then (row_of_four files) was) in
    let stops = on_err_at _ c.open_port-2.result (sym c.is_err-2.ensures.value ∙ c.if-is_err-2.true)
    (c.open_port-2.ensures.stops (opens Setup files.setup ∷ opens Capture files.capture ∷ opens Control files.control ∷ opens Egress files.egress ∷ []) (opens Replies files.replies ∷ []) then (run_row files) first) in
    subst (λ (held : Files). StopsAt (run_ports files) g.D.Desk.tells held then (g.D.Desk.at c.open_port-2.new.desk) Lines) c.open_port.ensures.touches.files stops

-- the replies were not
pub returns-then-is_err-3-clause-stops : goal.returns-then-is_err-3-clause-stops
returns-then-is_err-3-clause-stops g c = λ then was.
    let files = files_of c.args.said.now in
    let first = on_ok_at _ c.open_port.result (sym c.is_err.ensures.value ∙ c.if-is_err.false) (c.open_port.ensures.opens (input_ports files) then (row_of_four files) was) in
    let second = on_ok_at _ c.open_port-2.result (sym c.is_err-2.ensures.value ∙ c.if-is_err-2.false)
    (c.open_port-2.ensures.opens (opens Setup files.setup ∷ opens Capture files.capture ∷ opens Control files.control ∷ opens Egress files.egress ∷ []) then (row_of_five files) first) in
    let stops = on_err_at _ c.open_port-3.result (sym c.is_err-3.ensures.value ∙ c.if-is_err-3.true)
    (c.open_port-3.ensures.stops (opens Setup files.setup ∷ opens Capture files.capture ∷ opens Control files.control ∷ opens Egress files.egress ∷ opens Lines files.lines ∷ []) [] then (run_row files) second) in
    subst (λ (held : Files). StopsAt (run_ports files) g.D.Desk.tells held then (g.D.Desk.at c.open_port-3.new.desk) Replies) (c.open_port-2.ensures.touches.files ∙ c.open_port.ensures.touches.files) stops

-- all were
pub returns-clause-opens : goal.returns-clause-opens
returns-clause-opens g c = λ then was.
    let files = files_of c.args.said.now in
    let first = on_ok_at _ c.open_port.result (sym c.is_err.ensures.value ∙ c.if-is_err.false) (c.open_port.ensures.opens (input_ports files) then (row_of_four files) was) in
    let second = on_ok_at _ c.open_port-2.result (sym c.is_err-2.ensures.value ∙ c.if-is_err-2.false)
    (c.open_port-2.ensures.opens (opens Setup files.setup ∷ opens Capture files.capture ∷ opens Control files.control ∷ opens Egress files.egress ∷ []) then (row_of_five files) first) in
    on_ok_at _ c.open_port-3.result (sym c.is_err-3.ensures.value ∙ c.if-is_err-3.false)
    (c.open_port-3.ensures.opens (opens Setup files.setup ∷ opens Capture files.capture ∷ opens Control files.control ∷ opens Egress files.egress ∷ opens Lines files.lines ∷ []) then (run_row files) second)

pub returns-clause-egress : goal.returns-clause-egress
returns-clause-egress g c =
    let same = c.open_port-3.ensures.touches.elsewhere Egress egress_no_replies ∙ c.open_port-2.ensures.touches.elsewhere Egress egress_no_lines in (
      ap (λ (s : Shown). s.bound) same ∙ c.open_port.ensures.bound ∙ ok_again c.open_port.result (sym c.is_err.ensures.value ∙ c.if-is_err.false),
      λ told. ap (λ (s : Shown). s.written) same ∙ on_ok_at _ c.open_port.result (sym c.is_err.ensures.value ∙ c.if-is_err.false) c.open_port.ensures.output told refl,
    )

pub returns-clause-lines : goal.returns-clause-lines
returns-clause-lines g c =
    let same = c.open_port-3.ensures.touches.elsewhere Lines lines_no_replies in (
      ap (λ (s : Shown). s.bound) same ∙ c.open_port-2.ensures.bound ∙ ok_again c.open_port-2.result (sym c.is_err-2.ensures.value ∙ c.if-is_err-2.false),
      λ told. ap (λ (s : Shown). s.written) same ∙ on_ok_at _ c.open_port-2.result (sym c.is_err-2.ensures.value ∙ c.if-is_err-2.false) c.open_port-2.ensures.output told refl,
    )

pub returns-clause-replies : goal.returns-clause-replies
returns-clause-replies g c = (
  c.open_port-3.ensures.bound ∙ ok_again c.open_port-3.result (sym c.is_err-3.ensures.value ∙ c.if-is_err-3.false),
  λ told. on_ok_at _ c.open_port-3.result (sym c.is_err-3.ensures.value ∙ c.if-is_err-3.false) c.open_port-3.ensures.output told refl,
)

pub returns-clause-capture : goal.returns-clause-capture
returns-clause-capture g c =
    c.open_port-3.ensures.touches.elsewhere Capture capture_no_replies ∙ c.open_port-2.ensures.touches.elsewhere Capture capture_no_lines ∙ c.open_port.ensures.touches.elsewhere Capture capture_no_egress

pub returns-clause-control : goal.returns-clause-control
returns-clause-control g c =
    c.open_port-3.ensures.touches.elsewhere Control control_no_replies ∙ c.open_port-2.ensures.touches.elsewhere Control control_no_lines ∙ c.open_port.ensures.touches.elsewhere Control control_no_egress
