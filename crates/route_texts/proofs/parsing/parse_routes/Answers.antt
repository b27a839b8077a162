-- Each line is one more that is taken, or the first that is refused.
use Rattle.std.proofs.Common.{Bool, List, length, ◌+◌, Ok, sym, ap, subst}
use Rattle.sfc_routes.specs.declared.routes.Route.{Route}
use Rattle.route_texts.specs.Steps.{Taken}
use Rattle.route_texts.proofs.RunLemmas.{ReadSoFar, some_left, line_read, last_refused, line_refused}
use Rattle.route_texts.proofs.parsing.parse_routes.Goals as goal

pub returns-in_default : goal.returns-in_default
returns-in_default c =
    last_refused c.args.text.now c.lines.routes c.lines.rest.now (length c.as_slice.result.now + 1) c.lines.invariant c.in_default.ensures
    (some_left (length c.lines.rest.now) c.lines-test.ensures) (ap (λ (l : List Route). length l + 1) c.as_slice.ensures)

pub returns-then-not-branch : goal.returns-then-not-branch
returns-then-not-branch c =
    let line = c.in-Some.line.now in
    line_refused c.args.text.now c.lines.routes c.lines.rest.now line c.in-Some.behind.now (length c.as_slice.result.now + 1) c.lines.invariant c.in-Some.ensures.0 c.in-Some.ensures.1
    (subst (λ (b : Bool). Taken c.lines.routes line (Ok b) c.take_line.new.routes) c.if-not-branch.true c.in_ok-take_line.ensures) (ap (λ (l : List Route). length l + 1) c.as_slice.ensures)

pub lines-preserved : goal.lines-preserved
lines-preserved c =
    let line = c.in-Some.line.now in
    let taken = subst (λ (b : Bool). Taken c.lines.routes line (Ok b) c.take_line.new.routes) c.if-not-branch.false c.in_ok-take_line.ensures in
    subst (λ (l : List Route). ReadSoFar c.args.text.now l c.in-Some.behind.now) (sym taken.2)
    (line_read c.args.text.now c.lines.routes c.lines.rest.now line c.in-Some.behind.now taken.0 c.lines.invariant c.in-Some.ensures.0 c.in-Some.ensures.1 taken.1)
