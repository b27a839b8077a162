-- Each line is one more that is taken, or the first that is refused.
use Rattle.std.proofs.Common.{arith, ◌∙◌}
use Rattle.sfc_config.proofs.RunLemmas.{line_within, so_far_more, to_come_less, parses_not, all_run, so_far_kept, parses_as_finished}
use Rattle.sfc_config.proofs.parsing.parse_setup.Goals as goal

pub overflow_add-number : goal.overflow_add-number
overflow_add-number c =
    let less = line_within c.args.text.now c.lines.number _ _ (c.lines.invariant.to_come ∙ c.in-Some.ensures) in
    omega (arith, less)

pub lines-preserved : goal.lines-preserved
lines-preserved c =
    let next = c.lines.invariant.to_come ∙ c.in-Some.ensures in
    record {
      so_far = so_far_more c.args.text.now c.lines.number _ _ _ _ next c.lines.invariant.so_far c.in-Ok.ensures;
      to_come = to_come_less c.args.text.now c.lines.number _ _ next;
    }

pub returns-in-Err : goal.returns-in-Err
returns-in-Err c =
    parses_not c.args.text.now c.lines.number _ _ c.lines.draft c.take_line.new.draft c.in-Err.fault _
    (c.lines.invariant.to_come ∙ c.in-Some.ensures) c.lines.invariant.so_far c.in-Err.ensures c.fault_at.ensures

pub finish-requires : goal.finish-requires
finish-requires c = so_far_kept c.args.text.now c.lines.number c.lines.draft c.lines.invariant.so_far

pub returns : goal.returns
returns c =
    parses_as_finished c.args.text.now c.lines.draft c.finish.result
    (all_run c.args.text.now c.lines.number c.lines.draft (c.lines.invariant.to_come ∙ c.in_default.ensures.0) c.lines.invariant.so_far) c.finish.ensures
