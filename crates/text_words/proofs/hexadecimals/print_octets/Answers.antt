-- Run after run; where one is not printed, a front of the digits was.
use Rattle.text_words.proofs.HexLemmas.{none_so_far, run_so_far, all_printed, front_printed}
use Rattle.text_words.proofs.PrintingLemmas.{fails}
use Rattle.text_words.proofs.hexadecimals.print_octets.Goals as goal

pub returns-in_err-print_run-clause-err : goal.returns-in_err-print_run-clause-err
returns-in_err-print_run-clause-err c =
    fails _ c.from_residual.result (front_printed c.args.out.now c.loop-rest.out c.print_run.new.out c.loop-rest.rest.now c.args.octets.now c.loop-rest.invariant c.in_err-print_run.ensures.err)

pub loop-rest-preserved : goal.loop-rest-preserved
loop-rest-preserved c =
    run_so_far c.args.out.now c.loop-rest.out c.print_run.new.out c.split_at.result.0.now c.split_at.result.1.now c.loop-rest.rest.now c.args.octets.now
    c.loop-rest.invariant c.in_ok-print_run.ensures.ok c.split_at.ensures.by_index.0

pub returns-in_err-print_run-2-clause-err : goal.returns-in_err-print_run-2-clause-err
returns-in_err-print_run-2-clause-err c =
    fails _ c.from_residual-in_err-print_run-2.result (front_printed c.args.out.now c.loop-rest.out c.print_run-2.new.out c.loop-rest.rest.now c.args.octets.now c.loop-rest.invariant c.in_err-print_run-2.ensures.err)

pub loop-rest-init : goal.loop-rest-init
loop-rest-init c = none_so_far c.args.out.now c.args.octets.now

pub returns-clause-ok : goal.returns-clause-ok
returns-clause-ok c =
    all_printed c.args.out.now c.loop-rest.out c.print_run-2.new.out c.loop-rest.rest.now c.args.octets.now c.loop-rest.invariant c.in_ok-print_run-2.ensures.ok
