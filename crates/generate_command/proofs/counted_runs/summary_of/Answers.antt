-- The run begins with all of the inputs left, and ends with none.
use Rattle.generated_inputs.proofs.InputLemmas.{may_run}
use Rattle.generate_command.specs.GenerateSteps.{in_memory}
use Rattle.generate_command.proofs.WholeLemmas.{along_lent, counted_whole}
use Rattle.generate_command.proofs.counted_runs.summary_of.Goals as goal

pub run_rounds-requires : goal.run_rounds-requires
run_rounds-requires c =
    let input = c.in_ok-setup.field-0 in
    let may = may_run c.args.seed c.args.count input.setup input.frames input.segments c.requires.most c.in_ok-setup.ensures in (
      input.setup,
      in_memory input.frames input.segments,
      along_lent input.setup input.frames c.as_slice.result.now input.segments c.as_slice-2.result.now c.in_ok-run.run' may c.in_ok-run.ensures.setup c.in_ok-run.ensures.stands c.in_ok-run.ensures.hold c.in_ok-run.ensures.summary c.as_slice.ensures
          c.as_slice-2.ensures,
    )

pub returns : goal.returns
returns c =
    let input = c.in_ok-setup.field-0 in
    let may = may_run c.args.seed c.args.count input.setup input.frames input.segments c.requires.most c.in_ok-setup.ensures in
    counted_whole c.a_single_run_is_what_its_rounds_say.ensures.run c.args.seed c.args.count input.setup input.frames input.segments c.run_rounds.new.run c.in_ok-setup.ensures may.of_peers
    (c.in_ok-run_rounds.ensures input.setup (in_memory input.frames input.segments)
    (along_lent input.setup input.frames c.as_slice.result.now input.segments c.as_slice-2.result.now c.in_ok-run.run' may c.in_ok-run.ensures.setup c.in_ok-run.ensures.stands c.in_ok-run.ensures.hold c.in_ok-run.ensures.summary c.as_slice.ensures
    c.as_slice-2.ensures))
