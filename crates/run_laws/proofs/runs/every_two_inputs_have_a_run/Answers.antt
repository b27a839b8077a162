-- What the rounds say, one behind the other, is a run.
use Rattle.run_laws.proofs.RunExists.{some_single}
use Rattle.run_laws.proofs.runs.every_two_inputs_have_a_run.Goals as goal

pub returns-clause-single : goal.returns-clause-single
returns-clause-single c = some_single c.every_round_says_something.ensures.single c.one_list_of_rounds.ensures.some c.a_single_run_is_what_its_rounds_say.ensures.run

pub returns-clause-workers : goal.returns-clause-workers
returns-clause-workers c = λ setup workers frames segments parts is some.
    let single = some_single c.every_round_says_something.ensures.single c.one_list_of_rounds.ensures.some c.a_single_run_is_what_its_rounds_say.ensures.run setup frames segments parts is in
    (single.0, c.a_single_run_is_a_run.ensures.run setup frames segments workers single.0 some single.1)
