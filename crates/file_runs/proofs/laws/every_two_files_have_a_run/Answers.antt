-- The frames and segments that count have a run, and its records put their texts at the outputs.
use Rattle.worker_run.specs.Runs.{IsRun, IsSingle}
use Rattle.file_runs.proofs.WritingExists.{some_writing}
use Rattle.file_runs.proofs.laws.every_two_files_have_a_run.Goals as goal

pub returns-clause-single : goal.returns-clause-single
returns-clause-single c = λ setup capture control parts of_capture of_control.
    some_writing c.every_two_files_are_read.ensures c.every_list_of_segments_has_a_log.ensures (IsSingle setup) setup
    (λ frames segments is. c.every_two_inputs_have_a_run.ensures.single setup frames segments parts is) capture control parts of_capture of_control

pub returns-clause-workers : goal.returns-clause-workers
returns-clause-workers c = λ setup workers capture control parts of_capture of_control some.
    some_writing c.every_two_files_are_read.ensures c.every_list_of_segments_has_a_log.ensures (λ frames segments records. IsRun setup frames segments workers records) setup
    (λ frames segments is. c.every_two_inputs_have_a_run.ensures.workers setup workers frames segments parts is some) capture control parts of_capture of_control
