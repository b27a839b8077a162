-- There is no setup, or a port behind it was not bound, or the run was done.
use Rattle.std.proofs.Common.{◌≡◌, ◌≢◌, inl, inr, true, [], subst}
use Rattle.sfc_desk.specs.declared.ports.Port.TheVariants as ports
use Rattle.sfc_desk.specs.Desks.{Files}
use Rattle.commands.specs.Openings.{StopsAt}
use Rattle.commands.proofs.PlaceLemmas.{behaves_so}
use Rattle.worker_run.specs.Runs.{run_says}
use Rattle.sfc_config.specs.Parts.{AreParts}
use Rattle.file_runs.specs.RunTexts.{AreRuns}
use Rattle.file_runs.specs.FileRuns.{HasCapture, TookFrontsOfSome, run_ports}
use Rattle.file_runs.specs.RunSteps.{HoldsInputs, files_of}
use Rattle.file_runs.proofs.CallLemmas.{fails_from, later_ports, outside_run, run_row, stops_some, works_from}
use Rattle.run_command.specs.RunCommand.{IsRunOn}
use Rattle.run_command.proofs.run_calls.run_threaded.Goals as goal

pub returns-in-Err-clause-behaves : goal.returns-in-Err-clause-behaves
returns-in-Err-clause-behaves g c = let files = files_of c.args.said.now.files in c.in-Err.ensures.behaves (later_ports files) (run_row files)

pub returns-in-Err-open_files-clause-runs : goal.returns-in-Err-open_files-clause-runs
returns-in-Err-open_files-clause-runs g c =
    let files = files_of c.args.said.now.files in
    let stops = c.in-Err-open_files.ensures.stops (g.D.Desk.at c.args.desk.now) c.in-Ok.ensures.opened in
    let there = subst (λ (held : Files). c.in-Err-open_files.port ≢ ports.Capture → g.D.Desk.tells ≡ true → HasCapture files held) c.read_setup.ensures.files c.in-Err-open_files.ensures.there in
    inr (c.in-Ok.setup, c.in-Ok.ensures.setup, (c.in-Err-open_files.ensures.run, there, λ told. inl (stops.nothing told)))

pub returns-in-Err-open_files-clause-behaves : goal.returns-in-Err-open_files-clause-behaves
returns-in-Err-open_files-clause-behaves g c =
    let files = files_of c.args.said.now.files in
    let then = g.D.Desk.at c.args.desk.now in
    let stops = c.in-Err-open_files.ensures.stops then c.in-Ok.ensures.opened in
    (subst (λ (held : Files). StopsAt (run_ports files) g.D.Desk.tells held then (g.D.Desk.at c.open_files.new.desk) c.in-Err-open_files.port) c.read_setup.ensures.files stops).behaves

pub returns-clause-runs : goal.returns-clause-runs
returns-clause-runs g c =
    let files = files_of c.args.said.now.files in
    let then = g.D.Desk.at c.args.desk.now in
    let mid = g.D.Desk.at c.open_files.new.desk in
    let says = c.threaded_stream.ensures in
    let workers = c.args.said.now.workers in
    let runs : AreParts c.in-Ok.setup → AreRuns c.in-Ok.setup (run_says c.in-Ok.setup workers) (IsRunOn workers c.in-Ok.setup) =
    λ parts. record {
      run = λ frames segments rounds records of_peers are lines. c.records_of_a_run_tell_their_ways.ensures c.in-Ok.setup workers frames segments records parts
          (c.a_run_is_what_its_rounds_say.ensures.run c.in-Ok.setup workers frames segments rounds records of_peers are lines);
      rounds = λ frames segments records told. c.a_run_is_what_its_rounds_say.ensures.rounds c.in-Ok.setup workers frames segments records told.run;
    } in
    inr (
      c.in-Ok.setup,
      c.in-Ok.ensures.setup,
      works_from (run_says c.in-Ok.setup workers) (IsRunOn workers) TookFrontsOfSome files c.in-Ok.setup g.D.Desk.tells (g.D.Desk.held c.args.desk.now) then mid (g.D.Desk.at c.threaded_stream.new.desk) c.threaded_stream.result
          (c.in_default.ensures.opens then c.in-Ok.ensures.opened) says.none_bound
          (λ told. let holds = subst (λ (held : Files). HoldsInputs files held mid) c.read_setup.ensures.files (c.in_default.ensures.holds told) in record { capture = holds.capture; control = holds.control })
          runs
          (λ opened are stopped. stops_some c.segments_have_one_log.ensures (run_says c.in-Ok.setup workers) (IsRunOn workers) files c.in-Ok.setup g.D.Desk.tells (g.D.Desk.held c.args.desk.now) then mid (g.D.Desk.at c.threaded_stream.new.desk) runs opened are stopped)
          says.works,
    )

pub returns-clause-behaves : goal.returns-clause-behaves
returns-clause-behaves g c =
    let files = files_of c.args.said.now.files in
    let then = g.D.Desk.at c.args.desk.now in
    let mid = g.D.Desk.at c.open_files.new.desk in
    let now = g.D.Desk.at c.threaded_stream.new.desk in
    let says = c.threaded_stream.ensures in
    let workers = c.args.said.now.workers in
    behaves_so (run_ports files) [] g.D.Desk.tells (g.D.Desk.held c.args.desk.now) then mid now c.threaded_stream.result (run_row files) (c.in_default.ensures.opens then c.in-Ok.ensures.opened) says.none_bound
    (λ port outside. says.others port (outside_run files port outside))
    (λ port is. fails_from (run_says c.in-Ok.setup workers) files c.in-Ok.setup g.D.Desk.tells mid now c.threaded_stream.result port says.works is)
    says.counts
