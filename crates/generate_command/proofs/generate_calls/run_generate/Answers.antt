-- The line was written to Report, or a front of it.
use Rattle.generate_command.specs.GenerateSteps.{generate_of}
use Rattle.generate_command.proofs.GenerateLemmas.{behaves_failed, behaves_ok, took_front, took_line}
use Rattle.generate_command.proofs.generate_calls.run_generate.Goals as goal

pub returns-in-Ok-report-clause-runs : goal.returns-in-Ok-report-clause-runs
returns-in-Ok-report-clause-runs g c = λ told.
    took_line (generate_of c.args.said) c.in-Ok.line c.as_slice.result.now (g.D.Desk.at c.args.desk.now) (g.D.Desk.at c.report.new.desk) c.in-Ok.ensures c.as_slice.ensures (c.in-Ok-report.ensures.ok told)

pub returns-in-Ok-report-clause-behaves : goal.returns-in-Ok-report-clause-behaves
returns-in-Ok-report-clause-behaves g c =
    behaves_ok (generate_of c.args.said) g.D.Desk.tells (g.D.Desk.held c.args.desk.now) (g.D.Desk.held c.report.new.desk) (g.D.Desk.at c.args.desk.now) (g.D.Desk.at c.report.new.desk) c.report.ensures.moves c.in-Ok-report.ensures.quiet

pub returns-clause-runs : goal.returns-clause-runs
returns-clause-runs g c = λ told.
    took_front (generate_of c.args.said) c.in-Ok.line c.as_slice.result.now (g.D.Desk.at c.args.desk.now) (g.D.Desk.at c.report.new.desk) c.in-Ok.ensures c.as_slice.ensures (c.report.ensures.front told)

pub returns-clause-behaves : goal.returns-clause-behaves
returns-clause-behaves g c =
    behaves_failed (generate_of c.args.said) g.D.Desk.tells (g.D.Desk.held c.args.desk.now) (g.D.Desk.held c.report.new.desk) (g.D.Desk.at c.args.desk.now) (g.D.Desk.at c.report.new.desk) c.report.ensures.moves c.in-Err.ensures.cause
