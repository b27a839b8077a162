-- What waits is written.
use Rattle.file_runs.proofs.PutLemmas.{finishes}
use Rattle.file_runs.proofs.run_outputs.RunOutputs.finish.Goals as goal

pub returns : goal.returns
returns g c =
    finishes g.D.Desk.tells (g.D.Desk.at c.args.desk.now) (g.D.Desk.at c.write_waiting.new.desk) (g.D.Desk.held c.args.desk.now) (g.D.Desk.held c.write_waiting.new.desk) c.args.self.now c.write_waiting.new.self c.write_waiting.result
    c.write_waiting.ensures.nothing c.write_waiting.ensures.puts
