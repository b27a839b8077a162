-- What was put is written.
use Rattle.file_runs.specs.RunPuts.{batch_texts}
use Rattle.file_runs.proofs.PutLemmas.{puts_written}
use Rattle.file_runs.proofs.run_outputs.RunOutputs.put_round.Goals as goal

pub returns : goal.returns
returns g c =
    puts_written g.D.Desk.tells (g.D.Desk.at c.args.desk.now) (g.D.Desk.at c.put_texts.new.desk) (g.D.Desk.at c.write_waiting.new.desk) (g.D.Desk.held c.args.desk.now) (g.D.Desk.held c.put_texts.new.desk) (g.D.Desk.held c.write_waiting.new.desk)
    c.args.self.now c.put_texts.new.self c.write_waiting.new.self c.write_waiting.result (batch_texts c.args.form c.args.roster.now c.args.place c.args.batch.now c.args.replies.now) c.in_default.ensures c.write_waiting.ensures.puts
