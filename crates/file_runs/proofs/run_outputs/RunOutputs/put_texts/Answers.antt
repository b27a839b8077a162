-- The egress, then the lines, then the replies.
use Rattle.file_runs.specs.RunPuts.{batch_texts}
use Rattle.file_runs.proofs.PutLemmas.{puts_all, stops_at_egress, stops_at_lines}
use Rattle.file_runs.proofs.run_outputs.RunOutputs.put_texts.Goals as goal

pub returns-in-Err : goal.returns-in-Err
returns-in-Err g c =
    stops_at_egress g.D.Desk.tells (g.D.Desk.at c.args.desk.now) (g.D.Desk.at c.put_egress.new.desk) (g.D.Desk.held c.args.desk.now) (g.D.Desk.held c.put_egress.new.desk) c.args.self.now c.put_egress.new.egress c.in-Err.halt
    (batch_texts c.args.form c.args.roster.now c.args.place c.args.batch.now c.args.replies.now) c.requires.ready c.in-Err.ensures

pub returns-in-Err-put_records : goal.returns-in-Err-put_records
returns-in-Err-put_records g c =
    stops_at_lines g.D.Desk.tells (g.D.Desk.at c.args.desk.now) (g.D.Desk.at c.put_egress.new.desk) (g.D.Desk.at c.put_records.new.desk) (g.D.Desk.held c.args.desk.now) (g.D.Desk.held c.put_egress.new.desk) (g.D.Desk.held c.put_records.new.desk)
    c.args.self.now c.put_egress.new.egress c.put_records.new.lines c.put_records.new.text c.in-Err-put_records.halt
    (batch_texts c.args.form c.args.roster.now c.args.place c.args.batch.now c.args.replies.now) c.requires.ready c.in_default.ensures c.in-Err-put_records.ensures

pub returns : goal.returns
returns g c =
    puts_all g.D.Desk.tells (g.D.Desk.at c.args.desk.now) (g.D.Desk.at c.put_egress.new.desk) (g.D.Desk.at c.put_records.new.desk) (g.D.Desk.at c.put_bytes.new.desk)
    (g.D.Desk.held c.args.desk.now) (g.D.Desk.held c.put_egress.new.desk) (g.D.Desk.held c.put_records.new.desk) (g.D.Desk.held c.put_bytes.new.desk)
    c.args.self.now c.put_egress.new.egress c.put_records.new.lines c.put_bytes.new.output c.put_records.new.text c.put_bytes.result
    (batch_texts c.args.form c.args.roster.now c.args.place c.args.batch.now c.args.replies.now) c.requires.ready c.in_default.ensures c.in_default-put_records.ensures c.put_bytes.ensures
