-- Only the egress was written to.
use Rattle.file_runs.specs.RunPuts.{head_in}
use Rattle.file_runs.proofs.PutLemmas.{puts_head}
use Rattle.file_runs.proofs.run_outputs.RunOutputs.put_header.Goals as goal

pub returns : goal.returns
returns g c =
    puts_head g.D.Desk.tells (g.D.Desk.at c.args.desk.now) (g.D.Desk.at c.put_head.new.desk) (g.D.Desk.held c.args.desk.now) (g.D.Desk.held c.put_head.new.desk) c.args.self.now c.put_head.new.egress c.put_head.result (head_in c.args.form)
    c.requires.ready c.put_head.ensures
