-- Without a form nothing is put.
use Rattle.std.proofs.Common.{Ok, Option, sym, subst}
use Rattle.sfc_desk.specs.declared.ports.Port.TheVariants.{Egress}
use Rattle.pcap_io.specs.declared.forms.Form.{Form}
use Rattle.file_runs.specs.RunPuts.{PutsAt, head_in}
use Rattle.file_runs.proofs.PutLemmas.{put_nothing}
use Rattle.file_runs.proofs.run_outputs.put_head.Goals as goal

pub returns-in-None : goal.returns-in-None
returns-in-None g c =
    let at = g.D.Desk.at c.args.desk.now in
    let held = g.D.Desk.held c.args.desk.now in
    let egress = c.args.egress.now in
    subst (λ (f : Option Form). PutsAt g.D.Desk.tells Egress at at held held egress egress (Ok tt) (head_in f)) (sym c.in-None.is)
    (put_nothing g.D.Desk.tells Egress at held egress c.requires.own c.requires.bound)
