use Rattle.sfc_desk.specs.declared.ports.Port.TheVariants as ports
use Rattle.commands.proofs.FrontLemmas.{front_behind}
use Rattle.commands.proofs.reports.report.Goals as goal

-- what Report took stands behind what it had, and is a front of the text
pub returns-clause-front : goal.returns-clause-front
returns-clause-front g c = λ tells.
    front_behind (g.D.Desk.at c.args.desk.now ports.Report).written (g.D.Desk.at c.write_all.new.desk ports.Report).written c.args.text.now
    (c.write_all.ensures.grows tells) (c.write_all.ensures.front tells)
