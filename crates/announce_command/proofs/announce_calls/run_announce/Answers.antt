use Rattle.std.proofs.Common.{inl, inr, [], ◌∷◌, subst}
use Rattle.sfc_desk.specs.declared.ports.Port.TheVariants.{Routes, Made}
use Rattle.sfc_desk.specs.Desks.{Files}
use Rattle.commands.specs.Commands.{Behaves}
use Rattle.commands.specs.Places.{opens}
use Rattle.announce_command.specs.AnnounceCommand.{announce_ports, AnnouncesOn}
use Rattle.announce_command.specs.AnnounceSteps.{announce_of}
use Rattle.announce_command.proofs.RunLemmas.{announce_row}
use Rattle.announce_command.proofs.announce_calls.run_announce.Goals as goal

-- there is a setup
pub returns-in-Ok-clause-runs : goal.returns-in-Ok-clause-runs
returns-in-Ok-clause-runs g c =
    let then = g.D.Desk.at c.args.desk.now in
    let now = g.D.Desk.at c.announce_on.new.desk in
    inr (
      c.in-Ok.setup,
      c.in-Ok.ensures.setup,
      subst (λ (held : Files). AnnouncesOn (announce_of c.args.said.now) c.in-Ok.setup g.D.Desk.tells held then now c.announce_on.result) c.in-Ok.ensures.files (c.announce_on.ensures.runs then c.in-Ok.ensures.opened),
    )

pub returns-in-Ok-clause-behaves : goal.returns-in-Ok-clause-behaves
returns-in-Ok-clause-behaves g c =
    let then = g.D.Desk.at c.args.desk.now in
    let now = g.D.Desk.at c.announce_on.new.desk in
    subst (λ (held : Files). Behaves (announce_ports (announce_of c.args.said.now)) g.D.Desk.tells held then now c.announce_on.result) c.in-Ok.ensures.files (c.announce_on.ensures.behaves then c.in-Ok.ensures.opened)

-- there is none
pub returns-in-Err-clause-runs : goal.returns-in-Err-clause-runs
returns-in-Err-clause-runs g c = inl c.in-Err.ensures.stops

pub returns-in-Err-clause-behaves : goal.returns-in-Err-clause-behaves
returns-in-Err-clause-behaves g c =
    let said = announce_of c.args.said.now in
    c.in-Err.ensures.behaves (opens Routes said.routes ∷ opens Made said.made ∷ []) (announce_row said)
