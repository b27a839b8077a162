use Rattle.commands.proofs.PlaceLemmas.{opened_next, opened_stops}
use Rattle.commands.proofs.openings.open_port.Goals as goal

-- one more port of the row is bound
pub returns-clause-opens : goal.returns-clause-opens
returns-clause-opens g c = λ done then row was.
    opened_next c.bind.result done c.args.port c.args.name.now g.D.Desk.tells then (g.D.Desk.at c.args.desk.now) (g.D.Desk.at c.bind.new.self) row was
    c.bind.ensures.counted c.bind.ensures.named c.bind.ensures.output c.bind.ensures.quiet c.bind.ensures.touches.elsewhere

-- or the call stops there
pub returns-clause-stops : goal.returns-clause-stops
returns-clause-stops g c = λ done later then row was.
    opened_stops c.bind.result done later c.args.port c.args.name.now g.D.Desk.tells (g.D.Desk.held c.args.desk.now) then (g.D.Desk.at c.args.desk.now) (g.D.Desk.at c.bind.new.self) row was
    c.bind.ensures.uncounted c.bind.ensures.kept c.bind.ensures.cause c.bind.ensures.touches.elsewhere
