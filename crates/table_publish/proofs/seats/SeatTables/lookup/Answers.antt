use Rattle.table_publish.proofs.LookLemmas.{look_grows, look_answers, look_names}
use Rattle.table_publish.proofs.seats.SeatTables.lookup.Goals as goal

pub returns-clause-grows : goal.returns-clause-grows
returns-clause-grows c = look_grows c.look.result _ _ c.args.spi c.args.si c.look.ensures

pub returns-clause-answers : goal.returns-clause-answers
returns-clause-answers c = look_answers c.look.result _ _ c.args.spi c.args.si c.look.ensures

pub returns-clause-version : goal.returns-clause-version
returns-clause-version c = look_names c.look.result _ _ c.args.spi c.args.si c.look.ensures
