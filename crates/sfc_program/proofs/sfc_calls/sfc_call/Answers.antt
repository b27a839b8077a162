use Rattle.std.proofs.Common.{sym}
use Rattle.sfc_program.proofs.SfcCallLemmas.{of_row}
use Rattle.sfc_program.proofs.sfc_calls.sfc_call.Goals as goal

-- the row of the words is called
pub returns : goal.returns
returns g c =
    let all = of_row c.row_of-row.result c.args.words.now g.D.Desk.tells (g.D.Desk.held c.args.desk.now) (g.D.Desk.at c.args.desk.now) (g.D.Desk.at c.call_row.new.desk) c.call_row.result (sym c.row_of-row.ensures) c.call_row.ensures in
    record { words = all.words_fault; runs = all.runs; untouched = all.untouched; exact = all.exact }
