-- A line that is not made, of a record of the batch.
use Rattle.std.proofs.Common.{sym, subst}
use Rattle.record_text.specs.Lines.{Names}
use Rattle.round_outputs.proofs.BatchLemmas.{no_frame}
use Rattle.round_outputs.proofs.PutLemmas.{puts_refused}
use Rattle.round_outputs.proofs.lines_put.put_line.Goals as goal

pub returns-in_default : goal.returns-in_default
returns-in_default g c = λ d. puts_refused g.D.Desk.tells (g.D.Desk.at c.args.desk.now) (g.D.Desk.held c.args.desk.now) c.args.lines.now _ c.requires.bound

pub append_record-requires : goal.append_record-requires
append_record-requires g c =
    subst (Names c.args.roster.now) (sym (c.end_of.ensures no_frame)) (c.requires.named c.args.i no_frame c.requires.there)

pub returns-then-is_err : goal.returns-then-is_err
returns-then-is_err g c = λ d. puts_refused g.D.Desk.tells (g.D.Desk.at c.args.desk.now) (g.D.Desk.held c.args.desk.now) c.args.lines.now _ c.requires.bound
