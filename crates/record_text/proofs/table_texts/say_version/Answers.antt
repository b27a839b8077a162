-- A front of the words is a front of the line.
use Rattle.text_words.proofs.PrintingLemmas.{fails}
use Rattle.record_text.proofs.AppendLemmas.{front_here}
use Rattle.record_text.proofs.table_texts.say_version.Goals as goal

pub returns-in_err-say_number-clause-err : goal.returns-in_err-say_number-clause-err
returns-in_err-say_number-clause-err c = fails _ c.from_residual.result (front_here _ _ _ _ c.in_err-say_number.ensures.err)
