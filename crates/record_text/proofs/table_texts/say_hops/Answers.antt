-- A front of the one at the place, behind those before it.
use Rattle.std.proofs.Common.{◌∷◌}
use Rattle.record_text.specs.Tables.{hop_text}
use Rattle.std.proofs.lemmas.List.{get_or_default}
use Rattle.text_words.proofs.PrintingLemmas.{fails}
use Rattle.record_text.proofs.AppendLemmas.{front_so_far}
use Rattle.record_text.proofs.table_texts.say_hops.Goals as goal

pub returns-in_err-say_hop-clause-err : goal.returns-in_err-say_hop-clause-err
returns-in_err-say_hop-clause-err c =
    fails _ c.from_residual.result
    (front_so_far (λ row. 32 ∷ hop_text c.args.roster.now row) c.args.rows.now c.loop-row.row-index _ _ _ _ c.loop-row-test.true (λ d. get_or_default c.args.rows.now c.loop-row.row-index _ d c.loop-row-test.true)
    c.in_err-say_hop.ensures.err c.loop-row.invariant)
