-- A front of the one at the place, behind those before it.
use Rattle.std.proofs.Common.{◌∷◌}
use Rattle.record_text.specs.Names.{instance_text}
use Rattle.std.proofs.lemmas.List.{get_or_default}
use Rattle.text_words.proofs.PrintingLemmas.{fails}
use Rattle.record_text.proofs.AppendLemmas.{front_so_far}
use Rattle.record_text.proofs.list_text.say_other_instances.Goals as goal

pub returns-in_err-say_next-clause-err : goal.returns-in_err-say_next-clause-err
returns-in_err-say_next-clause-err c =
    fails _ c.from_residual.result
    (front_so_far (λ i. 44 ∷ instance_text c.args.roster.now i) c.args.instances.now c.loop-id.id-index _ _ _ _ c.loop-id-test.true (λ d. get_or_default c.args.instances.now c.loop-id.id-index _ d c.loop-id-test.true)
    c.in_err-say_next.ensures.err c.loop-id.invariant)
