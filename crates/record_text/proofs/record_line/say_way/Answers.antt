-- The parts in turn, and a front of one of them.
use Rattle.std.proofs.Common.{◌∙◌, ◌++◌, ap}
use Rattle.std.specs.Prelude.{map}
use Rattle.text_words.proofs.PrintingLemmas.{fails}
use Rattle.record_text.specs.Names.{instance_text}
use Rattle.record_text.specs.Lists.{list_text}
use Rattle.record_text.proofs.AppendLemmas.{front_here, front_behind}
use Rattle.record_text.proofs.record_line.say_way.Goals as goal

pub returns-in_err-say_end-clause-err : goal.returns-in_err-say_end-clause-err
returns-in_err-say_end-clause-err c =
    fails _ c.from_residual-in_err-say_end.result
    (front_behind _ _ _ _ _ c.in_ok-push_all.ensures.ok
    (front_behind _ _ _ _ _ (c.in_ok-say_instances.ensures.ok ∙ ap (λ is. c.push_all.new.self ++ list_text (map (instance_text c.args.roster.now) is)) c.as_slice.ensures.value)
    (front_behind _ _ _ _ _ c.in_ok-push_all-2.ensures.ok (front_here _ _ _ _ c.in_err-say_end.ensures.err))))
