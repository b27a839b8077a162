-- The first name, and each other behind a comma.
use Rattle.std.proofs.Common.{sym, ap, subst, ◌∙◌, ◌++◌}
use Rattle.std.specs.Prelude.{map}
use Rattle.std.specs.List.{All}
use Rattle.std.proofs.lemmas.List.Elements.{All-tail}
use Rattle.record_text.specs.Names.{IsInstance, instance_text}
use Rattle.record_text.specs.Lists.{list_text}
use Rattle.text_words.proofs.PrintingLemmas.{fails}
use Rattle.record_text.proofs.AppendLemmas.{front_here, front_behind, front_same, all_behind, join_behind}
use Rattle.record_text.proofs.list_text.say_instances.Goals as goal

pub returns-in_err-say_instance-in-Some-clause-err : goal.returns-in_err-say_instance-in-Some-clause-err
returns-in_err-say_instance-in-Some-clause-err c =
    let f = instance_text c.args.roster.now in
    fails _ c.from_residual.result
    (front_same _ _ _ _ (sym (ap (λ ns. list_text (map f ns)) c.in-Some.ensures.cases.0 ∙ join_behind 44 f (f c.in-Some.first.now) c.in-Some.others.now))
    (front_here _ _ _ _ c.in_err-say_instance-in-Some.ensures.err))

pub say_other_instances-requires : goal.say_other_instances-requires
say_other_instances-requires c =
    All-tail (IsInstance c.args.roster.now) c.in-Some.first.now c.in-Some.others.now (subst (All (IsInstance c.args.roster.now)) c.in-Some.ensures.cases.0 c.requires)

pub returns-in_err-say_other_instances-in-Some-clause-err : goal.returns-in_err-say_other_instances-in-Some-clause-err
returns-in_err-say_other_instances-in-Some-clause-err c =
    let f = instance_text c.args.roster.now in
    fails _ c.from_residual-in_err-say_other_instances-in-Some.result
    (front_same _ _ _ _ (sym (ap (λ ns. list_text (map f ns)) c.in-Some.ensures.cases.0 ∙ join_behind 44 f (f c.in-Some.first.now) c.in-Some.others.now))
    (front_behind _ _ _ _ _ c.in_ok-say_instance-in-Some.ensures.ok c.in_err-say_other_instances-in-Some.ensures.err))

pub returns-in_ok-say_other_instances-in-Some-clause-ok : goal.returns-in_ok-say_other_instances-in-Some-clause-ok
returns-in_ok-say_other_instances-in-Some-clause-ok c =
    let f = instance_text c.args.roster.now in
    all_behind _ _ _ _ _ c.in_ok-say_instance-in-Some.ensures.ok c.in_ok-say_other_instances-in-Some.ensures.ok
    ∙ ap (λ t. c.args.out.now ++ t)
    (sym (ap (λ ns. list_text (map f ns)) c.in-Some.ensures.cases.0 ∙ join_behind 44 f (f c.in-Some.first.now) c.in-Some.others.now))
