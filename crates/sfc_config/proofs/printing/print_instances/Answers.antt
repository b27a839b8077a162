-- The instance at the place is written, and those behind it are to come.
use Rattle.std.proofs.Common.{◌<◌, length, arith, ◌∙◌}
use Rattle.std.proofs.lemmas.List.{get_or_default}
use Rattle.sfc_config.proofs.PrintLemmas.{next_instance, all_instances}
use Rattle.sfc_config.proofs.printing.print_instances.Goals as goal

pub loop-i-preserved : goal.loop-i-preserved
loop-i-preserved c =
    let within : c.loop-i.i < length c.args.bounds.now = omega (arith, c.loop-i-test.true, c.instances-i-end.ensures.value, c.requires) in
    next_instance c.args.roster.now.instances c.args.bounds.now c.loop-i.i c.instance_name.result.now c.rd_of-rd.result c.kind_of.result c.index-bounds-i.result _ _ _
    (omega (arith, c.loop-i-test.true, c.instances-i-end.ensures.value)) within
    c.instance_name.ensures c.rd_of-rd.ensures c.kind_of.ensures
    (λ d. c.index-bounds-i.is ∙ get_or_default c.args.bounds.now c.loop-i.i c.index-bounds-i.result d within)
    c.in_ok-print_instance.ensures c.loop-i.invariant

pub returns : goal.returns
returns c =
    all_instances c.args.roster.now.instances c.args.bounds.now c.loop-i.i c.loop-i.out _
    (omega (arith, c.loop-i-test.false, c.instances-i-end.ensures.value)) c.loop-i.invariant
