-- A refusal is told no later than where the content ends.
use Rattle.std.proofs.Common.{arith}
use Rattle.bgp_update.proofs.RefusalLemmas.{refused_place}
use Rattle.sfc_texts.proofs.bgp_text.show_update.Goals as goal

pub overflow_add-told-in-Err : goal.overflow_add-told-in-Err
overflow_add-told-in-Err c = omega (arith, c.requires, refused_place c.args.content.now c.in-Err.inside c.in-Err.ensures)
