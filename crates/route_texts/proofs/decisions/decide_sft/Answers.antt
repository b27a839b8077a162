-- Its RDs decide.
use Rattle.route_texts.proofs.DecisionLemmas.{sft_decided}
use Rattle.route_texts.proofs.decisions.decide_sft.Goals as goal

pub returns : goal.returns
returns c = sft_decided c.args.word.now c.in-Some.field-0-0 c.in-Some.list.now c.in-Some.ensures.0 c.in-Some.ensures.1 c.decide_rds.ensures
