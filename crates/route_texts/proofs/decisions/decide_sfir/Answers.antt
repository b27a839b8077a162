-- Its targets decide.
use Rattle.route_texts.proofs.DecisionLemmas.{sfir_decided}
use Rattle.route_texts.proofs.decisions.decide_sfir.Goals as goal

pub returns : goal.returns
returns c = sfir_decided c.args.words.now c.in-Some.list.now c.in-Some.ensures c.decide_targets.ensures
