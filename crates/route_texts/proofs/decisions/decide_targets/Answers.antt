-- A dash, or some targets.
use Rattle.route_texts.proofs.DecisionLemmas.{targets_decided}
use Rattle.route_texts.proofs.decisions.decide_targets.Goals as goal

pub returns : goal.returns
returns c = targets_decided c.args.word.now c.decide_some_targets.ensures
