-- No RDs, or some.
use Rattle.route_texts.proofs.DecisionLemmas.{rds_decided}
use Rattle.route_texts.proofs.decisions.decide_rds.Goals as goal

pub returns : goal.returns
returns c = rds_decided c.args.word.now c.decide_some_rds.ensures
