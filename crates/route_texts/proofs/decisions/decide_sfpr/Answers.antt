-- Its targets and its hops decide.
use Rattle.route_texts.proofs.DecisionLemmas.{sfpr_decided}
use Rattle.route_texts.proofs.decisions.decide_sfpr.Goals as goal

pub returns : goal.returns
returns c = sfpr_decided c.args.words.now c.in-Some.list.now c.sfpr_list.new.words c.in-Some.ensures c.decide_targets.ensures c.decide_hops.ensures
