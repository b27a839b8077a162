-- Its types decide.
use Rattle.route_texts.proofs.DecisionLemmas.{hop_decided}
use Rattle.route_texts.proofs.decisions.decide_hop.Goals as goal

pub returns : goal.returns
returns c = hop_decided c.args.word.now c.in-Some.field-0-0 c.in-Some.list.now c.in-Some.ensures.0 c.in-Some.ensures.1 c.decide_sfts.ensures
