-- The next word is decided, and then those behind it.
use Rattle.route_texts.specs.RouteLines.{SpellsHop}
use Rattle.route_texts.proofs.DecisionLemmas.{leads_next, leads_end}
use Rattle.route_texts.proofs.decisions.decide_hops.Goals as goal

pub words-preserved : goal.words-preserved
words-preserved c =
    leads_next SpellsHop c.words.words c.args.words.now c.in-Some.word.now c.next.new.self c.words.invariant c.in-Some.ensures c.decide_hop.ensures

pub returns : goal.returns
returns c = leads_end SpellsHop c.words.words c.args.words.now c.words.invariant c.in_default.ensures.0
