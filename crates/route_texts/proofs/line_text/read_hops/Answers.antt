-- One hop more is that of the next word, or the word spells none.
use Rattle.std.proofs.Common.{List, Option, Ok, sym, subst}
use Rattle.sfp_attribute.specs.declared.sfps.Part.{Part}
use Rattle.route_texts.specs.RouteLines.{SpellsHop}
use Rattle.route_texts.specs.Steps.{Found}
use Rattle.route_texts.proofs.EachLemmas.{Seen, seen_more, seen_bad}
use Rattle.route_texts.proofs.line_text.read_hops.Goals as goal

pub returns-in_default-2 : goal.returns-in_default-2
returns-in_default-2 c = λ v each.
    seen_bad SpellsHop c.args.words.now c.words.words c.in-Some.word.now c.next.new.self c.words.hops c.words.invariant c.in-Some.ensures
    (subst (λ (o : Option Part). Found SpellsHop c.in-Some.word.now (Ok o)) c.in_default-2.is c.in_ok-hop.ensures) v each

pub words-preserved : goal.words-preserved
words-preserved c =
    subst (λ (l : List Part). Seen SpellsHop c.args.words.now c.next.new.self l) (sym c.in_ok-push.ensures.ok)
    (seen_more SpellsHop c.args.words.now c.words.words c.in-Some.word.now c.next.new.self c.words.hops c.in-Some-2.hop
    c.words.invariant c.in-Some.ensures
    (subst (λ (o : Option Part). Found SpellsHop c.in-Some.word.now (Ok o)) c.in-Some-2.is c.in_ok-hop.ensures))
