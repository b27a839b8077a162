-- One route more is put, and the others are left.
use Rattle.std.proofs.Common.{◌≡◌, List, [], ◌∷◌, ◌++◌, rules, reverse, ap, sym, subst, ◌∙◌, arith}
use Rattle.std.specs.List.{AllByRecursion}
use Rattle.std.proofs.lemmas.List.{reverse-append}
use Rattle.sfc_routes.specs.PeerRoutes.{PeerRoute, RouteFits}
use Rattle.sfc_routes.specs.RouteLists.{PutsAll}
use Rattle.sfc_routes.proofs.MemberLemmas.{all_front}
use Rattle.sfc_routes.proofs.WordLemmas.{puts_none, puts_more}
use Rattle.sfc_routes.proofs.route_edits.put_all.Goals as goal

pub loop-held-preserved : goal.loop-held-preserved
loop-held-preserved c =
    let held : PeerRoute = c.in-Some.held in
    let left : List PeerRoute = c.pop.new.self.items in
    let split : c.loop-held.fresh.items ≡ left ++ held ∷ [] = c.in-Some.ensures.items in
    let turned : reverse c.loop-held.fresh.items ≡ held ∷ reverse left = ap reverse split ∙ reverse-append left (held ∷ []) in
    let P : PeerRoute → Type 0 = λ e. RouteFits e.route in (
      c.put.ensures.kept,
      all_front P left (held ∷ []) (subst (AllByRecursion P) split c.loop-held.invariant.1),
      omega (arith, c.put.ensures.more, c.put.ensures.capacity, c.in-Some.ensures.cases, c.loop-held.invariant.2),
      λ end puts. c.loop-held.invariant.3 end (subst (λ (l : List PeerRoute). PutsAll l c.loop-held.entries.items end) (sym turned)
          (puts_more held (reverse left) c.loop-held.entries.items c.put.new.entries.items end c.put.ensures.put puts)),
    )

pub returns-clause-put : goal.returns-clause-put
returns-clause-put c =
    let none : c.loop-held.fresh.items ≡ [] = search rules in
    c.loop-held.invariant.3 c.loop-held.entries.items (subst (λ (l : List PeerRoute). PutsAll (reverse l) c.loop-held.entries.items c.loop-held.entries.items) (sym none) (puts_none c.loop-held.entries.items))
