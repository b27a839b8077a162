-- The next name joins those whose routes are gone.
use Rattle.std.proofs.Common.{◌≡◌, ◌+◌, List, [], ◌∷◌, ◌++◌, take, ap, sym, subst, ◌∙◌, arith}
use Rattle.std.proofs.lemmas.List.{take_all, take_more}
use Rattle.bgp_update.specs.declared.routes.Nlri.{Nlri}
use Rattle.sfc_routes.specs.RouteLists.{LosesNamed}
use Rattle.sfc_routes.proofs.WordLemmas.{loses_more}
use Rattle.sfc_routes.proofs.route_edits.withdraw_named.Goals as goal

pub loop-nlri-preserved : goal.loop-nlri-preserved
loop-nlri-preserved c =
    let all = c.args.nlris.now in
    let i = c.loop-nlri.nlri-index in
    let next : Nlri = c.nlri-item.result in
    let more : take (i + 1) all ≡ take i all ++ next ∷ [] = take_more all i next c.loop-nlri-test.true ∙ ap (λ (n : Nlri). take i all ++ n ∷ []) (sym c.nlri-item.is) in (
      c.withdraw.ensures.kept,
      subst (λ (names : List Nlri). LosesNamed c.args.peer names c.args.entries.now.items c.withdraw.new.entries.items) (sym more)
          (loses_more c.args.peer (take i all) next c.args.entries.now.items c.loop-nlri.entries.items c.withdraw.new.entries.items c.loop-nlri.invariant.1 c.withdraw.ensures.gone),
      omega (arith, c.withdraw.ensures.fewer, c.loop-nlri.invariant.2),
      c.withdraw.ensures.capacity ∙ c.loop-nlri.invariant.3,
    )

pub returns-clause-gone : goal.returns-clause-gone
returns-clause-gone c =
    subst (λ (names : List Nlri). LosesNamed c.args.peer names c.args.entries.now.items c.loop-nlri.entries.items)
    (take_all c.loop-nlri.nlri-index c.args.nlris.now (omega (arith, c.loop-nlri-test.false))) c.loop-nlri.invariant.1
