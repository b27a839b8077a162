-- The next route joins those so far.
use Rattle.std.proofs.Common.{◌≡◌, ◌+◌, List, [], ◌∷◌, ◌++◌, take, get_or, sym, ◌∙◌, ap, subst, arith}
use Rattle.std.proofs.lemmas.List.{take_more, take_all}
use Rattle.sfc_routes.specs.PeerRoutes.{PeerRoute}
use Rattle.route_selection.specs.Accepted.{Accepted}
use Rattle.route_selection.proofs.AcceptedLemmas.{accepted_fit}
use Rattle.route_selection.proofs.accepted_routes.accepted_in.Goals as goal

pub loop-i-preserved : goal.loop-i-preserved
loop-i-preserved c =
    let all = c.args.routes.now in
    let i = c.loop-i.i in
    let e : PeerRoute = record { peer = c.entry-peer.result.0; route = c.entry-peer.result.1.now } in
    let read = c.entry-peer.ensures e in
    let is : get_or all i e ≡ e = λ k. record { peer = sym read.0 k; route = sym read.1 k } in
    let lt = rw c.len-i-end.ensures.value at c.loop-i-test.true in
    let more : take (i + 1) all ≡ take i all ++ e ∷ [] = take_more all i e lt ∙ ap (λ (x : PeerRoute). take i all ++ x ∷ []) is in
    subst (λ (l : List PeerRoute). Accepted c.args.roster.now l c.take_route.new.accepted.items) (sym more) (c.in_ok-take_route.ensures (take i all) c.loop-i.invariant)

pub returns-clause-fits : goal.returns-clause-fits
returns-clause-fits c =
    let all = c.args.routes.now in
    let whole : take c.loop-i.i all ≡ all = take_all c.loop-i.i all (omega (arith, c.loop-i-test.false, c.len-i-end.ensures.value)) in
    accepted_fit c.args.roster.now all c.loop-i.accepted.items c.len-i-end.ensures.kept
    (subst (λ (l : List PeerRoute). Accepted c.args.roster.now l c.loop-i.accepted.items) whole c.loop-i.invariant)
