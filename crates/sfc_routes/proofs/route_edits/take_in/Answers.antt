-- The withdrawals and then the announcements are the change.
use Rattle.std.proofs.Common.{List, reverse, ap, sym, subst, ◌∙◌}
use Rattle.std.specs.List.{AllByRecursion}
use Rattle.std.proofs.lemmas.List.{reverse-reverse}
use Rattle.sfc_routes.specs.PeerRoutes.{PeerRoute, RouteFits}
use Rattle.sfc_routes.specs.RouteLists.{PutsAll, peer_routes}
use Rattle.sfc_routes.proofs.WordLemmas.{all_reversed, follows_both, peer_fits}
use Rattle.sfc_routes.proofs.route_edits.take_in.Goals as goal

pub put_all-requires-clause-fits : goal.put_all-requires-clause-fits
put_all-requires-clause-fits c =
    let P : PeerRoute → Type 0 = λ e. RouteFits e.route in
    let change = c.args.change.now in
    subst (AllByRecursion P) (sym c.requires.copies) (all_reversed P (peer_routes change.peer change.announced) (peer_fits change.peer change.announced c.requires.fits))

pub returns-clause-follows : goal.returns-clause-follows
returns-clause-follows c =
    let change = c.args.change.now in
    follows_both change c.args.entries.now.items c.take_out.new.entries.items c.put_all.new.entries.items c.take_out.ensures.gone
    (subst (λ (l : List PeerRoute). PutsAll l c.take_out.new.entries.items c.put_all.new.entries.items) (ap reverse c.requires.copies ∙ reverse-reverse (peer_routes change.peer change.announced)) c.put_all.ensures.put)
