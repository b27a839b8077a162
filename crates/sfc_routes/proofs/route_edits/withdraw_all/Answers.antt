-- What is kept are the routes of the other peers.
use Rattle.std.proofs.Common.{◌≡◌, filter, rules, sym, subst, List}
use Rattle.std.proofs.lemmas.Fn.{filter_same}
use Rattle.sfc_routes.specs.PeerRoutes.{PeerRoute}
use Rattle.sfc_routes.specs.RouteLists.{IsRouteList, Loses}
use Rattle.sfc_routes.proofs.FilterLemmas.{of_others, others_left, others_list}
use Rattle.sfc_routes.proofs.route_edits.withdraw_all.Goals as goal

pub returns-clause-kept : goal.returns-clause-kept
returns-clause-kept c =
    let is : c.retain.new.self.items ≡ filter (of_others c.args.peer) c.args.entries.now.items = filter_same _ _ _ (λ x b f' k. search rules) _ _ c.retain.ensures.filtered in
    subst IsRouteList (sym is) (others_list c.args.peer c.args.entries.now.items c.requires)

pub returns-clause-gone : goal.returns-clause-gone
returns-clause-gone c =
    let is : c.retain.new.self.items ≡ filter (of_others c.args.peer) c.args.entries.now.items = filter_same _ _ _ (λ x b f' k. search rules) _ _ c.retain.ensures.filtered in
    subst (λ (new : List PeerRoute). Loses (λ (e : PeerRoute). e.peer ≡ c.args.peer) c.args.entries.now.items new) (sym is) (others_left c.args.peer c.args.entries.now.items)
