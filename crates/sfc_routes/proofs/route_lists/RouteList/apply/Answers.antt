-- The list follows its change, and so it stands for one change more.
use Rattle.std.proofs.Common.{◌∙◌, List, subst}
use Rattle.sfc_routes.specs.PeerRoutes.{PeerRoute}
use Rattle.sfc_routes.specs.LastWords.{Follows}
use Rattle.sfc_routes.proofs.WordLemmas.{stands_more}
use Rattle.sfc_routes.proofs.route_lists.RouteList.apply.Goals as goal

pub returns-clause-ok : goal.returns-clause-ok
returns-clause-ok c =
    subst (λ (old : List PeerRoute). Follows old c.args.change.now c.take_in.new.entries.items) (c.reserve.ensures.items ∙ c.self.view_is) c.take_in.ensures.follows

pub returns-clause-history : goal.returns-clause-history
returns-clause-history c = λ changes stands.
    let follows : Follows c.args.self.now c.args.change.now c.take_in.new.entries.items =
    subst (λ (old : List PeerRoute). Follows old c.args.change.now c.take_in.new.entries.items) (c.reserve.ensures.items ∙ c.self.view_is) c.take_in.ensures.follows in
    stands_more c.args.self.now c.take_in.new.entries.items c.args.change.now changes follows stands
