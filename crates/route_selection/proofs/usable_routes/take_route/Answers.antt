-- The candidates of one route more.
use Rattle.route_selection.specs.Usable.{Offers, name_of, peer_of}
use Rattle.route_selection.proofs.SeenLemmas.{seen_joins, seen_same}
use Rattle.route_selection.proofs.UsableLemmas.{same_offer}
use Rattle.route_selection.proofs.usable_routes.take_route.Goals as goal

pub returns-in_ok-take_in : goal.returns-in_ok-take_in
returns-in_ok-take_in c = λ routes u.
    seen_joins name_of peer_of (Offers c.args.roster.now) (same_offer c.args.roster.now) routes _ c.in-Some.one _ _ c.in-Some.ensures c.in_ok-take_in.ensures u

pub returns-in_default : goal.returns-in_default
returns-in_default c = λ routes u. seen_same name_of peer_of (Offers c.args.roster.now) routes _ _ c.in_default.ensures u
