-- What counts of one route more.
use Rattle.route_selection.specs.Accepted.{Shows, path_name, path_peer}
use Rattle.route_selection.proofs.AcceptedLemmas.{same_show}
use Rattle.route_selection.proofs.SeenLemmas.{seen_joins, seen_same}
use Rattle.route_selection.proofs.accepted_routes.take_route.Goals as goal

pub returns-in_ok-take_in : goal.returns-in_ok-take_in
returns-in_ok-take_in c = λ routes u.
    seen_joins path_name path_peer (Shows c.args.roster.now) (same_show c.args.roster.now) routes _ c.in-Some.one _ _ c.in-Some.ensures c.in_ok-take_in.ensures u

pub returns-in_default : goal.returns-in_default
returns-in_default c = λ routes u. seen_same path_name path_peer (Shows c.args.roster.now) routes _ _ c.in_default.ensures u
