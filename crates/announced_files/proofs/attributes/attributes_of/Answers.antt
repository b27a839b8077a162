-- The attributes one behind the other.
use Rattle.std.proofs.Common.{◌≡◌, ◌≤◌, ◌==◌, ◌++◌, ℕ, List, length, ap, ◌∙◌, sym, subst, arith}
use Rattle.std.specs.List.{AllByRecursion}
use Rattle.announced_files.specs.Announcements.{origin, ways, reach_for, communities_for, sfp_for}
use Rattle.announced_files.proofs.UpdateLemmas.{targets_small, path_some, five_joined}
use Rattle.announced_files.proofs.attributes.attributes_of.Goals as goal

pub push_communities-requires-clause-few : goal.push_communities-requires-clause-few
push_communities-requires-clause-few c =
    let few : length c.args.route.now.targets ≤ 4096 = omega (arith, targets_small c.args.route.now c.requires) in
    subst (λ (ts : List (List ℕ)). length ts ≤ 4096) (sym c.as_slice.ensures) few

pub push_communities-requires-clause-octets : goal.push_communities-requires-clause-octets
push_communities-requires-clause-octets c = subst (AllByRecursion (λ (t : List ℕ). length t ≡ 8)) (sym c.as_slice.ensures) c.requires.octets

pub push_path-requires : goal.push_path-requires
push_path-requires c = path_some c.args.route.now.nlri c.args.route.now.path c.requires.path

pub returns : goal.returns
returns c =
    let route = c.args.route.now in
    five_joined origin (reach_for route) (ways (c.args.own == c.args.asn) c.args.asn) (communities_for route.targets) (sfp_for route.path)
    c.new-list.result c.push_origin.new.list c.push_way.new.list c.push_reach.new.list c.push_communities.new.list c.push_path.new.list c.new-list.ensures c.in_ok-push_origin.ensures c.in_ok-push_way.ensures c.in_ok-push_reach.ensures
    (c.in_ok-push_communities.ensures ∙ ap (λ (ts : List (List ℕ)). c.push_reach.new.list ++ communities_for ts) c.as_slice.ensures) c.in_ok-push_path.ensures
