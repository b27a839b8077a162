use Rattle.std.proofs.Common.{ap, arith}
use Rattle.route_selection.specs.Accepted.{PathRoute, path_name, path_peer}
use Rattle.route_selection.proofs.LowestLemmas.{set_joins}
use Rattle.route_selection.proofs.SeenLemmas.{has_name, has_lower}
use Rattle.route_selection.proofs.accepted_routes.keep_lower.Goals as goal

pub returns-then-one-held : goal.returns-then-one-held
returns-then-one-held c =
    let xs = c.args.accepted.now.items in
    set_joins path_name path_peer xs c.args.place c.args.one c.requires.in_order c.requires.there.0
    (has_name (λ (p : PathRoute). p.spi) (λ (p : PathRoute). p.rd) path_peer xs c.args.place c.args.one c.requires.there.1)
    (λ d. has_lower (λ (p : PathRoute). p.spi) (λ (p : PathRoute). p.rd) path_peer xs c.args.place c.args.one c.index-held.result.now d c.requires.there.0 c.index-held.ensures (omega (arith, c.if-one-held.true, ap path_peer c.one.view_is, ap path_peer c.held.view_is)))
