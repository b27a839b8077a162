use Rattle.std.proofs.Common.{List, subst}
use Rattle.bgp_update.specs.declared.routes.Nlri.{Nlri}
use Rattle.sfc_routes.specs.RouteLists.{LosesNamed}
use Rattle.sfc_routes.proofs.WordLemmas.{all_gone, named_gone}
use Rattle.sfc_routes.proofs.route_edits.take_out.Goals as goal

pub returns-then-change-clause-gone : goal.returns-then-change-clause-gone
returns-then-change-clause-gone c = all_gone c.args.change.now c.args.entries.now.items c.withdraw_all.new.entries.items c.if-change.true c.withdraw_all.ensures.gone

pub returns-else-change-clause-gone : goal.returns-else-change-clause-gone
returns-else-change-clause-gone c =
    named_gone c.args.change.now c.args.entries.now.items c.withdraw_named.new.entries.items c.if-change.false
    (subst (λ (names : List Nlri). LosesNamed c.args.change.now.peer names c.args.entries.now.items c.withdraw_named.new.entries.items) c.as_slice.ensures c.withdraw_named.ensures.gone)
