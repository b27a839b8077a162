-- The line spells no route, or one that is not taken.
use Rattle.std.proofs.Common.{List, Option, Ok, subst, ◌≤◌}
use Rattle.std.specs.Prelude.{◌≢◌}
use Rattle.std.specs.List.{AllByRecursion}
use Rattle.sfc_routes.specs.declared.routes.Route.{Route}
use Rattle.route_texts.specs.RouteLines.{SpellsRoute}
use Rattle.route_texts.specs.RouteTexts.{update_size}
use Rattle.route_texts.specs.Steps.{Found}
use Rattle.route_texts.proofs.OneRoute.{one_route}
use Rattle.route_texts.proofs.LineLemmas.{not_new}
use Rattle.route_texts.proofs.parsing.take_line.Goals as goal

pub returns-in_default : goal.returns-in_default
returns-in_default c = λ r takes.
    let none = subst (λ (o : Option Route). Found SpellsRoute c.args.line.now (Ok o)) c.in_default.is c.in_ok-route.ensures in
    none r takes.spelled

pub returns-then-has_nlri : goal.returns-then-has_nlri
returns-then-has_nlri c =
    let route = c.in-Some.route in
    let spells = subst (λ (o : Option Route). Found SpellsRoute c.args.line.now (Ok o)) c.in-Some.is c.in_ok-route.ensures in
    not_new c.args.routes.now c.args.line.now route spells
    (subst (λ (l : List Route). AllByRecursion (λ (q : Route). q.nlri ≢ route.nlri) l → ⊥) c.as_slice-2.ensures c.if-has_nlri.ensures)

pub returns-then-not-is_small : goal.returns-then-not-is_small
returns-then-not-is_small c = λ r takes.
    let spells = subst (λ (o : Option Route). Found SpellsRoute c.args.line.now (Ok o)) c.in-Some.is c.in_ok-route.ensures in
    c.if-not-is_small.ensures (subst (λ (q : Route). update_size q ≤ 4096) (one_route c.args.line.now r c.in-Some.route takes.spelled spells) takes.small)
