-- Where some text spells the routes, the printed one is that text.
use Rattle.std.proofs.Common.{ℕ, List, ◌++◌, ◌∙◌, ap, sym, subst}
use Rattle.route_texts.specs.Printed.{routes_text}
use Rattle.route_texts.specs.RouteTexts.{IsRoutes}
use Rattle.route_texts.proofs.PrintedLemmas.{spelled_again}
use Rattle.route_texts.proofs.printing.print_routes.Goals as goal

pub returns-clause-spelled : goal.returns-clause-spelled
returns-clause-spelled c = λ origin is.
    let printed = c.in_ok-print_lines.ensures ∙ ap (λ (a : List ℕ). a ++ routes_text c.as_slice.result.now) c.new-out.ensures ∙ ap routes_text c.as_slice.ensures in
    subst (λ (t : List ℕ). IsRoutes t c.args.routes.now) (sym printed) (spelled_again origin c.args.routes.now is)
