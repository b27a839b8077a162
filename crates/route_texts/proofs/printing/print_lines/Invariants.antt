-- What is written of the routes.
use Rattle.std.proofs.Common.{◌≡◌, ◌++◌, take}
use Rattle.route_texts.specs.Printed.{routes_text}
use Rattle.route_texts.proofs.printing.print_lines.Given as goal

abbrev pub invariant-loop-route : goal.invariant-loop-route
invariant-loop-route l = l.out ≡ l.initial.out ++ routes_text (take l.route-index l.routes)
