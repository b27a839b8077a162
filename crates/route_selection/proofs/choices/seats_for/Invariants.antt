-- The seats of the candidates so far.
use Rattle.std.proofs.Common.{◌≡◌, take, map}
use Rattle.route_selection.specs.Choices.{candidates, seat}
use Rattle.route_selection.proofs.choices.seats_for.Given as goal

abbrev pub invariant-loop-candidate : goal.invariant-loop-candidate
invariant-loop-candidate l = l.seats.items ≡ map seat (candidates (take l.candidate-index l.usable) l.inside)
