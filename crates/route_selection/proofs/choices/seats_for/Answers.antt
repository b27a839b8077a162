use Rattle.std.proofs.Common.{List, [], ◌∷◌, ◌++◌, map, sym, ◌∙◌, ap}
use Rattle.wire_base.specs.declared.ids.ForwarderId.{ForwarderId}
use Rattle.wire_base.specs.declared.ids.InstanceId.{InstanceId}
use Rattle.route_selection.specs.Choices.{candidates, seat}
use Rattle.route_selection.proofs.PathLemmas.{seats_more}
use Rattle.route_selection.proofs.choices.seats_for.Goals as goal

pub loop-candidate-preserved : goal.loop-candidate-preserved
loop-candidate-preserved c =
    let one = c.candidate-item.result in
    let inside = c.args.inside.now in
    c.in_ok-push_seat.ensures
    ∙ ap (λ (l : List (ForwarderId × InstanceId)). l ++ map seat (candidates (one ∷ []) inside)) c.loop-candidate.invariant
    ∙ sym (seats_more inside c.args.usable.now c.loop-candidate.candidate-index one c.loop-candidate-test.true c.candidate-item.is)
