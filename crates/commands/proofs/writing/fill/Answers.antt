use Rattle.std.proofs.Common.{List, ℕ, ◌++◌, take, drop, subst}
use Rattle.std.proofs.lemmas.List.{take-append-drop}
use Rattle.commands.specs.Fronts.{IsFront}
use Rattle.commands.proofs.FrontLemmas.{front_of_part}
use Rattle.commands.proofs.writing.fill.Goals as goal

-- what was taken is a front of what was taken and waits with this part
pub returns-in_err-empty_full-clause-front : goal.returns-in_err-empty_full-clause-front
returns-in_err-empty_full-clause-front g c = λ tells.
    let taken = (g.D.Desk.at c.empty_full.new.desk c.args.port).written in
    let before = (g.D.Desk.at c.pieces.desk c.args.port).written in
    front_of_part taken before c.pieces.buffer.items (take c.min-count.result c.pieces.rest.now) (drop c.min-count.result c.pieces.rest.now) c.pieces.rest.now
    (((g.D.Desk.at c.args.desk.now c.args.port).written ++ c.args.buffer.now.items) ++ c.args.bytes.now)
    (c.pieces.invariant.1.so_far tells) (take-append-drop c.min-count.result c.pieces.rest.now)
    (subst (λ (b : List ℕ). IsFront taken (before ++ b)) c.in_ok-extend_from_slice.ensures.items (c.in_err-empty_full.ensures.front tells))
