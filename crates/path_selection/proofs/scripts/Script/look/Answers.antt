use Rattle.std.proofs.Common.{◌≤◌, ◌<◌, ◌+◌, ◌-◌, length, slice_index, arith}
use Rattle.path_selection.proofs.Versions.{table_at-numbered}
use Rattle.path_selection.proofs.scripts.Script.look.Goals as goal

pub returns-clause-answers : goal.returns-clause-answers
returns-clause-answers c =
    let s = c.self.inside in
    let v = slice_index s.picks s.next in
    let within : (s.first ≤ v) × (v < s.first + length s.tables) = c.self.invariant.0.1 s.next c.self.invariant.1 in
    let low = within.0 in
    let high = within.1 in
    let is = rw (c.as_slice-2.ensures, c.as_slice.ensures) at c.index-as_slice-at.is in (
      c.index-as_slice-at.result,
      rw (c.as_slice.ensures, ← c.self.view_is) (table_at-numbered s.first v (v - s.first) s.tables c.index-as_slice-at.result (omega arith) (omega arith) is),
      c.answer-answer.ensures,
    )
