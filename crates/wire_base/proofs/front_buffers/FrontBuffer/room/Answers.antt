-- What was written stands behind the rest.
use Rattle.std.proofs.Common.{refl, rules}
use Rattle.std.proofs.lemmas.List.{take_rest}
use Rattle.wire_base.proofs.RunLemmas.{lent}
use Rattle.wire_base.proofs.front_buffers.FrontBuffer.room.Goals as goal

pub returns : goal.returns
returns c = rw (← c.self.view_is) (
  (
    refl,
    λ w. lent c.self.inside.held.items w c.self.inside.passed c.self.inside.start c.self.inside.end c.self.inside.held.len c.self.inside.held.ok.0 c.self.invariant,
  ),
  record { writes_back = tt; value = search (rules, c.slice_mut.ensures.value, take_rest) },
)
