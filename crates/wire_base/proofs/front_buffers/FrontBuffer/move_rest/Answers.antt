-- The rest is the same bytes at the front.
use Rattle.wire_base.proofs.RunLemmas.{rest_moved}
use Rattle.wire_base.proofs.front_buffers.FrontBuffer.move_rest.Goals as goal

pub returns-clause-rest : goal.returns-clause-rest
returns-clause-rest c =
    rw (← c.self.view_is, c.copy_within.ensures.items) (rest_moved c.self.inside.held.items c.self.inside.start c.self.inside.end c.self.invariant.some c.self.invariant.within)
