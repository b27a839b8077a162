-- The bytes that the end passes join the rest.
use Rattle.wire_base.proofs.RunLemmas.{rest_longer}
use Rattle.wire_base.proofs.front_buffers.FrontBuffer.filled.Goals as goal

pub returns-clause-rest : goal.returns-clause-rest
returns-clause-rest c =
    rw (← c.self.view_is) (rest_longer c.self.inside.held.items c.self.inside.start c.self.inside.end c.args.count c.self.invariant.some c.self.invariant.within)
