-- The parameter at hand has the first that carries an AS, or it has none.
use Rattle.bgp_messages.proofs.OpenLemmas.{found, not_here}
use Rattle.bgp_messages.proofs.opens.Open.peer_as.Goals as goal

pub returns-in-Some : goal.returns-in-Some
returns-in-Some c =
    found c.args.self.now.params c.loop-param.param-index c.param-item.result c.in-Some.number _
    (rw c.as_slice-param-items.ensures at c.loop-param-test.true)
    (rw c.as_slice-param-items.ensures at c.param-item.is)
    (rw c.as_slice.ensures at c.in-Some.ensures)
    c.loop-param.invariant

pub loop-param-preserved : goal.loop-param-preserved
loop-param-preserved c =
    not_here c.args.self.now.params c.loop-param.param-index c.param-item.result
    (rw c.as_slice-param-items.ensures at c.loop-param-test.true)
    (rw c.as_slice-param-items.ensures at c.param-item.is)
    (rw c.as_slice.ensures at c.in_default.ensures)
    c.loop-param.invariant
