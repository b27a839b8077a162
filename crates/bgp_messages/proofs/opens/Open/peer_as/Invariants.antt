-- The first that carries an AS is in the parameters still to see.
use Rattle.std.proofs.Common.{◌≡◌, drop}
use Rattle.std.specs.Prelude.{find}
use Rattle.bgp_messages.specs.Opens.{carries_as, capabilities_of}
use Rattle.bgp_messages.proofs.opens.Open.peer_as.Given as goal

abbrev pub invariant-loop-param : goal.invariant-loop-param
invariant-loop-param l = find carries_as (capabilities_of (drop l.param-index l.self.params)) ≡ find carries_as (capabilities_of l.self.params)
