-- The first that carries an AS is among those still to see.
use Rattle.std.proofs.Common.{◌≡◌, drop}
use Rattle.std.specs.Prelude.{find}
use Rattle.bgp_messages.specs.Opens.{carries_as}
use Rattle.bgp_messages.proofs.opens.carried_as.Given as goal

abbrev pub invariant-loop-capability : goal.invariant-loop-capability
invariant-loop-capability l = find carries_as (drop l.capability-index l.caps) ≡ find carries_as l.caps
