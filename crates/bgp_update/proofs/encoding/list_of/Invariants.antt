-- The bytes are the routes so far.
use Rattle.std.proofs.Common.{◌≡◌, take}
use Rattle.bgp_update.specs.Nlris.{list_bytes}
use Rattle.bgp_update.proofs.encoding.list_of.Given as goal

abbrev pub invariant-loop-route : goal.invariant-loop-route
invariant-loop-route l = l.out ≡ list_bytes (take l.route-index l.routes)
