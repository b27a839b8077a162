use Rattle.std.proofs.Common.{◌<◌}
use Rattle.net_frames.specs.Captured.{Captured}
use Rattle.nsh_headers.specs.Edit.{ttl_in}
use Rattle.static_walks.proofs.WalkLemmas.{Stands}
use Rattle.static_walks.proofs.walks.walk_frame.Given as goal

abbrev pub invariant-turns : goal.invariant-turns
invariant-turns l = record {
  stands : (frame : Captured) → Stands l.path.spi l.path.count frame l.header;
  alive : 0 < ttl_in l.header;
}

abbrev pub decreases-turns : goal.decreases-turns
decreases-turns l = ttl_in l.header
