-- The frame stands behind the packet's head.
use Rattle.std.proofs.Common.{subst}
use Rattle.std.proofs.lemmas.List.{take_rest}
use Rattle.static_walks.specs.Walks.{EachWalksTo}
use Rattle.walk_command.proofs.walk_streams.walk_packet.Goals as goal

pub returns : goal.returns
returns c = subst (λ l. EachWalksTo c.args.path.now.spi c.args.path.now.count l c.walk_frame.result) (take_rest c.args.packet.now 16) c.walk_frame.ensures
