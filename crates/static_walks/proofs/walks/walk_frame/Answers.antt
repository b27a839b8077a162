-- Each turn goes on from where the walk stands, and the last one ends it.
use Rattle.std.proofs.Common.{subst, arith}
use Rattle.nsh_headers.specs.Head.{IsHead}
use Rattle.nsh_headers.proofs.HeadLemmas.{ttl_in-head}
use Rattle.static_walks.specs.Walks.{static_header}
use Rattle.static_walks.proofs.WalkLemmas.{stands_first, stands_next}
use Rattle.static_walks.proofs.walks.walk_frame.Goals as goal

pub turns-init : goal.turns-init
turns-init c =
    let spelled = subst (IsHead c.encode_head-header.result) c.first_head.ensures c.encode_head-header.ensures in
    record {
      stands = λ frame. stands_first c.args.path.now.spi c.args.path.now.count frame c.encode_head-header.result spelled;
      alive = let ttl = ttl_in-head c.encode_head-header.result (static_header c.args.path.now.spi).head spelled in omega (arith, ttl);
    }

pub returns-in-Some : goal.returns-in-Some
returns-in-Some c = λ frame is.
    let stands = c.turns.invariant.stands frame in
    stands.whole c.in-Some.end (c.in-Some.ensures.turn stands.at stands.spelled stands.home)

pub turns-preserved : goal.turns-preserved
turns-preserved c = record {
  stands = λ frame.
      let stands = c.turns.invariant.stands frame in
      stands_next c.args.path.now.spi c.args.path.now.count frame c.turns.header c.take_turn.new.header stands (c.in_default.ensures.turn stands.at stands.spelled stands.home);
  alive = c.in_default.ensures.alive;
}
