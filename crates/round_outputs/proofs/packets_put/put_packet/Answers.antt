-- A head that is not put whole, or none, and then no bytes.
use Rattle.std.proofs.Common.{◌≡◌, ℕ, List, length, Err, ap, subst, ◌∙◌, arith}
use Rattle.pcap_io.specs.Heads.{packet_head_of}
use Rattle.round_outputs.specs.RoundOutputs.{Puts}
use Rattle.round_outputs.proofs.PutLemmas.{puts_refused, puts_stopped}
use Rattle.round_outputs.proofs.packets_put.put_packet.Goals as goal

pub returns-in_default : goal.returns-in_default
returns-in_default g c = puts_refused g.D.Desk.tells (g.D.Desk.at c.args.desk.now) (g.D.Desk.held c.args.desk.now) c.args.egress.now _ c.requires.bound

pub returns-in-Err : goal.returns-in-Err
returns-in-Err g c =
    let size : c.in-Ok.captured ≡ length c.args.bytes.now = omega (arith, c.in-Ok.ensures) in
    let head : List ℕ = packet_head_of c.args.form c.args.times.0 c.args.times.1 (length c.args.bytes.now) c.args.original in
    let is : c.packet_head-head.result ≡ head = c.packet_head-head.ensures ∙ ap (λ (n : ℕ). packet_head_of c.args.form c.args.times.0 c.args.times.1 n c.args.original) size in
    puts_stopped g.D.Desk.tells (g.D.Desk.at c.args.desk.now) (g.D.Desk.at c.put.new.desk) (g.D.Desk.held c.args.desk.now) (g.D.Desk.held c.put.new.desk) c.args.egress.now c.put.new.self c.in-Err.fault head c.args.bytes.now
    (subst (Puts g.D.Desk.tells (g.D.Desk.at c.args.desk.now) (g.D.Desk.at c.put.new.desk) (g.D.Desk.held c.args.desk.now) (g.D.Desk.held c.put.new.desk) c.args.egress.now c.put.new.self (Err c.in-Err.fault)) is
    (record {
      port = c.in-Err.ensures.port;
      ok = c.in-Err.ensures.ok;
      front = c.in-Err.ensures.front;
      cause = c.in-Err.ensures.cause;
      quiet = c.in-Err.ensures.quiet;
      spared = c.in-Err.ensures.spared;
      moves = c.in-Err.ensures.moves;
    }))
