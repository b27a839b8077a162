-- Each packet that was given is put, or a front of it was.
use Rattle.std.proofs.Common.{◌≡◌, ◌++◌, ℕ, List, Some, drop, sym, ap, subst, ◌∙◌, arith}
use Rattle.sfc_desk.specs.declared.ports.Port.TheVariants as ports
use Rattle.sfc_desk.proofs.CallLemmas.{moves_then}
use Rattle.pcap_io.specs.Captures.{packet}
use Rattle.pcap_io.specs.Calls.{lent_frame}
use Rattle.walk_command.specs.WalkSteps.{kept_at}
use Rattle.commands.specs.Fronts.{IsFront}
use Rattle.static_walks.specs.Walks.{EachWalksTo}
use Rattle.walk_command.specs.WalkSteps.{State}
use Rattle.walk_command.proofs.WalkLemmas.{state_next, state_same, state_put, if_some, next_some, next_none, front_of_state, put_fault_puts}
use Rattle.walk_command.proofs.walk_streams.put_packets.Goals as goal

pub returns-in-Err-put_packet-clause-puts : goal.returns-in-Err-put_packet-clause-puts
returns-in-Err-put_packet-clause-puts g c = λ tells input left s.
    let is : c.next_packet.new.self.form ≡ Some c.args.form = if_some c.packets.feed.form c.args.form _ c.packets.invariant.form c.in-Ok-Some.ensures.form in
    let lent : c.next_packet.new.self.lent ≡ packet c.args.form (lent_frame c.in-Ok-Some.field-0-0 c.next_packet.new.self) =
    if_some c.in-Ok-Some.field-0 c.in-Ok-Some.field-0-0 _ c.in-Ok-Some.field-0-is (if_some c.packets.feed.form c.args.form _ c.packets.invariant.form c.in-Ok-Some.ensures.gives) in
    let out : List ℕ = (g.D.Desk.at c.packets.desk ports.Egress).written ++ c.packets.buffer.items in
    let next : State c.args.path.now input left (out ++ kept_at c.walk_packet-end.result c.next_packet.new.self.lent) c.next_packet.new.self =
    state_next c.args.path.now input left out c.packets.feed c.next_packet.new.self c.args.form c.in-Ok-Some.field-0-0 c.walk_packet-end.result c.packets.invariant.form is lent (subst (λ (p : List ℕ). EachWalksTo c.args.path.now.spi c.args.path.now.count (drop 16 p) c.walk_packet-end.result) c.packet.ensures c.walk_packet-end.ensures)
    (λ taken given st. next_some c.in-Ok-Some.field-0 c.in-Ok-Some.field-0-0 c.next_packet.new.self taken given c.in-Ok-Some.field-0-is (c.in-Ok-Some.ensures.history taken given st))
    (c.packets.invariant.state tells input left s) in
    let written : List ℕ = (g.D.Desk.at c.put_packet.new.desk ports.Egress).written in
    let front : IsFront written (out ++ kept_at c.walk_packet-end.result c.next_packet.new.self.lent) =
    subst (λ (p : List ℕ). IsFront written (out ++ kept_at c.walk_packet-end.result p)) c.packet-in-Ok-Some.ensures (c.in-Err-put_packet.ensures.front tells) in
    put_fault_puts c.args.path.now input left _ written c.next_packet.new.self c.in-Err-put_packet.fault _ _ c.in-Err-put_packet.ensures.faults
    (front_of_state c.args.path.now input left (out ++ kept_at c.walk_packet-end.result c.next_packet.new.self.lent) written c.next_packet.new.self next front)

pub packets-preserved : goal.packets-preserved
packets-preserved g c =
    let is : c.next_packet.new.self.form ≡ Some c.args.form = if_some c.packets.feed.form c.args.form _ c.packets.invariant.form c.in-Ok-Some.ensures.form in
    let lent : c.next_packet.new.self.lent ≡ packet c.args.form (lent_frame c.in-Ok-Some.field-0-0 c.next_packet.new.self) =
    if_some c.in-Ok-Some.field-0 c.in-Ok-Some.field-0-0 _ c.in-Ok-Some.field-0-is (if_some c.packets.feed.form c.args.form _ c.packets.invariant.form c.in-Ok-Some.ensures.gives) in
    let out : List ℕ = (g.D.Desk.at c.packets.desk ports.Egress).written ++ c.packets.buffer.items in
    let out' : List ℕ = (g.D.Desk.at c.put_packet.new.desk ports.Egress).written ++ c.put_packet.new.buffer.items in
    record {
      state = λ tells input left s.
          let put : out' ≡ out ++ kept_at c.walk_packet-end.result c.next_packet.new.self.lent =
          c.in_default.ensures.ok tells ∙ ap (λ (p : List ℕ). out ++ kept_at c.walk_packet-end.result p) c.packet-in-Ok-Some.ensures in
          state_put c.args.path.now input left (out ++ kept_at c.walk_packet-end.result c.next_packet.new.self.lent) out' c.next_packet.new.self put
          (state_next c.args.path.now input left out c.packets.feed c.next_packet.new.self c.args.form c.in-Ok-Some.field-0-0 c.walk_packet-end.result c.packets.invariant.form is lent (subst (λ (p : List ℕ). EachWalksTo c.args.path.now.spi c.args.path.now.count (drop 16 p) c.walk_packet-end.result) c.packet.ensures c.walk_packet-end.ensures)
          (λ taken given st. next_some c.in-Ok-Some.field-0 c.in-Ok-Some.field-0-0 c.next_packet.new.self taken given c.in-Ok-Some.field-0-is (c.in-Ok-Some.ensures.history taken given st))
          (c.packets.invariant.state tells input left s));
      form = is;
      count = omega (arith, c.in-Ok-Some.ensures.count, c.packets.invariant.count);
      small = omega (arith, c.in_default.ensures.small, c.put_packet.new.buffer.ok.0);
      quiet = c.in_default.ensures.quiet ∙ c.packets.invariant.quiet;
      moves = moves_then g.D.Desk.tells ports.Egress _ _ _ (g.D.Desk.at c.args.desk.now) (g.D.Desk.at c.packets.desk) (g.D.Desk.at c.put_packet.new.desk) c.packets.invariant.moves c.in_default.ensures.moves;
    }

pub returns-in-Ok-None-clause-puts : goal.returns-in-Ok-None-clause-puts
returns-in-Ok-None-clause-puts g c = λ tells input left s.
    let is : c.next_packet.new.self.form ≡ Some c.args.form = if_some c.packets.feed.form c.args.form _ c.packets.invariant.form c.in-Ok-None.ensures.form in
    let at : State c.args.path.now input left ((g.D.Desk.at c.packets.desk ports.Egress).written ++ c.packets.buffer.items) c.packets.feed = c.packets.invariant.state tells input left s in (
      state_same c.args.path.now input left _ c.packets.feed c.next_packet.new.self (is ∙ sym c.packets.invariant.form)
          (λ taken given st. (next_none c.in-Ok-None.field-0 c.next_packet.new.self taken given c.in-Ok-None.field-0-is (c.in-Ok-None.ensures.history taken given st)).0) at,
      (next_none c.in-Ok-None.field-0 c.next_packet.new.self at.follows.taken at.given c.in-Ok-None.field-0-is (c.in-Ok-None.ensures.history at.follows.taken at.given at.follows.stands)).1,
    )

pub returns-in-Err-clause-puts : goal.returns-in-Err-clause-puts
returns-in-Err-clause-puts g c = λ tells input left s.
    let is : c.next_packet.new.self.form ≡ Some c.args.form = if_some c.packets.feed.form c.args.form _ c.packets.invariant.form c.in-Err.ensures.form in
    let at : State c.args.path.now input left ((g.D.Desk.at c.packets.desk ports.Egress).written ++ c.packets.buffer.items) c.packets.feed = c.packets.invariant.state tells input left s in (
      state_same c.args.path.now input left _ c.packets.feed c.next_packet.new.self (is ∙ sym c.packets.invariant.form) (λ taken given st. (c.in-Err.ensures.history taken given st).0) at,
      (c.in-Err.ensures.history at.follows.taken at.given at.follows.stands).1,
    )
