-- Each piece goes on from where the walk stood.
use Rattle.std.proofs.Common.{◌≡◌, ◌++◌, ℕ, List, length, sym, ap, subst, ◌∙◌, arith}
use Rattle.sfc_desk.specs.Desks.{Shown}
use Rattle.sfc_desk.specs.declared.ports.Port.TheVariants as ports
use Rattle.pcap_io.specs.Calls.{HeldIn}
use Rattle.walk_command.specs.WalkSteps.{State}
use Rattle.walk_command.proofs.WalkLemmas.{state_read, state_put, front_of_state, long_input, puts_reaches, put_fault_reaches, read_fault_reaches, egress_is_no_capture, capture_is_no_egress, is_none, bound_moves}
use Rattle.walk_command.proofs.walk_streams.walk_pieces.Goals as goal

pub returns-in-Ok-None-clause-reaches : goal.returns-in-Ok-None-clause-reaches
returns-in-Ok-None-clause-reaches g c = λ tells input s.
    let at = c.pieces.invariant.state tells input s in
    let none = is_none c.in-Ok-None.field-0 c.in-Ok-None.field-0-is in
    let same : (g.D.Desk.at c.read_piece.new.desk ports.Egress).written ++ c.pieces.buffer.items ≡ (g.D.Desk.at c.pieces.desk ports.Egress).written ++ c.pieces.buffer.items =
    ap (λ (p : Shown). p.written ++ c.pieces.buffer.items) (c.in-Ok-None.ensures.moves.elsewhere ports.Egress egress_is_no_capture) in (
      state_read c.args.path.now input _ _ _ _ c.pieces.feed c.read_piece.new.feed c.in-Ok-None.ensures.form same (λ given f. c.in-Ok-None.ensures.follows tells input given f) at.0,
      subst (λ f. HeldIn f c.read_piece.new.feed.rest) (sym c.in-Ok-None.ensures.form) (subst (λ (r : List ℕ). HeldIn c.pieces.feed.form r) (sym (c.in-Ok-None.ensures.still none)) at.1),
      c.in-Ok-None.ensures.end tells none,
    )

pub returns-in-Err-clause-reaches : goal.returns-in-Err-clause-reaches
returns-in-Err-clause-reaches g c = λ tells input s.
    let at = c.pieces.invariant.state tells input s in
    let written : List ℕ = (g.D.Desk.at c.read_piece.new.desk ports.Egress).written in
    let same : written ≡ (g.D.Desk.at c.pieces.desk ports.Egress).written = ap (λ (p : Shown). p.written) (c.in-Err.ensures.moves.elsewhere ports.Egress egress_is_no_capture) in
    read_fault_reaches c.args.path.now input _ _ written c.read_piece.new.feed c.in-Err.fault c.in-Err.ensures.never
    (front_of_state c.args.path.now input _ _ written c.pieces.feed at.0 (c.pieces.buffer.items, ap (λ (l : List ℕ). l ++ c.pieces.buffer.items) same))

pub returns-then-place-held-gt-LIMIT-clause-reaches : goal.returns-then-place-held-gt-LIMIT-clause-reaches
returns-then-place-held-gt-LIMIT-clause-reaches g c = λ tells input s.
    let at = c.pieces.invariant.state tells input s in
    let written : List ℕ = (g.D.Desk.at c.read_piece.new.desk ports.Egress).written in
    let same : written ≡ (g.D.Desk.at c.pieces.desk ports.Egress).written = ap (λ (p : Shown). p.written) (c.in-Ok-Some.ensures.moves.elsewhere ports.Egress egress_is_no_capture) in (
      long_input c.read_piece.new.feed input _ at.0.given 1099511627776 (c.in-Ok-Some.ensures.follows tells input at.0.given at.0.follows) (grind arith),
      front_of_state c.args.path.now input _ _ written c.pieces.feed at.0 (c.pieces.buffer.items, ap (λ (l : List ℕ). l ++ c.pieces.buffer.items) same),
    )

pub returns-in-Err-put_piece-clause-reaches : goal.returns-in-Err-put_piece-clause-reaches
returns-in-Err-put_piece-clause-reaches g c = λ tells input s.
    let at = c.pieces.invariant.state tells input s in
    let same : (g.D.Desk.at c.read_piece.new.desk ports.Egress).written ++ c.pieces.buffer.items ≡ (g.D.Desk.at c.pieces.desk ports.Egress).written ++ c.pieces.buffer.items =
    ap (λ (p : Shown). p.written ++ c.pieces.buffer.items) (c.in-Ok-Some.ensures.moves.elsewhere ports.Egress egress_is_no_capture) in
    let read : State c.args.path.now input (g.D.Desk.at c.read_piece.new.desk ports.Capture).left ((g.D.Desk.at c.read_piece.new.desk ports.Egress).written ++ c.pieces.buffer.items) c.read_piece.new.feed =
    state_read c.args.path.now input _ _ _ _ c.pieces.feed c.read_piece.new.feed c.in-Ok-Some.ensures.form same (λ given f. c.in-Ok-Some.ensures.follows tells input given f) at.0 in
    puts_reaches c.args.path.now input (g.D.Desk.at c.read_piece.new.desk ports.Capture).left (g.D.Desk.at c.put_piece.new.desk ports.Capture).left _ _ c.put_piece.new.feed c.in-Err-put_piece.fault
    (ap (λ (p : Shown). p.left) (c.in-Err-put_piece.ensures.moves.elsewhere ports.Capture capture_is_no_egress)) c.in-Err-put_piece.ensures.never (c.in-Err-put_piece.ensures.puts tells input _ read)

pub returns-in-Err-flush_short-clause-reaches : goal.returns-in-Err-flush_short-clause-reaches
returns-in-Err-flush_short-clause-reaches g c = λ tells input s.
    let at = c.pieces.invariant.state tells input s in
    let same : (g.D.Desk.at c.read_piece.new.desk ports.Egress).written ++ c.pieces.buffer.items ≡ (g.D.Desk.at c.pieces.desk ports.Egress).written ++ c.pieces.buffer.items =
    ap (λ (p : Shown). p.written ++ c.pieces.buffer.items) (c.in-Ok-Some.ensures.moves.elsewhere ports.Egress egress_is_no_capture) in
    let read : State c.args.path.now input (g.D.Desk.at c.read_piece.new.desk ports.Capture).left ((g.D.Desk.at c.read_piece.new.desk ports.Egress).written ++ c.pieces.buffer.items) c.read_piece.new.feed =
    state_read c.args.path.now input _ _ _ _ c.pieces.feed c.read_piece.new.feed c.in-Ok-Some.ensures.form same (λ given f. c.in-Ok-Some.ensures.follows tells input given f) at.0 in
    let put = c.in_default.ensures.puts tells input (g.D.Desk.at c.read_piece.new.desk ports.Capture).left read in
    put_fault_reaches c.args.path.now input _ _ (g.D.Desk.at c.flush_short.new.desk ports.Egress).written c.put_piece.new.feed c.in-Err-flush_short.fault _ _ c.in-Err-flush_short.ensures.faults
    (front_of_state c.args.path.now input _ _ _ c.put_piece.new.feed put.0 (c.in-Err-flush_short.ensures.front tells))

pub pieces-preserved : goal.pieces-preserved
pieces-preserved g c =
    let egress_read : g.D.Desk.at c.read_piece.new.desk ports.Egress ≡ g.D.Desk.at c.pieces.desk ports.Egress = c.in-Ok-Some.ensures.moves.elsewhere ports.Egress egress_is_no_capture in
    let capture_put : g.D.Desk.at c.flush_short.new.desk ports.Capture ≡ g.D.Desk.at c.read_piece.new.desk ports.Capture =
    c.in_default-flush_short.ensures.moves.elsewhere ports.Capture capture_is_no_egress ∙ c.in_default.ensures.moves.elsewhere ports.Capture capture_is_no_egress in
    record {
      state = λ tells input s.
          let at = c.pieces.invariant.state tells input s in
          let same : (g.D.Desk.at c.read_piece.new.desk ports.Egress).written ++ c.pieces.buffer.items ≡ (g.D.Desk.at c.pieces.desk ports.Egress).written ++ c.pieces.buffer.items =
          ap (λ (p : Shown). p.written ++ c.pieces.buffer.items) egress_read in
          let read : State c.args.path.now input (g.D.Desk.at c.read_piece.new.desk ports.Capture).left ((g.D.Desk.at c.read_piece.new.desk ports.Egress).written ++ c.pieces.buffer.items) c.read_piece.new.feed =
          state_read c.args.path.now input _ _ _ _ c.pieces.feed c.read_piece.new.feed c.in-Ok-Some.ensures.form same (λ given f. c.in-Ok-Some.ensures.follows tells input given f) at.0 in
          let put = c.in_default.ensures.puts tells input (g.D.Desk.at c.read_piece.new.desk ports.Capture).left read in
          let flushed : State c.args.path.now input (g.D.Desk.at c.read_piece.new.desk ports.Capture).left ((g.D.Desk.at c.flush_short.new.desk ports.Egress).written ++ c.flush_short.new.buffer.items) c.put_piece.new.feed =
          state_put c.args.path.now input _ _ _ c.put_piece.new.feed (c.in_default-flush_short.ensures.ok tells) put.0 in (
            subst (λ (p : Shown). State c.args.path.now input p.left ((g.D.Desk.at c.flush_short.new.desk ports.Egress).written ++ c.flush_short.new.buffer.items) c.put_piece.new.feed) (sym capture_put) flushed,
            put.1,
          );
      count = grind arith;
      small = omega (arith, c.in_default-flush_short.ensures.small, c.flush_short.new.buffer.ok.0);
      capture = ap (λ (p : Shown). p.bound) capture_put ∙ c.in-Ok-Some.ensures.moves.still_bound;
      egress = c.in_default-flush_short.ensures.moves.still_bound;
      capture_quiet = ap (λ (p : Shown). p.faults) capture_put ∙ (c.in-Ok-Some.ensures.spared (λ failed. cc) ∙ c.pieces.invariant.capture_quiet);
      egress_quiet = c.in_default-flush_short.ensures.quiet ∙ (c.in_default.ensures.spared (λ failed. cc) ∙ (ap (λ (p : Shown). p.faults) egress_read ∙ c.pieces.invariant.egress_quiet));
      none_bound = bound_moves g.D.Desk.tells ports.Egress _ _ _ _ _ (bound_moves g.D.Desk.tells ports.Egress _ _ _ _ _ (bound_moves g.D.Desk.tells ports.Capture _ _ _ _ _ c.pieces.invariant.none_bound c.in-Ok-Some.ensures.moves) c.in_default.ensures.moves) c.in_default-flush_short.ensures.moves;
      others = λ port ne ne'. c.in_default-flush_short.ensures.moves.elsewhere port ne' ∙ c.in_default.ensures.moves.elsewhere port ne' ∙ c.in-Ok-Some.ensures.moves.elsewhere port ne ∙ c.pieces.invariant.others port ne ne';
    }

pub returns-in-Ok-None-clause-others : goal.returns-in-Ok-None-clause-others
returns-in-Ok-None-clause-others g c = λ port ne ne'. c.in-Ok-None.ensures.moves.elsewhere port ne ∙ c.pieces.invariant.others port ne ne'

pub returns-in-Err-clause-others : goal.returns-in-Err-clause-others
returns-in-Err-clause-others g c = λ port ne ne'. c.in-Err.ensures.moves.elsewhere port ne ∙ c.pieces.invariant.others port ne ne'

pub returns-then-place-held-gt-LIMIT-clause-others : goal.returns-then-place-held-gt-LIMIT-clause-others
returns-then-place-held-gt-LIMIT-clause-others g c = λ port ne ne'. c.in-Ok-Some.ensures.moves.elsewhere port ne ∙ c.pieces.invariant.others port ne ne'

pub returns-in-Err-put_piece-clause-others : goal.returns-in-Err-put_piece-clause-others
returns-in-Err-put_piece-clause-others g c = λ port ne ne'. c.in-Err-put_piece.ensures.moves.elsewhere port ne' ∙ c.in-Ok-Some.ensures.moves.elsewhere port ne ∙ c.pieces.invariant.others port ne ne'

pub returns-in-Err-flush_short-clause-others : goal.returns-in-Err-flush_short-clause-others
returns-in-Err-flush_short-clause-others g c = λ port ne ne'. c.in-Err-flush_short.ensures.moves.elsewhere port ne' ∙ c.in_default.ensures.moves.elsewhere port ne' ∙ c.in-Ok-Some.ensures.moves.elsewhere port ne ∙ c.pieces.invariant.others port ne ne'

pub returns-in-Ok-None-clause-few : goal.returns-in-Ok-None-clause-few
returns-in-Ok-None-clause-few g c =
    let none = is_none c.in-Ok-None.field-0 c.in-Ok-None.field-0-is in
    omega (arith, c.pieces.invariant.count, ap length (c.in-Ok-None.ensures.still none), c.in-Ok-None.ensures.place)

-- ---- the counts, and what was bound

pub returns-in-Ok-None-clause-none_bound : goal.returns-in-Ok-None-clause-none_bound
returns-in-Ok-None-clause-none_bound g c = bound_moves g.D.Desk.tells ports.Capture _ _ _ _ _ c.pieces.invariant.none_bound c.in-Ok-None.ensures.moves

pub returns-in-Err-clause-none_bound : goal.returns-in-Err-clause-none_bound
returns-in-Err-clause-none_bound g c = bound_moves g.D.Desk.tells ports.Capture _ _ _ _ _ c.pieces.invariant.none_bound c.in-Err.ensures.moves

pub returns-then-place-held-gt-LIMIT-clause-none_bound : goal.returns-then-place-held-gt-LIMIT-clause-none_bound
returns-then-place-held-gt-LIMIT-clause-none_bound g c = bound_moves g.D.Desk.tells ports.Capture _ _ _ _ _ c.pieces.invariant.none_bound c.in-Ok-Some.ensures.moves

pub returns-in-Err-put_piece-clause-none_bound : goal.returns-in-Err-put_piece-clause-none_bound
returns-in-Err-put_piece-clause-none_bound g c =
    bound_moves g.D.Desk.tells ports.Egress _ _ _ _ _ (bound_moves g.D.Desk.tells ports.Capture _ _ _ _ _ c.pieces.invariant.none_bound c.in-Ok-Some.ensures.moves) c.in-Err-put_piece.ensures.moves

pub returns-in-Err-flush_short-clause-none_bound : goal.returns-in-Err-flush_short-clause-none_bound
returns-in-Err-flush_short-clause-none_bound g c =
    bound_moves g.D.Desk.tells ports.Egress _ _ _ _ _ (bound_moves g.D.Desk.tells ports.Egress _ _ _ _ _ (bound_moves g.D.Desk.tells ports.Capture _ _ _ _ _ c.pieces.invariant.none_bound c.in-Ok-Some.ensures.moves) c.in_default.ensures.moves) c.in-Err-flush_short.ensures.moves
