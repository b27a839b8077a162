-- A fault, a halt, the end, or a round.
use Rattle.std.proofs.Common.{◌≡◌, ℕ, ◌+◌, ◌≤◌, ◌^◌, List, ◌++◌, length, Option, Err, refl, sym, ap, subst, ◌∙◌, inl, inr, length-append, arith}
use Rattle.std.proofs.lemmas.Bool.{MatchBool-at_true, MatchBool-at_false}
use Rattle.sfc_desk.specs.declared.ports.Port.TheVariants as ports
use Rattle.sfc_desk.specs.Desks.{Shown}
use Rattle.control_files.specs.declared.segments.Segment.{Segment as Given}
use Rattle.control_files.specs.Kept.{Kept as ControlKept}
use Rattle.pcap_io.specs.Kept.{Kept as CaptureKept}
use Rattle.rounds.specs.declared.ends.RunEnd.{RunEnd}
use Rattle.rounds.specs.Rounds.{wanted}
use Rattle.round_inputs.specs.declared.frames_ahead.FrameAhead.{FrameAhead}
use Rattle.round_inputs.specs.Ahead.{CaptureAt}
use Rattle.round_inputs.specs.Filling.{LendsNext}
use Rattle.round_inputs.specs.declared.halts.Halt.{Halt}
use Rattle.round_inputs.specs.Halts.{IsPort, IsRead}
use Rattle.round_inputs.proofs.FewLemmas.{history_few, passed_few}
use Rattle.round_inputs.proofs.HaltLemmas.{capture_is_no_control, control_is_no_capture, counts_halt, halt_after, long_own, reads_capture, reads_control, reads_then}
use Rattle.round_inputs.proofs.TakeLemmas.{Filled, both_over, capture_short, capture_still, control_short, control_still, ends_capture_at, ends_control_at, ends_whole_at, next_at}
use Rattle.round_inputs.proofs.taking.take_round.Goals as goal

-- the capture's fault stands next
pub returns-in-Bad-clause-takes : goal.returns-in-Bad-clause-takes
returns-in-Bad-clause-takes g c = λ capture control passed history h. record {
  ends = λ told form whole are. ends_capture_at g.D.Desk.tells capture control _ c.args.inputs.now.frame c.args.inputs.now.capture passed history c.in-Bad.refusal form _ whole told c.in-Bad.is h.frames are;
  read = λ told. capture_short g.D.Desk.tells capture _ c.args.inputs.now.frame c.args.inputs.now.capture passed c.in-Bad.refusal told c.in-Bad.is h.frames;
}

-- the control file was not read on
pub returns-in-Err-clause-takes : goal.returns-in-Err-clause-takes
returns-in-Err-clause-takes g c = λ capture control passed history h. (
  λ is told. absurd (capture_is_no_control (long_own (Unit {0}) ports.Control ports.Capture (g.D.Desk.at c.args.desk.now) (g.D.Desk.at c.take_group.new.desk) c.in-Err.halt c.in-Err.ensures.counts is)),
  λ is told. c.in-Err.ensures.long control history h.segments (ap (λ (x : Halt). Err x) is) told,
)

pub returns-in-Err-clause-counts : goal.returns-in-Err-clause-counts
returns-in-Err-clause-counts g c = counts_halt (Unit {0}) (Option RunEnd) (IsPort ports.Control) IsRead (g.D.Desk.at c.args.desk.now) (g.D.Desk.at c.take_group.new.desk) c.in-Err.halt (λ p is. inr is) c.in-Err.ensures.counts

pub returns-in-Err-clause-reads : goal.returns-in-Err-clause-reads
returns-in-Err-clause-reads g c = reads_control g.D.Desk.tells _ _ _ _ c.requires.capture c.take_group.ensures.moves

-- the control file's fault stands behind the group
pub returns-in-Bad-segment-clause-takes : goal.returns-in-Bad-segment-clause-takes
returns-in-Bad-segment-clause-takes g c = λ capture control passed history h.
    let seg = c.in-Ok.ensures.at control history h.segments in
    record {
      ends = λ told form whole are. ends_control_at g.D.Desk.tells capture control _ _ c.args.inputs.now.frame c.args.inputs.now.capture c.take_group.new.inputs.segment c.take_group.new.inputs.control passed history c.take_group.new.group c.is_over-over.result c.args.inputs.now.place c.in-Bad-segment.refusal form whole
          told h.frames seg c.in_default.not-Bad c.in-Bad-segment.is c.is_over-over.ensures c.in-Ok.ensures.cut c.in-Ok.ensures.full h.place are;
      read = λ told. control_short g.D.Desk.tells control _ c.take_group.new.inputs.segment c.take_group.new.inputs.control _ c.in-Bad-segment.refusal told c.in-Bad-segment.is seg;
    }

pub returns-in-Bad-segment-clause-reads : goal.returns-in-Bad-segment-clause-reads
returns-in-Bad-segment-clause-reads g c = reads_control g.D.Desk.tells _ _ _ _ c.requires.capture c.take_group.ensures.moves

-- the capture was not read on
pub returns-in-Err-take_frames-clause-takes : goal.returns-in-Err-take_frames-clause-takes
returns-in-Err-take_frames-clause-takes g c = λ capture control passed history h.
    let mid = capture_still g.D.Desk.tells capture _ (g.D.Desk.at c.take_group.new.desk ports.Capture).left _ c.take_group.new.inputs.frame _ c.take_group.new.inputs.capture passed
    (ap (λ (s : Shown). s.left) (c.take_group.ensures.moves.elsewhere ports.Capture capture_is_no_control)) c.take_group.ensures.frame c.take_group.ensures.capture h.frames in (
      λ is told. c.in-Err-take_frames.ensures.long capture passed mid (ap (λ (x : Halt). Err x) is) told,
      λ is told. absurd (control_is_no_capture (long_own (Unit {0}) ports.Capture ports.Control (g.D.Desk.at c.take_group.new.desk) (g.D.Desk.at c.take_frames.new.desk) c.in-Err-take_frames.halt c.in-Err-take_frames.ensures.counts is)),
    )

pub returns-in-Err-take_frames-clause-counts : goal.returns-in-Err-take_frames-clause-counts
returns-in-Err-take_frames-clause-counts g c =
    halt_after (Unit {0}) (Option RunEnd) (IsPort ports.Capture) IsRead (g.D.Desk.at c.args.desk.now) (g.D.Desk.at c.take_group.new.desk) (g.D.Desk.at c.take_frames.new.desk) c.in-Err-take_frames.halt (λ p is. inl is) c.in-Ok.ensures.counts c.in-Err-take_frames.ensures.counts

pub returns-in-Err-take_frames-clause-reads : goal.returns-in-Err-take_frames-clause-reads
returns-in-Err-take_frames-clause-reads g c =
    reads_then g.D.Desk.tells _ _ _ _ _ _ (reads_control g.D.Desk.tells _ _ _ _ c.requires.capture c.take_group.ensures.moves) (reads_capture g.D.Desk.tells _ _ _ _ c.take_group.ensures.moves.still_bound c.take_frames.ensures.moves)

-- both inputs are at their ends
pub returns-then-is_nothing-clause-takes : goal.returns-then-is_nothing-clause-takes
returns-then-is_nothing-clause-takes g c = λ capture control passed history h.
    let left_c = (g.D.Desk.at c.take_frames.new.desk ports.Capture).left in
    let left_s = (g.D.Desk.at c.take_frames.new.desk ports.Control).left in
    let buffer = g.B.FrameBuffer.frames c.take_frames.new.buffer in
    let mid = capture_still g.D.Desk.tells capture _ (g.D.Desk.at c.take_group.new.desk ports.Capture).left _ c.take_group.new.inputs.frame _ c.take_group.new.inputs.capture passed
    (ap (λ (s : Shown). s.left) (c.take_group.ensures.moves.elsewhere ports.Capture capture_is_no_control)) c.take_group.ensures.frame c.take_group.ensures.capture h.frames in
    let at : CaptureAt g.D.Desk.tells capture left_c c.take_frames.new.inputs.frame c.take_frames.new.inputs.capture (passed ++ buffer) = c.in-Ok-take_frames.ensures.at capture passed mid in
    let seg = c.in-Ok.ensures.at control history h.segments in
    let same_left : left_s ≡ (g.D.Desk.at c.take_group.new.desk ports.Control).left = ap (λ (s : Shown). s.left) (c.take_frames.ensures.moves.elsewhere ports.Control control_is_no_capture) in
    let filled : Filled g.D.Desk.tells capture control (g.D.Desk.at c.args.desk.now ports.Capture).left left_c left_s c.args.inputs.now.frame c.take_frames.new.inputs.frame c.args.inputs.now.capture c.take_frames.new.inputs.capture c.take_group.new.inputs.segment c.take_frames.new.inputs.control passed buffer history c.take_group.new.group c.is_over-over.result c.args.inputs.now.place c.frames_wanted-most.result = record {
      before = h.frames;
      frames = at;
      segments = control_still g.D.Desk.tells control _ left_s c.take_group.new.inputs.segment c.take_group.new.inputs.segment _ c.take_frames.new.inputs.control (history ++ c.take_group.new.group) same_left refl c.in-Ok-take_frames.ensures.control seg;
      good = c.in_default.not-Bad;
      known = c.in_default-segment.not-Bad;
      over_next = c.is_over-over.ensures;
      cut = c.in-Ok.ensures.cut;
      full = c.in-Ok.ensures.full;
      filled = c.in-Ok-take_frames.ensures.filled;
      most_is = λ rest of.
          c.frames_wanted-most.ensures rest of
          ∙ (ap (λ (p : ℕ). wanted p c.as_slice.result.now rest) c.in-Ok.ensures.place ∙ ap (λ (l : List Given). wanted c.args.inputs.now.place l rest) c.as_slice.ensures);
      place_is = h.place;
    } in
    let none = MatchBool-at_true _ _ c.if-is_nothing.true c.is_nothing.ensures in
    record {
      ends = λ told form whole are.
          let over = both_over g.D.Desk.tells capture control (g.D.Desk.at c.args.desk.now ports.Capture).left left_c left_s c.args.inputs.now.frame c.take_frames.new.inputs.frame c.args.inputs.now.capture c.take_frames.new.inputs.capture c.take_group.new.inputs.segment c.take_frames.new.inputs.control passed buffer history c.take_group.new.group c.is_over-over.result c.args.inputs.now.place c.frames_wanted-most.result filled (sym c.as_slice-2.ensures ∙ none.0) none.1 told in
          ends_whole_at g.D.Desk.tells capture control left_c left_s c.take_frames.new.inputs.capture c.take_frames.new.inputs.control passed history form whole over.0 over.1 told are;
      read = λ told.
          let over = both_over g.D.Desk.tells capture control (g.D.Desk.at c.args.desk.now ports.Capture).left left_c left_s c.args.inputs.now.frame c.take_frames.new.inputs.frame c.args.inputs.now.capture c.take_frames.new.inputs.capture c.take_group.new.inputs.segment c.take_frames.new.inputs.control passed buffer history c.take_group.new.group c.is_over-over.result c.args.inputs.now.place c.frames_wanted-most.result filled (sym c.as_slice-2.ensures ∙ none.0) none.1 told in
          let frames = over.0.ends told in
          let segments = over.1.ends told in
          record { frames = frames.0; segments = segments.0; no_capture_left = frames.1; no_control_left = segments.1; capture_within = frames.2; control_within = segments.2 };
    }

pub returns-then-is_nothing-clause-reads : goal.returns-then-is_nothing-clause-reads
returns-then-is_nothing-clause-reads g c =
    reads_then g.D.Desk.tells _ _ _ _ _ _ (reads_control g.D.Desk.tells _ _ _ _ c.requires.capture c.take_group.ensures.moves) (reads_capture g.D.Desk.tells _ _ _ _ c.take_group.ensures.moves.still_bound c.take_frames.ensures.moves)

-- there are no more frames and segments than bytes
pub count_round-requires : goal.count_round-requires
count_round-requires g c =
    let held = c.requires.held in
    let capture = held.0 in
    let control = held.1 in
    let passed = held.2 in
    let history = held.3 in
    let h = held.4 in
    let left_c = (g.D.Desk.at c.take_frames.new.desk ports.Capture).left in
    let left_s = (g.D.Desk.at c.take_frames.new.desk ports.Control).left in
    let buffer = g.B.FrameBuffer.frames c.take_frames.new.buffer in
    let mid = capture_still g.D.Desk.tells capture _ (g.D.Desk.at c.take_group.new.desk ports.Capture).left _ c.take_group.new.inputs.frame _ c.take_group.new.inputs.capture passed
    (ap (λ (s : Shown). s.left) (c.take_group.ensures.moves.elsewhere ports.Capture capture_is_no_control)) c.take_group.ensures.frame c.take_group.ensures.capture h.frames in
    let at : CaptureAt g.D.Desk.tells capture left_c c.take_frames.new.inputs.frame c.take_frames.new.inputs.capture (passed ++ buffer) = c.in-Ok-take_frames.ensures.at capture passed mid in
    let seg = c.in-Ok.ensures.at control history h.segments in
    let same_left : left_s ≡ (g.D.Desk.at c.take_group.new.desk ports.Control).left = ap (λ (s : Shown). s.left) (c.take_frames.ensures.moves.elsewhere ports.Control control_is_no_capture) in
    let frames = passed_few g.D.Desk.tells capture left_c c.take_frames.new.inputs.frame c.take_frames.new.inputs.capture (passed ++ buffer) at c.in-Ok-take_frames.ensures.few in
    let segments = history_few g.D.Desk.tells control _ c.take_group.new.inputs.segment c.take_group.new.inputs.control (history ++ c.take_group.new.group) seg c.in-Ok.ensures.few in
    record {
      frames = omega (arith, frames, length-append passed buffer, h.place, c.in-Ok.ensures.place, c.in-Ok-take_frames.ensures.place, c.len.ensures);
      segments = omega (arith, segments, length-append history c.take_group.new.group, h.steps, c.in-Ok.ensures.steps, c.in-Ok-take_frames.ensures.steps, ap length c.as_slice-3.ensures);
    }

-- the round was taken
pub returns-clause-takes : goal.returns-clause-takes
returns-clause-takes g c = λ capture control passed history h.
    let left_c = (g.D.Desk.at c.take_frames.new.desk ports.Capture).left in
    let left_s = (g.D.Desk.at c.take_frames.new.desk ports.Control).left in
    let buffer = g.B.FrameBuffer.frames c.take_frames.new.buffer in
    let mid = capture_still g.D.Desk.tells capture _ (g.D.Desk.at c.take_group.new.desk ports.Capture).left _ c.take_group.new.inputs.frame _ c.take_group.new.inputs.capture passed
    (ap (λ (s : Shown). s.left) (c.take_group.ensures.moves.elsewhere ports.Capture capture_is_no_control)) c.take_group.ensures.frame c.take_group.ensures.capture h.frames in
    let at : CaptureAt g.D.Desk.tells capture left_c c.take_frames.new.inputs.frame c.take_frames.new.inputs.capture (passed ++ buffer) = c.in-Ok-take_frames.ensures.at capture passed mid in
    let seg = c.in-Ok.ensures.at control history h.segments in
    let same_left : left_s ≡ (g.D.Desk.at c.take_group.new.desk ports.Control).left = ap (λ (s : Shown). s.left) (c.take_frames.ensures.moves.elsewhere ports.Control control_is_no_capture) in
    let filled : Filled g.D.Desk.tells capture control (g.D.Desk.at c.args.desk.now ports.Capture).left left_c left_s c.args.inputs.now.frame c.take_frames.new.inputs.frame c.args.inputs.now.capture c.take_frames.new.inputs.capture c.take_group.new.inputs.segment c.count_round.new.inputs.control passed buffer history c.take_group.new.group c.is_over-over.result c.args.inputs.now.place c.frames_wanted-most.result = record {
      before = h.frames;
      frames = at;
      segments = control_still g.D.Desk.tells control _ left_s c.take_group.new.inputs.segment c.take_group.new.inputs.segment _ c.count_round.new.inputs.control (history ++ c.take_group.new.group) same_left refl (c.count_round.ensures.control ∙ c.in-Ok-take_frames.ensures.control) seg;
      good = c.in_default.not-Bad;
      known = c.in_default-segment.not-Bad;
      over_next = c.is_over-over.ensures;
      cut = c.in-Ok.ensures.cut;
      full = c.in-Ok.ensures.full;
      filled = c.in-Ok-take_frames.ensures.filled;
      most_is = λ rest of.
          c.frames_wanted-most.ensures rest of
          ∙ (ap (λ (p : ℕ). wanted p c.as_slice.result.now rest) c.in-Ok.ensures.place ∙ ap (λ (l : List Given). wanted c.args.inputs.now.place l rest) c.as_slice.ensures);
      place_is = h.place;
    } in
    let some = MatchBool-at_false _ _ c.if-is_nothing.false c.is_nothing.ensures in
    let size = ap length c.as_slice-2.ensures in
    record {
      holds = record {
        frames = capture_still g.D.Desk.tells capture left_c left_c c.take_frames.new.inputs.frame c.count_round.new.inputs.frame c.take_frames.new.inputs.capture c.count_round.new.inputs.capture (passed ++ buffer) refl c.count_round.ensures.frame c.count_round.ensures.capture at;
        segments = control_still g.D.Desk.tells control _ left_s c.take_group.new.inputs.segment c.count_round.new.inputs.segment _ c.count_round.new.inputs.control (history ++ c.take_group.new.group) same_left
            (c.count_round.ensures.segment ∙ c.in-Ok-take_frames.ensures.segment) (c.count_round.ensures.control ∙ c.in-Ok-take_frames.ensures.control) seg;
        place = omega (arith, c.count_round.ensures.place, c.in-Ok-take_frames.ensures.place, c.in-Ok.ensures.place, h.place, length-append passed buffer, c.len.ensures);
        steps = omega (arith, c.count_round.ensures.steps, c.in-Ok-take_frames.ensures.steps, c.in-Ok.ensures.steps, h.steps, length-append history c.take_group.new.group, ap length c.as_slice-3.ensures);
      };
      next = λ told form whole are. next_at g.D.Desk.tells capture control (g.D.Desk.at c.args.desk.now ports.Capture).left left_c left_s c.args.inputs.now.frame c.take_frames.new.inputs.frame c.args.inputs.now.capture c.take_frames.new.inputs.capture c.take_group.new.inputs.segment c.count_round.new.inputs.control passed buffer history c.take_group.new.group c.is_over-over.result c.args.inputs.now.place c.frames_wanted-most.result form whole filled (omega (arith, some, size)) told are;
    }

pub returns-clause-few : goal.returns-clause-few
returns-clause-few g c = λ _. record {
  capture = subst (λ (k : CaptureKept). k.place + length k.rest ≤ 2 ^ 40) (sym c.count_round.ensures.capture) c.in-Ok-take_frames.ensures.few;
  control = subst (λ (k : ControlKept). k.place + length k.rest ≤ 2 ^ 40) (sym (c.count_round.ensures.control ∙ c.in-Ok-take_frames.ensures.control)) c.in-Ok.ensures.few;
}

pub returns-clause-lends : goal.returns-clause-lends
returns-clause-lends g c = λ _.
    subst (λ (a : FrameAhead). LendsNext a c.count_round.new.inputs.capture) (sym c.count_round.ensures.frame)
    (subst (λ (k : CaptureKept). LendsNext c.take_frames.new.inputs.frame k) (sym c.count_round.ensures.capture) c.in-Ok-take_frames.ensures.lends)

-- more was taken than before
pub returns-clause-rises : goal.returns-clause-rises
returns-clause-rises g c = λ _.
    let some = MatchBool-at_false _ _ c.if-is_nothing.false c.is_nothing.ensures in
    omega (arith, some, ap length c.as_slice-2.ensures, ap length c.as_slice-3.ensures, c.len.ensures, c.count_round.ensures.place, c.count_round.ensures.steps, c.in-Ok-take_frames.ensures.place, c.in-Ok-take_frames.ensures.steps, c.in-Ok.ensures.place, c.in-Ok.ensures.steps)

pub returns-clause-most : goal.returns-clause-most
returns-clause-most g c = λ _.
    let held = c.requires.held in
    let capture = held.0 in
    let control = held.1 in
    let passed = held.2 in
    let history = held.3 in
    let h = held.4 in
    let left_c = (g.D.Desk.at c.take_frames.new.desk ports.Capture).left in
    let left_s = (g.D.Desk.at c.take_frames.new.desk ports.Control).left in
    let buffer = g.B.FrameBuffer.frames c.take_frames.new.buffer in
    let mid = capture_still g.D.Desk.tells capture _ (g.D.Desk.at c.take_group.new.desk ports.Capture).left _ c.take_group.new.inputs.frame _ c.take_group.new.inputs.capture passed
    (ap (λ (s : Shown). s.left) (c.take_group.ensures.moves.elsewhere ports.Capture capture_is_no_control)) c.take_group.ensures.frame c.take_group.ensures.capture h.frames in
    let at : CaptureAt g.D.Desk.tells capture left_c c.take_frames.new.inputs.frame c.take_frames.new.inputs.capture (passed ++ buffer) = c.in-Ok-take_frames.ensures.at capture passed mid in
    let seg = c.in-Ok.ensures.at control history h.segments in
    let same_left : left_s ≡ (g.D.Desk.at c.take_group.new.desk ports.Control).left = ap (λ (s : Shown). s.left) (c.take_frames.ensures.moves.elsewhere ports.Control control_is_no_capture) in
    let frames = passed_few g.D.Desk.tells capture left_c c.take_frames.new.inputs.frame c.take_frames.new.inputs.capture (passed ++ buffer) at c.in-Ok-take_frames.ensures.few in
    let segments = history_few g.D.Desk.tells control _ c.take_group.new.inputs.segment c.take_group.new.inputs.control (history ++ c.take_group.new.group) seg c.in-Ok.ensures.few in
    omega (
      arith,
      frames,
      segments,
      length-append passed buffer,
      length-append history c.take_group.new.group,
      h.place,
      h.steps,
      ap length c.as_slice-3.ensures,
      c.len.ensures,
      c.count_round.ensures.place,
      c.count_round.ensures.steps,
      c.in-Ok-take_frames.ensures.place,
      c.in-Ok-take_frames.ensures.steps,
      c.in-Ok.ensures.place,
      c.in-Ok.ensures.steps,
    )

pub returns-clause-peers : goal.returns-clause-peers
returns-clause-peers g c = ap (λ (k : ControlKept). k.peers) (c.count_round.ensures.control ∙ c.in-Ok-take_frames.ensures.control) ∙ c.in-Ok.ensures.peers

pub returns-clause-reads : goal.returns-clause-reads
returns-clause-reads g c =
    reads_then g.D.Desk.tells _ _ _ _ _ _ (reads_control g.D.Desk.tells _ _ _ _ c.requires.capture c.take_group.ensures.moves) (reads_capture g.D.Desk.tells _ _ _ _ c.take_group.ensures.moves.still_bound c.take_frames.ensures.moves)
