-- The segment that stands next joins the group.
use Rattle.std.proofs.Common.{◌≡◌, true, List, ◌++◌, length, sym, ap, subst, ◌∙◌, arith}
use Rattle.std.proofs.lemmas.List.{length_push}
use Rattle.sfc_desk.specs.declared.ports.Port.TheVariants as ports
use Rattle.sfc_desk.proofs.CallLemmas.{moves_then}
use Rattle.control_files.specs.declared.segments.Segment.{Segment as Given}
use Rattle.round_inputs.specs.declared.segments_ahead.SegmentAhead.{SegmentAhead}
use Rattle.round_inputs.specs.Ahead.{ControlAt}
use Rattle.round_inputs.specs.Filling.{are_at_cut}
use Rattle.round_inputs.proofs.FillLemmas.{at_cut_more, segment_taken}
use Rattle.round_inputs.proofs.filling.fill_group.Goals as goal

pub group-preserved : goal.group-preserved
group-preserved g c =
    let s = c.is_next_at_cut.ensures.at c.if-not-is_next_at_cut.false in
    let items = c.in-Ok-advance.ensures.taken s.0 s.1 in
    let left = (g.D.Desk.at c.look_at_segment.new.desk ports.Control).left in
    record {
      at = λ input history before.
          let taken = segment_taken g.D.Desk.tells input _ c.group.ahead c.group.feed history c.group.group s.0 s.1 (c.group.invariant.at input history before) in
          subst (λ (a : SegmentAhead). ControlAt g.D.Desk.tells input left a c.look_at_segment.new.feed (history ++ c.advance.new.group)) (sym c.advance.ensures.next)
          (subst (λ (l : List Given). ControlAt g.D.Desk.tells input left c.in-Ok.next c.look_at_segment.new.feed (history ++ l)) (sym {A = List Given} items)
          (c.in-Ok.ensures.looks input _ taken));
      cut = subst (λ (l : List Given). are_at_cut c.args.ended c.args.place l ≡ true) (sym {A = List Given} items) (at_cut_more c.args.ended c.args.place c.group.group s.0 c.group.invariant.cut s.2);
      small = omega (arith, ap length items, length_push c.group.group s.0, ap length c.as_slice.ensures);
      few = c.in-Ok.ensures.few;
      peers = c.in-Ok.ensures.peers ∙ c.group.invariant.peers;
      counts = λ port. c.in-Ok.ensures.counts port ∙ c.group.invariant.counts port;
      moves = moves_then g.D.Desk.tells ports.Control _ _ _ _ _ _ c.group.invariant.moves c.in-Ok.ensures.moves;
    }

-- and it is longer
pub group-smaller : goal.group-smaller
group-smaller g c =
    let s = c.is_next_at_cut.ensures.at c.if-not-is_next_at_cut.false in
    let items = c.in-Ok-advance.ensures.taken s.0 s.1 in
    omega (arith, ap length items, length_push c.group.group s.0, ap length c.as_slice.ensures)
