-- What the steps of taking a round come to.
use Rattle.std.proofs.Common.{◌≡◌, ◌⊎◌, ℕ, ◌+◌, ◌<◌, Bool, true, false, ◌&&◌, ◌||◌, nat_le, List, [], ◌∷◌, ◌++◌, length, take, drop, Option, None, Some, MatchBool, refl, sym, ap, subst, ◌∙◌, inl, inr, append_assoc, length-append, arith}
use Rattle.std.proofs.lemmas.Bool.{both_ways, leb-false, or_parts}
use Rattle.std.proofs.lemmas.List.{append-nil}
use Rattle.pcap_io.specs.declared.forms.Form.{Form}
use Rattle.pcap_io.specs.declared.frames.Captured.{Captured}
use Rattle.pcap_io.specs.declared.frames.PacketHead.{PacketHead}
use Rattle.pcap_io.specs.declared.reasons.Refusal.{Refusal as CaptureRefusal}
use Rattle.pcap_io.specs.Kept.{Kept as CaptureKept}
use Rattle.pcap_io.specs.Calls.{lent_frame}
use Rattle.pcap_io.specs.Reads.{Reads}
use Rattle.pcap_io.proofs.OneReading.{one_reading as one_capture_reading}
use Rattle.control_files.specs.declared.segments.Segment.{Segment}
use Rattle.control_files.specs.declared.reasons.Refusal.{Refusal as ControlRefusal}
use Rattle.control_files.specs.Kept.{Kept as ControlKept}
use Rattle.rounds.specs.declared.ends.RunEnd.TheVariants as ends
use Rattle.rounds.specs.Rounds.{at_cut, is_at_cut, is_empty, span, wanted, round_segments, round_frames}
use Rattle.rounds.specs.Views.{Inputs, IsNext}
use Rattle.rounds.proofs.RoundLemmas.{wanted_alone}
use Rattle.rounds.proofs.FrontRounds.{some_item}
use Rattle.round_inputs.specs.declared.frames_ahead.FrameAhead.{FrameAhead}
use Rattle.round_inputs.specs.declared.frames_ahead.FrameAhead.TheVariants as frame
use Rattle.round_inputs.specs.declared.segments_ahead.SegmentAhead.{SegmentAhead}
use Rattle.round_inputs.specs.declared.segments_ahead.SegmentAhead.TheVariants as segment
use Rattle.round_inputs.specs.Ahead.{CaptureAt, ControlAt, FrameShort, SegmentShort, frames_next}
use Rattle.round_inputs.specs.Filling.{AheadOf, IsFilled, IsFull, are_at_cut}
use Rattle.round_inputs.specs.Taking.{AreInputs, EndsAt, left_of, round_of}
use Rattle.round_inputs.proofs.FillLemmas.{frames_full, group_full}
use Rattle.round_inputs.proofs.WholeLemmas.{FramesOf, behind_front, first_of, frame_bad_at, frames_left, known_at, none_next, open_at, over_is, segment_bad_at, segments_left}

-- the group is what the definition takes
group_is : (over : Bool) (place n : ℕ) (group rest ss : List Segment) (fs : List Captured) → over ≡ is_empty fs → place ≡ n → ss ≡ group ++ rest → group ≡ take 256 (at_cut over place (group ++ rest)) → group ≡ round_segments n fs ss
unfolding round_segments
group_is over place n group rest ss fs over_is place_is split is =
    is ∙ (ap (λ b. take 256 (at_cut b place (group ++ rest))) over_is
    ∙ (ap (λ p. take 256 (at_cut (is_empty fs) p (group ++ rest))) place_is
    ∙ ap (λ (l : List Segment). take 256 (at_cut (is_empty fs) n l)) (sym split)))

-- and so are the frames
frames_are : (n most : ℕ) (group rest ss : List Segment) (buffer left fs : List Captured) → group ≡ round_segments n fs ss → ss ≡ group ++ rest → most ≡ wanted n group rest → fs ≡ buffer ++ left → buffer ≡ take most (buffer ++ left) → buffer ≡ round_frames n fs ss
unfolding round_frames
frames_are n most group rest ss buffer left fs group_is split most_is joined is =
    is ∙ (ap (λ m. take m (buffer ++ left)) most_is
    ∙ (ap (λ (l : List Captured). take (wanted n group rest) l) (sym joined)
    ∙ (ap (λ (l : List Segment). take (wanted n group l) fs) (sym (behind_front group rest ss split))
    ∙ ap (λ (g : List Segment). take (wanted n g (drop (length g) ss)) fs) group_is)))

-- ---- a fault

-- the capture's fault stands next
pub ends_capture_at : (tells : Bool) (capture control left : List ℕ) (ahead : FrameAhead) (feed : CaptureKept) (passed : List Captured) (history : List Segment) (r : CaptureRefusal) (form : Option Form) (peers : List ℕ) (whole : Inputs)
    → tells ≡ true → ahead ≡ frame.Bad r → CaptureAt tells capture left ahead feed passed → AreInputs capture control form peers whole → EndsAt (length passed) (left_of whole passed history) (ends.Capture r)
ends_capture_at tells capture control left ahead feed passed history r form peers whole told is at are =
    let l = frames_left tells capture left ahead feed passed form whole.frames whole.capture_fault told at are.frames in
    frame_bad_at ahead r (drop (length passed) whole.frames) whole.capture_fault is l.rest l.fault_is

pub capture_short : (tells : Bool) (capture left : List ℕ) (ahead : FrameAhead) (feed : CaptureKept) (passed : List Captured) (r : CaptureRefusal) → tells ≡ true → ahead ≡ frame.Bad r → CaptureAt tells capture left ahead feed passed → FrameShort r capture
capture_short tells capture left ahead feed passed r told is at =
    let here : CaptureAt tells capture left (frame.Bad r) feed passed = subst (λ (a : FrameAhead). CaptureAt tells capture left a feed passed) is at in
    (here.ends told).1

pub control_short : (tells : Bool) (control left : List ℕ) (ahead : SegmentAhead) (feed : ControlKept) (history : List Segment) (r : ControlRefusal) → tells ≡ true → ahead ≡ segment.Bad r → ControlAt tells control left ahead feed history → SegmentShort r control
control_short tells control left ahead feed history r told is at =
    let here : ControlAt tells control left (segment.Bad r) feed history = subst (λ (a : SegmentAhead). ControlAt tells control left a feed history) is at in
    (here.ends told).1

-- the control file's fault stands behind the group
pub ends_control_at : (tells : Bool) (capture control left_c left_s : List ℕ) (frame0 : FrameAhead) (feed : CaptureKept) (segment1 : SegmentAhead) (ctl : ControlKept) (passed : List Captured) (history group : List Segment) (over : Bool) (place : ℕ) (r : ControlRefusal) (form : Option Form) (whole : Inputs)
    → tells ≡ true → CaptureAt tells capture left_c frame0 feed passed → ControlAt tells control left_s segment1 ctl (history ++ group) → ((d : CaptureRefusal) → frame0 ≡ frame.Bad d → ⊥) → segment1 ≡ segment.Bad r
    → MatchBool over (frames_next frame0 ≡ 0) (frames_next frame0 ≡ 1) → are_at_cut over place group ≡ true → IsFull over place segment1 group → place ≡ length passed
    → AreInputs capture control form ctl.peers whole → EndsAt (length passed) (left_of whole passed history) (ends.Control r)
ends_control_at tells capture control left_c left_s frame0 feed segment1 ctl passed history group over place r form whole told cap seg good is over_next cut full place_is are =
    let l = frames_left tells capture left_c frame0 feed passed form whole.frames whole.capture_fault told cap are.frames in
    let m = segments_left tells control left_s segment1 ctl (history ++ group) whole.segments whole.control_fault told seg are.segments in
    let fs = drop (length passed) whole.frames in
    let ss = drop (length history) whole.segments in
    let rest = drop (length (history ++ group)) whole.segments in
    let bad = segment_bad_at segment1 r rest whole.control_fault is m.rest m.fault_is in
    let split : ss ≡ group ++ rest = behind_front history (group ++ rest) whole.segments (m.all ∙ append_assoc history group rest) in
    let here : group ≡ round_segments (length passed) fs ss =
    group_is over place (length passed) group rest ss fs (over_is frame0 fs over over_next l.rest) place_is split (group_full over place segment1 group rest cut full.small full.full m.rest) in
    let all : ss ≡ group = split ∙ (ap (λ (x : List Segment). group ++ x) bad.0 ∙ append-nil group) in (
      open_at frame0 fs whole.capture_fault good l.rest l.fault_is,
      sym here ∙ sym all,
      bad.1,
    )

-- ---- a round, or the end

-- a group and frames were taken
pub record Filled (tells : Bool) (capture control left0 left_c left_s : List ℕ) (frame0 frame1 : FrameAhead) (feed0 feed1 : CaptureKept) (segment1 : SegmentAhead) (ctl : ControlKept) (passed buffer : List Captured) (history group : List Segment) (over : Bool) (place most : ℕ) : Type 0 where
  pub before : CaptureAt tells capture left0 frame0 feed0 passed
  pub frames : CaptureAt tells capture left_c frame1 feed1 (passed ++ buffer)
  pub segments : ControlAt tells control left_s segment1 ctl (history ++ group)
  pub good : (r : CaptureRefusal) → frame0 ≡ frame.Bad r → ⊥
  pub known : (r : ControlRefusal) → segment1 ≡ segment.Bad r → ⊥
  pub over_next : MatchBool over (frames_next frame0 ≡ 0) (frames_next frame0 ≡ 1)
  pub cut : are_at_cut over place group ≡ true
  pub full : IsFull over place segment1 group
  pub filled : IsFilled most frame1 buffer
  pub most_is : (rest : List Segment) → AheadOf segment1 rest → most ≡ wanted place group rest
  pub place_is : place ≡ length passed

full_frames : (most : ℕ) (ahead : FrameAhead) (buffer rest : List Captured) → FramesOf ahead rest → (length buffer ≡ most) ⊎ (frames_next ahead ≡ 0) → (length buffer ≡ most) ⊎ (rest ≡ [])
full_frames most ahead buffer rest of (inl full) = inl full
full_frames most ahead buffer rest of (inr none) = inr (none_next ahead rest none of)

-- it is the next round
pub next_at : (tells : Bool) (capture control left0 left_c left_s : List ℕ) (frame0 frame1 : FrameAhead) (feed0 feed1 : CaptureKept) (segment1 : SegmentAhead) (ctl : ControlKept) (passed buffer : List Captured) (history group : List Segment) (over : Bool) (place most : ℕ) (form : Option Form) (whole : Inputs)
    → Filled tells capture control left0 left_c left_s frame0 frame1 feed0 feed1 segment1 ctl passed buffer history group over place most → 0 < length buffer + length group → tells ≡ true → AreInputs capture control form ctl.peers whole
    → IsNext (length passed) (left_of whole passed history) (round_of group buffer)
next_at tells capture control left0 left_c left_s frame0 frame1 feed0 feed1 segment1 ctl passed buffer history group over place most form whole f some told are =
    let l = frames_left tells capture left0 frame0 feed0 passed form whole.frames whole.capture_fault told f.before are.frames in
    let k = frames_left tells capture left_c frame1 feed1 (passed ++ buffer) form whole.frames whole.capture_fault told f.frames are.frames in
    let m = segments_left tells control left_s segment1 ctl (history ++ group) whole.segments whole.control_fault told f.segments are.segments in
    let n = length passed in
    let fs = drop n whole.frames in
    let ss = drop (length history) whole.segments in
    let rest = drop (length (history ++ group)) whole.segments in
    let more = drop (length (passed ++ buffer)) whole.frames in
    let split : ss ≡ group ++ rest = behind_front history (group ++ rest) whole.segments (m.all ∙ append_assoc history group rest) in
    let joined : fs ≡ buffer ++ more = behind_front passed (buffer ++ more) whole.frames (k.all ∙ append_assoc passed buffer more) in
    let segments_are : group ≡ round_segments n fs ss =
    group_is over place n group rest ss fs (over_is frame0 fs over f.over_next l.rest) f.place_is split (group_full over place segment1 group rest f.cut f.full.small f.full.full m.rest) in
    record {
      some = ap (λ (x : List Captured). is_empty x && is_empty ss) joined ∙ (ap (λ (x : List Segment). is_empty (buffer ++ more) && is_empty x) split ∙ some_item buffer more group rest some);
      segments_are = segments_are;
      frames_are = frames_are n most group rest ss buffer more fs segments_are split (f.most_is rest m.rest ∙ ap (λ p. wanted p group rest) f.place_is) joined
          (frames_full most buffer more f.filled.small (full_frames most frame1 buffer more k.rest f.filled.full));
      is_open = open_at frame0 fs whole.capture_fault f.good l.rest l.fault_is;
      known = λ none. known_at segment1 rest whole.control_fault f.known m.rest m.fault_is (sym (behind_front group rest ss split) ∙ none);
    }

-- where nothing was taken, frames or not, there was room for one
some_wanted : (over : Bool) (place : ℕ) (ahead : SegmentAhead) → ((s : Segment) → ahead ≡ segment.Segment s → is_at_cut over place s ≡ false) → ((r : ControlRefusal) → ahead ≡ segment.Bad r → ⊥) → (rest : List Segment) × AheadOf ahead rest × (0 < span place rest)
some_wanted over place (segment.Segment s) out known =
    let parts = or_parts over (nat_le s.position place) (out s refl) in
    let far = leb-false s.position place parts.1 in
    (s ∷ [], refl, omega (arith, far))
some_wanted over place segment.End out known = ([], refl, omega arith)
some_wanted over place (segment.Bad r) out known = absurd (known r refl)

not_full : {P : Type 0} (xs : List Segment) → xs ≡ [] → (length xs ≡ 256) ⊎ P → P
not_full xs none (inl full) = let n = ap length none in absurd (omega (arith, n, full))
not_full xs none (inr p) = p

-- no frame was left where one stands next
no_frame_behind : (tells : Bool) (capture left0 : List ℕ) (head : PacketHead) (feed0 : CaptureKept) (passed : List Captured) (form : Option Form) (stop : Option CaptureRefusal) → tells ≡ true → CaptureAt tells capture left0 (frame.Frame head) feed0 passed → Reads capture form passed stop → ⊥
no_frame_behind tells capture left0 head feed0 passed form stop told before reads =
    let first = first_of feed0.form feed0 capture left0 before.read.taken [] (lent_frame head feed0) passed form passed stop before.read.stands (before.read.joined told) reads in
    let n = ap length first.1.1 in
    omega (arith, n, length-append (passed ++ lent_frame head feed0 ∷ []) first.1.0, length-append passed (lent_frame head feed0 ∷ []))

-- where nothing was taken, the capture has ended
capture_over : (tells : Bool) (capture left0 left_c : List ℕ) (frame0 frame1 : FrameAhead) (feed0 feed1 : CaptureKept) (passed : List Captured) → tells ≡ true → CaptureAt tells capture left0 frame0 feed0 passed → CaptureAt tells capture left_c frame1 feed1 passed
    → ((r : CaptureRefusal) → frame0 ≡ frame.Bad r → ⊥) → frames_next frame1 ≡ 0 → (frames_next frame0 ≡ 0) × (frame1 ≡ frame.End)
capture_over tells capture left0 left_c frame0 (frame.Frame head) feed0 feed1 passed told before at good none = absurd (omega (arith, none))
capture_over tells capture left0 left_c (frame.Frame head) frame.End feed0 feed1 passed told before at good none = absurd (no_frame_behind tells capture left0 head feed0 passed feed1.form None told before (at.ends told).0)
capture_over tells capture left0 left_c frame.End frame.End feed0 feed1 passed told before at good none = (refl, refl)
capture_over tells capture left0 left_c (frame.Bad r) frame.End feed0 feed1 passed told before at good none = absurd (good r refl)
capture_over tells capture left0 left_c (frame.Frame head) (frame.Bad e) feed0 feed1 passed told before at good none = absurd (no_frame_behind tells capture left0 head feed0 passed feed1.form (Some e) told before (at.ends told).0)
capture_over tells capture left0 left_c frame.End (frame.Bad e) feed0 feed1 passed told before at good none =
    let one = one_capture_reading capture feed0.form feed1.form passed passed None (Some e) (before.ends told).0 (at.ends told).0 in
    absurd (none_some e one.2)
  where
    none_some : (e : CaptureRefusal) → None ≡ Some e → ⊥
    none_some e is = cc
capture_over tells capture left0 left_c (frame.Bad r) (frame.Bad e) feed0 feed1 passed told before at good none = absurd (good r refl)

over_true : (over : Bool) (n : ℕ) → MatchBool over (n ≡ 0) (n ≡ 1) → n ≡ 0 → over ≡ true
over_true true n is none = refl
over_true false n is none = absurd (omega (arith, is, none))

-- and the control file too
control_over : (over : Bool) (place : ℕ) (ahead : SegmentAhead) → over ≡ true → ((s : Segment) → ahead ≡ segment.Segment s → is_at_cut over place s ≡ false) → ((r : ControlRefusal) → ahead ≡ segment.Bad r → ⊥) → ahead ≡ segment.End
control_over over place (segment.Segment s) is out known =
    absurd (both_ways (over || nat_le s.position place) (out s refl) (ap (λ b. b || nat_le s.position place) is))
control_over over place segment.End is out known = refl
control_over over place (segment.Bad r) is out known = absurd (known r refl)

-- where nothing was taken, both inputs are at their ends
pub both_over : (tells : Bool) (capture control left0 left_c left_s : List ℕ) (frame0 frame1 : FrameAhead) (feed0 feed1 : CaptureKept) (segment1 : SegmentAhead) (ctl : ControlKept) (passed buffer : List Captured) (history group : List Segment) (over : Bool) (place most : ℕ)
    → Filled tells capture control left0 left_c left_s frame0 frame1 feed0 feed1 segment1 ctl passed buffer history group over place most → group ≡ [] → buffer ≡ [] → tells ≡ true
    → CaptureAt tells capture left_c frame.End feed1 passed × ControlAt tells control left_s segment.End ctl history
both_over tells capture control left0 left_c left_s frame0 frame1 feed0 feed1 segment1 ctl passed buffer history group over place most f no_group no_frames told =
    let out = not_full group no_group f.full.full in
    let room = some_wanted over place segment1 out f.known in
    let want : most ≡ span place room.0 = f.most_is room.0 room.1 ∙ (ap (λ (g : List Segment). wanted place g room.0) no_group ∙ wanted_alone place room.0) in
    let none : frames_next frame1 ≡ 0 = elim f.filled.full [
      | inl full ↦ let n = ap length no_frames in let w = want in let r = room.2 in absurd (omega (arith, full, n, w, r))
      | inr over ↦ over
    ] in
    let at : CaptureAt tells capture left_c frame1 feed1 passed = subst (λ (l : List Captured). CaptureAt tells capture left_c frame1 feed1 l) (ap (λ (l : List Captured). passed ++ l) no_frames ∙ append-nil passed) f.frames in
    let seg : ControlAt tells control left_s segment1 ctl history = subst (λ (l : List Segment). ControlAt tells control left_s segment1 ctl l) (ap (λ (l : List Segment). history ++ l) no_group ∙ append-nil history) f.segments in
    let ended = capture_over tells capture left0 left_c frame0 frame1 feed0 feed1 passed told f.before at f.good none in
    let last = control_over over place segment1 (over_true over (frames_next frame0) f.over_next ended.0) out f.known in (
      subst (λ (a : FrameAhead). CaptureAt tells capture left_c a feed1 passed) ended.1 at,
      subst (λ (a : SegmentAhead). ControlAt tells control left_s a ctl history) last seg,
    )

-- so the run ends
pub ends_whole_at : (tells : Bool) (capture control left_c left_s : List ℕ) (feed1 : CaptureKept) (ctl : ControlKept) (passed : List Captured) (history : List Segment) (form : Option Form) (whole : Inputs)
    → CaptureAt tells capture left_c frame.End feed1 passed → ControlAt tells control left_s segment.End ctl history → tells ≡ true → AreInputs capture control form ctl.peers whole → EndsAt (length passed) (left_of whole passed history) ends.Whole
ends_whole_at tells capture control left_c left_s feed1 ctl passed history form whole cap seg told are =
    let l = frames_left tells capture left_c frame.End feed1 passed form whole.frames whole.capture_fault told cap are.frames in
    let m = segments_left tells control left_s segment.End ctl history whole.segments whole.control_fault told seg are.segments in
    (l.rest, l.fault_is, m.rest, m.fault_is)

-- ---- what stays

-- where a feed, what stands next and what is left are the same, so is where it stands
pub capture_still : (tells : Bool) (input left left' : List ℕ) (ahead ahead' : FrameAhead) (feed feed' : CaptureKept) (passed : List Captured) → left' ≡ left → ahead' ≡ ahead → feed' ≡ feed → CaptureAt tells input left ahead feed passed → CaptureAt tells input left' ahead' feed' passed
capture_still tells input left left' ahead ahead' feed feed' passed same_left same_ahead same_feed at =
    subst (λ (l : List ℕ). CaptureAt tells input l ahead' feed' passed) (sym same_left)
    (subst (λ (a : FrameAhead). CaptureAt tells input left a feed' passed) (sym same_ahead)
    (subst (λ (k : CaptureKept). CaptureAt tells input left ahead k passed) (sym same_feed) at))

pub control_still : (tells : Bool) (input left left' : List ℕ) (ahead ahead' : SegmentAhead) (feed feed' : ControlKept) (history : List Segment) → left' ≡ left → ahead' ≡ ahead → feed' ≡ feed → ControlAt tells input left ahead feed history → ControlAt tells input left' ahead' feed' history
control_still tells input left left' ahead ahead' feed feed' history same_left same_ahead same_feed at =
    subst (λ (l : List ℕ). ControlAt tells input l ahead' feed' history) (sym same_left)
    (subst (λ (a : SegmentAhead). ControlAt tells input left a feed' history) (sym same_ahead)
    (subst (λ (k : ControlKept). ControlAt tells input left ahead k history) (sym same_feed) at))
