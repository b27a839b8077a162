-- One more segment, or frame, joins a round; and when all that join it are there.
use Rattle.std.proofs.Common.{◌≡◌, ◌⊎◌, ℕ, ◌≤◌, Bool, true, false, cond, List, [], ◌∷◌, ◌++◌, length, take, refl, sym, ap, subst, ◌∙◌, inl, inr, append_assoc}
use Rattle.std.proofs.lemmas.Bool.{and_from, and_parts}
use Rattle.std.proofs.lemmas.List.{append-nil, take_all, take_at}
use Rattle.pcap_io.specs.declared.frames.Captured.{Captured}
use Rattle.pcap_io.specs.declared.frames.PacketHead.{PacketHead}
use Rattle.pcap_io.specs.Kept.{Kept as CaptureKept}
use Rattle.pcap_io.specs.Calls.{lent_frame}
use Rattle.control_files.specs.declared.segments.Segment.{Segment}
use Rattle.control_files.specs.Kept.{Kept as ControlKept}
use Rattle.rounds.specs.Rounds.{is_at_cut, at_cut}
use Rattle.round_inputs.specs.declared.frames_ahead.FrameAhead.{FrameAhead}
use Rattle.round_inputs.specs.declared.frames_ahead.FrameAhead.TheVariants as frame
use Rattle.round_inputs.specs.declared.segments_ahead.SegmentAhead.{SegmentAhead}
use Rattle.round_inputs.specs.declared.segments_ahead.SegmentAhead.TheVariants as segment
use Rattle.round_inputs.specs.Reading.{FramesRead, SegmentsRead}
use Rattle.round_inputs.specs.Ahead.{CaptureAt, ControlAt}
use Rattle.round_inputs.specs.Filling.{AheadOf, are_at_cut}

-- the frame that stands next was taken
pub frame_taken : (tells : Bool) (input left : List ℕ) (ahead : FrameAhead) (feed : CaptureKept) (passed frames : List Captured) (head : PacketHead) → ahead ≡ frame.Frame head → CaptureAt tells input left ahead feed (passed ++ frames)
    → FramesRead tells input left feed (passed ++ (frames ++ lent_frame head feed ∷ []))
frame_taken tells input left ahead feed passed frames head is at =
    let here : CaptureAt tells input left (frame.Frame head) feed (passed ++ frames) = subst (λ (a : FrameAhead). CaptureAt tells input left a feed (passed ++ frames)) is at in
    subst (λ (l : List Captured). FramesRead tells input left feed l) (append_assoc passed frames (lent_frame head feed ∷ [])) here.read

-- the segment that stands next was taken
pub segment_taken : (tells : Bool) (input left : List ℕ) (ahead : SegmentAhead) (feed : ControlKept) (history segments : List Segment) (s : Segment) → ahead ≡ segment.Segment s → ControlAt tells input left ahead feed (history ++ segments)
    → SegmentsRead tells input left feed (history ++ (segments ++ s ∷ []))
segment_taken tells input left ahead feed history segments s is at =
    let here : ControlAt tells input left (segment.Segment s) feed (history ++ segments) = subst (λ (a : SegmentAhead). ControlAt tells input left a feed (history ++ segments)) is at in
    subst (λ (l : List Segment). SegmentsRead tells input left feed l) (append_assoc history segments (s ∷ [])) here.read

-- a segment at the cut joins those at the cut
pub at_cut_more : (ended : Bool) (place : ℕ) (ss : List Segment) (s : Segment) → are_at_cut ended place ss ≡ true → is_at_cut ended place s ≡ true → are_at_cut ended place (ss ++ s ∷ []) ≡ true
at_cut_more ended place [] s all one = and_from (is_at_cut ended place s) true one refl
at_cut_more ended place (t ∷ ss) s all one =
    let parts = and_parts (is_at_cut ended place t) (are_at_cut ended place ss) all in
    and_from (is_at_cut ended place t) (are_at_cut ended place (ss ++ s ∷ [])) parts.0 (at_cut_more ended place ss s parts.1 one)

at_cut_append : (ended : Bool) (place : ℕ) (ss rest : List Segment) → are_at_cut ended place ss ≡ true → at_cut ended place (ss ++ rest) ≡ ss ++ at_cut ended place rest
at_cut_append ended place [] rest all = refl
at_cut_append ended place (s ∷ ss) rest all =
    let parts = and_parts (is_at_cut ended place s) (are_at_cut ended place ss) all in
    ap (λ b. cond b (s ∷ at_cut ended place (ss ++ rest)) []) parts.0 ∙ ap (λ (l : List Segment). s ∷ l) (at_cut_append ended place ss rest parts.1)

none_at_cut : (ended : Bool) (place : ℕ) (ahead : SegmentAhead) (rest : List Segment) → AheadOf ahead rest → ((s : Segment) → ahead ≡ segment.Segment s → is_at_cut ended place s ≡ false) → at_cut ended place rest ≡ []
none_at_cut ended place (segment.Segment s) [] of out = absurd of
none_at_cut ended place (segment.Segment s) (t ∷ rest) of out =
    ap (λ b. cond b (t ∷ at_cut ended place rest) []) (ap (λ (x : Segment). is_at_cut ended place x) of ∙ out s refl)
none_at_cut ended place segment.End rest of out = ap (λ (l : List Segment). at_cut ended place l) of
none_at_cut ended place (segment.Bad r) rest of out = ap (λ (l : List Segment). at_cut ended place l) of

-- these are the group
pub group_full : (ended : Bool) (place : ℕ) (ahead : SegmentAhead) (group rest : List Segment) → are_at_cut ended place group ≡ true → length group ≤ 256 → (length group ≡ 256) ⊎ ((s : Segment) → ahead ≡ segment.Segment s → is_at_cut ended place s ≡ false) → AheadOf ahead rest
    → group ≡ take 256 (at_cut ended place (group ++ rest))
group_full ended place ahead group rest all small (inl full) of =
    sym (take_at group (at_cut ended place rest) 256 full) ∙ ap (λ (l : List Segment). take 256 l) (sym (at_cut_append ended place group rest all))
group_full ended place ahead group rest all small (inr out) of =
    let none : at_cut ended place rest ≡ [] = none_at_cut ended place ahead rest of out in
    sym (take_all 256 group small) ∙ ap (λ (l : List Segment). take 256 l) (sym (append-nil group) ∙ (ap (λ (l : List Segment). group ++ l) (sym none) ∙ sym (at_cut_append ended place group rest all)))

-- these are the frames
pub frames_full : (most : ℕ) (frames rest : List Captured) → length frames ≤ most → (length frames ≡ most) ⊎ (rest ≡ []) → frames ≡ take most (frames ++ rest)
frames_full most frames rest small (inl full) = sym (take_at frames rest most full)
frames_full most frames rest small (inr none) = sym (take_all most frames small) ∙ ap (λ (l : List Captured). take most l) (sym (append-nil frames) ∙ ap (λ (l : List Captured). frames ++ l) (sym none))
