-- What stands next, from what a feed answered.
use Rattle.std.proofs.Common.{◌≡◌, ◌≢◌, ℕ, ◌+◌, ◌^◌, ◌≤◌, Bool, true, List, [], ◌∷◌, ◌++◌, length, Option, None, Some, Ok, Err, refl, sym, ap, subst, ◌∙◌, inl, inr}
use Rattle.std.specs.Prelude.{nat_lt}
use Rattle.std.proofs.lemmas.Bool.{cases_Bool, cond-true, cond-false}
use Rattle.std.proofs.lemmas.List.{append-nil}
use Rattle.pcap_io.specs.declared.forms.Form.{Form}
use Rattle.pcap_io.specs.declared.frames.Captured.{Captured}
use Rattle.pcap_io.specs.declared.frames.PacketHead.{PacketHead}
use Rattle.pcap_io.specs.declared.reasons.Refusal.{Refusal as CaptureRefusal}
use Rattle.pcap_io.specs.declared.reasons.CaptureReason.TheVariants as frame_reasons
use Rattle.pcap_io.specs.Kept.{Kept as CaptureKept}
use Rattle.pcap_io.specs.Calls.{HeldIn, RefusedAt as CaptureRefusedAt, RefusedIn, lent_frame}
use Rattle.pcap_io.specs.Reads.{Reads}
use Rattle.pcap_io.specs.Streams.{Stands as CaptureStands}
use Rattle.pcap_io.proofs.ReadsLemmas.{reads_refused, size_taken}
use Rattle.control_files.specs.declared.segments.Segment.{Segment}
use Rattle.control_files.specs.declared.reasons.Refusal.{Refusal as ControlRefusal}
use Rattle.control_files.specs.declared.reasons.ControlReason.{ControlReason}
use Rattle.control_files.specs.declared.reasons.ControlReason.TheVariants as segment_reasons
use Rattle.control_files.specs.declared.reasons.ControlFault.{ControlFault}
use Rattle.control_files.specs.declared.reasons.ControlFault.TheVariants as control_faults
use Rattle.control_files.specs.Kept.{Kept as ControlKept}
use Rattle.control_files.specs.Calls.{RefusedAt as ControlRefusedAt, IsHeld}
use Rattle.control_files.specs.Reads.{ReadsControl, Finishes as ControlFinishes}
use Rattle.control_files.specs.Refusals.{Field, fields, first_bad, refusal_of, told as control_told}
use Rattle.control_files.specs.Streams.{Stands as ControlStands, Next as NextSegment}
use Rattle.control_files.proofs.FieldLemmas.{some_none}
use Rattle.control_files.proofs.ReadsLemmas.{reads_refused_more}
use Rattle.round_inputs.specs.declared.frames_ahead.FrameAhead.TheVariants as frame
use Rattle.round_inputs.specs.declared.segments_ahead.SegmentAhead.TheVariants as segment
use Rattle.round_inputs.specs.Reading.{FramesRead, SegmentsRead}
use Rattle.round_inputs.specs.Ahead.{CaptureAt, ControlAt, FrameShort, SegmentShort}
use Rattle.round_inputs.proofs.ReadLemmas.{segments_size}

-- where nothing is left, what was taken is the input
all_taken : (taken left input : List ℕ) → taken ++ left ≡ input → left ≡ [] → taken ≡ input
all_taken taken left input joined none = sym (append-nil taken) ∙ (ap (λ (l : List ℕ). taken ++ l) (sym none) ∙ joined)

-- ---- frames

-- a frame was lent
pub frame_next : (tells : Bool) (old new : CaptureKept) (input left : List ℕ) (given : List Captured) (head : PacketHead) → FramesRead tells input left old given
    → ((taken : List ℕ) (given : List Captured) → CaptureStands old taken given → CaptureStands new taken (given ++ lent_frame head new ∷ [])) → CaptureAt tells input left (frame.Frame head) new given
frame_next tells old new input left given head f history = record { read = record { taken = f.taken; stands = history f.taken given f.stands; joined = f.joined }; ends = tt }

-- what is refused has another reason than that it ends short
row_not_short : (form : Option Form) (rest : List ℕ) (row : CaptureRefusal) → RefusedIn form rest row → row.reason ≡ frame_reasons.Short → ⊥
row_not_short None rest row (inl a) e = let is = ap (λ (t : CaptureRefusal). t.reason) a.is in cc
row_not_short None rest row (inr (inl a)) e = let is = ap (λ (t : CaptureRefusal). t.reason) a.is in cc
row_not_short None rest row (inr (inr a)) e = let is = ap (λ (t : CaptureRefusal). t.reason) a.is in cc
row_not_short (Some form) rest row (inl a) e = let is = ap (λ (t : CaptureRefusal). t.reason) a.is in cc
row_not_short (Some form) rest row (inr a) e = let is = ap (λ (t : CaptureRefusal). t.reason) a.is in cc

frame_short : (feed : CaptureKept) (r : CaptureRefusal) (input : List ℕ) → CaptureRefusedAt feed r → FrameShort r input
frame_short feed r input at short = absurd (row_not_short feed.form feed.rest at.row at.here (sym (ap (λ (t : CaptureRefusal). t.reason) at.told) ∙ short))

-- what stands next is refused
pub frame_bad : (tells : Bool) (old new : CaptureKept) (input left : List ℕ) (given : List Captured) (r : CaptureRefusal) → FramesRead tells input left old given
    → ((taken : List ℕ) (given : List Captured) → CaptureStands old taken given → CaptureStands new taken given × CaptureRefusedAt new r) → CaptureAt tells input left (frame.Bad r) new given
frame_bad tells old new input left given r f history =
    let at = history f.taken given f.stands in
    record {
      read = record { taken = f.taken; stands = at.0; joined = f.joined };
      ends = λ told. (subst (λ (l : List ℕ). Reads l new.form given (Some r)) (f.joined told) (reads_refused new f.taken left given r at.0 at.1), frame_short new r input at.1);
    }

-- nothing whole stands next
pub frame_held : (tells : Bool) (old new : CaptureKept) (input left : List ℕ) (given : List Captured) → FramesRead tells input left old given
    → ((taken : List ℕ) (given : List Captured) → CaptureStands old taken given → CaptureStands new taken given × HeldIn new.form new.rest) → FramesRead tells input left new given × HeldIn new.form new.rest
frame_held tells old new input left given f history =
    let at = history f.taken given f.stands in
    (record { taken = f.taken; stands = at.0; joined = f.joined }, at.1)

within_taken : (feed : CaptureKept) (taken input : List ℕ) (given : List Captured) → CaptureStands feed taken given → taken ≡ input → feed.place + length feed.rest ≤ 2 ^ 40 → length input ≤ 2 ^ 40
within_taken feed taken input given stands is few = subst (λ (n : ℕ). n ≤ 2 ^ 40) (size_taken feed.form feed taken given stands ∙ ap length is) few

-- the capture is whole where it ends
pub frame_end : (tells : Bool) (feed : CaptureKept) (input left : List ℕ) (given : List Captured) → FramesRead tells input left feed given → ((taken : List ℕ) → CaptureStands feed taken given → Reads taken feed.form given None)
    → (tells ≡ true → left ≡ []) → feed.place + length feed.rest ≤ 2 ^ 40 → CaptureAt tells input left frame.End feed given
frame_end tells feed input left given f whole none few = record {
  read = f;
  ends = λ told.
      let is = all_taken f.taken left input (f.joined told) (none told) in
      (subst (λ (l : List ℕ). Reads l feed.form given None) is (whole f.taken f.stands), none told, within_taken feed f.taken input given f.stands is few);
}

-- it is refused, or ends short
pub frame_end_bad : (tells : Bool) (feed : CaptureKept) (input left : List ℕ) (given : List Captured) (r : CaptureRefusal) → FramesRead tells input left feed given → ((taken : List ℕ) → CaptureStands feed taken given → Reads taken feed.form given (Some r))
    → (tells ≡ true → left ≡ []) → feed.place + length feed.rest ≤ 2 ^ 40 → CaptureAt tells input left (frame.Bad r) feed given
frame_end_bad tells feed input left given r f whole none few = record {
  read = f;
  ends = λ told.
      let is = all_taken f.taken left input (f.joined told) (none told) in
      (subst (λ (l : List ℕ). Reads l feed.form given (Some r)) is (whole f.taken f.stands), λ short. within_taken feed f.taken input given f.stands is few);
}

-- ---- segments

-- what a feed answered that gave none, and where the file ends
pub segment_none : (o : Option Segment) (feed : ControlKept) (taken : List ℕ) (given : List Segment) → o ≡ None → NextSegment (Ok o) feed taken given → ControlStands feed taken given × IsHeld feed
segment_none o feed taken given is n = subst (λ (x : Option Segment). NextSegment (Ok x) feed taken given) is n

pub segment_refused : (e : ControlFault) (place : ℕ) (reason : ControlReason) (feed : ControlKept) (taken : List ℕ) (given : List Segment) → e ≡ control_faults.Bad place reason → NextSegment (Err e) feed taken given → ControlStands feed taken given × ControlRefusedAt feed (control_told place reason)
segment_refused e place reason feed taken given is n = subst (λ (x : ControlFault). NextSegment (Err x) feed taken given) is n

pub control_bad : (e : ControlFault) (place : ℕ) (reason : ControlReason) (bytes peers : List ℕ) (segments : List Segment) → e ≡ control_faults.Bad place reason → ControlFinishes (Err e) bytes peers segments → ReadsControl bytes peers segments (Some (control_told place reason))
control_bad e place reason bytes peers segments is f = subst (λ (x : ControlFault). ControlFinishes (Err x) bytes peers segments) is f

-- a segment was given
pub segment_next : (tells : Bool) (old new : ControlKept) (input left : List ℕ) (given : List Segment) (s : Segment) → SegmentsRead tells input left old given
    → ((taken : List ℕ) (given : List Segment) → ControlStands old taken given → ControlStands new taken (given ++ s ∷ [])) → ControlAt tells input left (segment.Segment s) new given
segment_next tells old new input left given s f history = record { read = record { taken = f.taken; stands = history f.taken given f.stands; joined = f.joined }; ends = tt }

-- the reason of a refusal is that of one of the fields
abbrev NoneShort : List Field → Type 0
NoneShort [] = Unit {0}
NoneShort (field ∷ others) = (field.reason ≢ segment_reasons.Short) × NoneShort others

bad_not_short : (place size : ℕ) (all : List Field) (t : ControlRefusal) → NoneShort all → first_bad place size all ≡ Some t → t.reason ≢ segment_reasons.Short
bad_not_short place size [] t none bad = absurd (some_none t None bad refl)
bad_not_short place size (field ∷ others) t none bad =
    elim (cases_Bool (nat_lt size field.end)) [
      | inl short ↦ absurd (some_none t _ bad (cond-true (nat_lt size field.end) _ _ short))
      | inr there ↦ elim (cases_Bool field.good) [
        | inl good ↦ bad_not_short place size others t none.1 (sym (cond-false (nat_lt size field.end) _ _ there ∙ cond-true field.good _ _ good) ∙ bad)
        | inr not ↦
            let is = sym (cond-false (nat_lt size field.end) _ _ there ∙ cond-false field.good _ _ not) ∙ bad in
            λ short. none.0 (same_reason field.reason t _ is ∙ short)
      ]
    ]
  where
    same_reason : (reason : _) (t : ControlRefusal) (place : ℕ) → Some (record { place = place; reason = reason }) ≡ Some t → reason ≡ t.reason
    same_reason reason t place is = cc

segment_short : (feed : ControlKept) (r : ControlRefusal) (input : List ℕ) → ControlRefusedAt feed r → SegmentShort r input
unfolding refusal_of
segment_short feed r input at short =
    absurd (bad_not_short feed.place (length feed.rest) (fields feed.peers feed.mark feed.rest) r ((λ e. cc), ((λ e. cc), ((λ e. cc), ((λ e. cc), ((λ e. cc), tt))))) at short)

pub segment_bad : (tells : Bool) (old new : ControlKept) (input left : List ℕ) (given : List Segment) (r : ControlRefusal) → SegmentsRead tells input left old given
    → ((taken : List ℕ) (given : List Segment) → ControlStands old taken given → ControlStands new taken given × ControlRefusedAt new r) → ControlAt tells input left (segment.Bad r) new given
segment_bad tells old new input left given r f history =
    let at = history f.taken given f.stands in
    record {
      read = record { taken = f.taken; stands = at.0; joined = f.joined };
      ends = λ told. (subst (λ (l : List ℕ). ReadsControl l new.peers given (Some r)) (f.joined told) (reads_refused_more new f.taken left given r at.0 at.1), segment_short new r input at.1);
    }

pub segment_held : (tells : Bool) (old new : ControlKept) (input left : List ℕ) (given : List Segment) → SegmentsRead tells input left old given
    → ((taken : List ℕ) (given : List Segment) → ControlStands old taken given → ControlStands new taken given × IsHeld new) → SegmentsRead tells input left new given × IsHeld new
segment_held tells old new input left given f history =
    let at = history f.taken given f.stands in
    (record { taken = f.taken; stands = at.0; joined = f.joined }, at.1)

segments_within : (feed : ControlKept) (taken input : List ℕ) (given : List Segment) → ControlStands feed taken given → taken ≡ input → feed.place + length feed.rest ≤ 2 ^ 40 → length input ≤ 2 ^ 40
segments_within feed taken input given stands is few = subst (λ (n : ℕ). n ≤ 2 ^ 40) (segments_size feed taken given stands ∙ ap length is) few

pub segment_end : (tells : Bool) (feed : ControlKept) (input left : List ℕ) (given : List Segment) → SegmentsRead tells input left feed given → ((taken : List ℕ) → ControlStands feed taken given → ReadsControl taken feed.peers given None)
    → (tells ≡ true → left ≡ []) → feed.place + length feed.rest ≤ 2 ^ 40 → ControlAt tells input left segment.End feed given
segment_end tells feed input left given f whole none few = record {
  read = f;
  ends = λ told.
      let is = all_taken f.taken left input (f.joined told) (none told) in
      (subst (λ (l : List ℕ). ReadsControl l feed.peers given None) is (whole f.taken f.stands), none told, segments_within feed f.taken input given f.stands is few);
}

pub segment_end_bad : (tells : Bool) (feed : ControlKept) (input left : List ℕ) (given : List Segment) (r : ControlRefusal) → SegmentsRead tells input left feed given → ((taken : List ℕ) → ControlStands feed taken given → ReadsControl taken feed.peers given (Some r))
    → (tells ≡ true → left ≡ []) → feed.place + length feed.rest ≤ 2 ^ 40 → ControlAt tells input left (segment.Bad r) feed given
segment_end_bad tells feed input left given r f whole none few = record {
  read = f;
  ends = λ told.
      let is = all_taken f.taken left input (f.joined told) (none told) in
      (subst (λ (l : List ℕ). ReadsControl l feed.peers given (Some r)) is (whole f.taken f.stands), λ short. segments_within feed f.taken input given f.stands is few);
}
