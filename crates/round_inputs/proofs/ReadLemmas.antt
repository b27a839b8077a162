-- What a feed took, after a piece was read into its room.
use Rattle.std.proofs.Common.{◌≡◌, ℕ, ◌+◌, ◌<◌, ◌≤◌, Bool, true, List, ◌++◌, length, take, drop, refl, sym, ap, subst, ◌∙◌, append_assoc, arith}
use Rattle.std.proofs.lemmas.List.{length-append, take-append-le, take-take}
use Rattle.wire_base.specs.Lists.{refilled}
use Rattle.pcap_io.specs.declared.frames.Captured.{Captured}
use Rattle.pcap_io.specs.Kept.{Kept as CaptureKept}
use Rattle.pcap_io.specs.Lending.{with_room as capture_with_room}
use Rattle.pcap_io.specs.Streams.{Stands as CaptureStands}
use Rattle.pcap_io.proofs.StreamLemmas.{stands_same}
use Rattle.pcap_io.proofs.ReadsLemmas.{size_taken}
use Rattle.control_files.specs.declared.segments.Segment.{Segment}
use Rattle.control_files.specs.Kept.{Kept as ControlKept}
use Rattle.control_files.specs.Lending.{with_room as control_with_room}
use Rattle.control_files.specs.Streams.{Stands as ControlStands}
use Rattle.round_inputs.specs.Reading.{FramesRead, SegmentsRead}

-- of a room that was written, the first bytes are those that were written
read_refilled : (old into : List ℕ) (n : ℕ) → n ≤ length into → n ≤ length old → take n (refilled old into) ≡ take n into
read_refilled old into n le le' = take-take n (length old) (into ++ drop (length into) old) le' ∙ take-append-le n into (drop (length into) old) le

-- what was read joins what was taken
joined_more : (taken piece input left left' : List ℕ) → taken ++ left ≡ input → left ≡ piece ++ left' → (taken ++ piece) ++ left' ≡ input
joined_more taken piece input left left' joined moved = append_assoc taken piece left' ∙ (ap (λ (l : List ℕ). taken ++ l) (sym moved) ∙ joined)

-- what was taken is no longer than the input
long_joined : (n : ℕ) (taken left input : List ℕ) → taken ++ left ≡ input → n < length taken → n < length input
long_joined n taken left input joined long = let sum = ap length joined in omega (arith, sum, length-append taken left, long)

-- ---- frames

pub frames_same : (tells : Bool) (feed new : CaptureKept) (input left : List ℕ) (given : List Captured) → FramesRead tells input left feed given → ((taken : List ℕ) → CaptureStands feed taken given → CaptureStands new taken given) → FramesRead tells input left new given
frames_same tells feed new input left given f history = record { taken = f.taken; stands = history f.taken f.stands; joined = f.joined }

pub frames_more : (tells : Bool) (feed new : CaptureKept) (input left left' into : List ℕ) (given : List Captured) (n : ℕ) → n ≤ length into → n ≤ length feed.room → (tells ≡ true → left ≡ take n into ++ left') → FramesRead tells input left feed given
    → ((taken : List ℕ) → CaptureStands (capture_with_room feed into) taken given → CaptureStands new (taken ++ take n (refilled feed.room into)) given) → FramesRead tells input left' new given
frames_more tells feed new input left left' into given n le le' moved f history = record {
  taken = f.taken ++ take n into;
  stands = subst (λ (l : List ℕ). CaptureStands new (f.taken ++ l) given) (read_refilled feed.room into n le le')
      (history f.taken (stands_same feed.form feed (capture_with_room feed into) f.taken given refl refl refl f.stands));
  joined = λ told. joined_more f.taken (take n into) input left left' (f.joined told) (moved told);
}

pub frames_long : (tells : Bool) (feed : CaptureKept) (input left : List ℕ) (given : List Captured) (n : ℕ) → FramesRead tells input left feed given → n < feed.place + length feed.rest → tells ≡ true → n < length input
frames_long tells feed input left given n f long told =
    long_joined n f.taken left input (f.joined told) (subst (λ (m : ℕ). n < m) (size_taken feed.form feed f.taken given f.stands) long)

-- ---- segments

pub segments_same : (tells : Bool) (feed new : ControlKept) (input left : List ℕ) (given : List Segment) → SegmentsRead tells input left feed given → ((taken : List ℕ) → ControlStands feed taken given → ControlStands new taken given) → SegmentsRead tells input left new given
segments_same tells feed new input left given f history = record { taken = f.taken; stands = history f.taken f.stands; joined = f.joined }

room_stands : (feed : ControlKept) (into taken : List ℕ) (given : List Segment) → ControlStands feed taken given → ControlStands (control_with_room feed into) taken given
room_stands feed into taken given s = record { sound = s.sound; front = s.front; is_control = s.is_control; joined = s.joined; used = s.used; mark = s.mark }

pub segments_more : (tells : Bool) (feed new : ControlKept) (input left left' into : List ℕ) (given : List Segment) (n : ℕ) → n ≤ length into → n ≤ length feed.room → (tells ≡ true → left ≡ take n into ++ left') → SegmentsRead tells input left feed given
    → ((taken : List ℕ) → ControlStands (control_with_room feed into) taken given → ControlStands new (taken ++ take n (refilled feed.room into)) given) → SegmentsRead tells input left' new given
segments_more tells feed new input left left' into given n le le' moved f history = record {
  taken = f.taken ++ take n into;
  stands = subst (λ (l : List ℕ). ControlStands new (f.taken ++ l) given) (read_refilled feed.room into n le le') (history f.taken (room_stands feed into f.taken given f.stands));
  joined = λ told. joined_more f.taken (take n into) input left left' (f.joined told) (moved told);
}

-- how many bytes were taken
pub segments_size : (feed : ControlKept) (taken : List ℕ) (given : List Segment) → ControlStands feed taken given → feed.place + length feed.rest ≡ length taken
segments_size feed taken given s = ap (λ (n : ℕ). n + length feed.rest) s.used ∙ (sym (length-append s.front feed.rest) ∙ sym (ap length s.joined))

pub segments_long : (tells : Bool) (feed : ControlKept) (input left : List ℕ) (given : List Segment) (n : ℕ) → SegmentsRead tells input left feed given → n < feed.place + length feed.rest → tells ≡ true → n < length input
segments_long tells feed input left given n f long told =
    long_joined n f.taken left input (f.joined told) (subst (λ (m : ℕ). n < m) (segments_size feed f.taken given f.stands) long)
