-- Where a run ends, what holds between two rounds, and that there is a run from every view.
use Rattle.std.proofs.Common.{◌≡◌, ℕ, zero, suc, ◌+◌, ◌<◌, ◌≤◌, ◌≢◌, cond, List, [], ◌∷◌, ◌++◌, length, take, drop, Option, None, Some, refl, sym, ap, subst, ◌∙◌, inl, inr, append_assoc, length-take, arith}
use Rattle.std.proofs.lemmas.Bool.{cases_Bool, le-leb, lt-leb}
use Rattle.std.proofs.lemmas.List.{append-nil, drop_all}
use Rattle.pcap_io.specs.declared.frames.Captured.{Captured}
use Rattle.pcap_io.specs.declared.reasons.Refusal.{Refusal as CaptureRefusal}
use Rattle.control_files.specs.declared.segments.Segment.{Segment}
use Rattle.control_files.specs.declared.reasons.Refusal.{Refusal as ControlRefusal}
use Rattle.rounds.specs.declared.ends.RunEnd.{RunEnd}
use Rattle.rounds.specs.declared.ends.RunEnd.TheVariants as ends
use Rattle.rounds.specs.Rounds.{Round, Rounds, at_cut, is_empty, wanted, round_segments, round_frames, frames_of, segments_of}
use Rattle.rounds.specs.Counted.{last_from, end_of, rounds_below, rounds_before_last, counted, RisesFrom}
use Rattle.rounds.specs.Says.{Says, Lines, IsSayable}
use Rattle.rounds.specs.Views.{Inputs, View, Told, place_of, whole_frames, end_at, counted_at, so_far, Gives, Leads, Ends, IsSound, IsNext, behind}
use Rattle.rounds.proofs.RoundLemmas.{empty_is, exists}
use Rattle.rounds.proofs.CountLemmas.{last_taken, none_have, some_not_none}
use Rattle.rounds.proofs.RiseLemmas.{last_above, none_below, rises_behind, rises_dropped}
use Rattle.rounds.proofs.FrontRounds.{counted_is_front, fronts}
use Rattle.rounds.proofs.LeadLemmas.{more_frames}

-- rounds may be said, where each round may
pub some_lines : {R : Type 0} (says : Says R) (Fits : List Segment → Type 0) → IsSayable says Fits → (history : List Segment) (rs : List Round) → Fits (history ++ segments_of rs) → (lines : List R) × Lines says history rs lines
some_lines says Fits sayable history [] fits = ([], refl)
some_lines says Fits sayable history (r ∷ rs) fits =
    let more : Fits ((history ++ r.segments) ++ segments_of rs) = subst (λ (x : List Segment). Fits x) (sym (append_assoc history r.segments (segments_of rs))) fits in
    let here = sayable.some history r (sayable.front (history ++ r.segments) (segments_of rs) more) in
    let rest = some_lines says Fits sayable (history ++ r.segments) rs more in
    (here.0 ++ rest.0, (here.0, rest.0, refl, here.1, rest.1))

-- a run that goes on from here comes to something
pub some_run : {R : Type 0} (says : Says R) (Fits : List Segment → Type 0) → IsSayable says Fits → (v : View R) → Fits (v.history ++ v.left.segments) → (all : Told R) × Gives says v all
some_run says Fits sayable v fits =
    let rs = exists (place_of v) v.left.frames v.left.segments in
    let count = counted_at v rs.0 in
    let part = counted_is_front (whole_frames v) (end_at v) rs.0 in
    let front = fronts (place_of v) v.left.frames v.left.segments count part.0 (subst (λ (x : List Round). Rounds (place_of v) v.left.frames v.left.segments x) part.1 rs.1) in
    let all : v.history ++ v.left.segments ≡ (v.history ++ segments_of count) ++ front.1 =
    ap (λ (x : List Segment). v.history ++ x) front.3 ∙ sym (append_assoc v.history (segments_of count) front.1) in
    let said = some_lines says Fits sayable v.history count (sayable.front (v.history ++ segments_of count) front.1 (subst (λ (x : List Segment). Fits x) all fits)) in (
      record { frames = v.passed ++ frames_of count; segments = v.history ++ segments_of count; said = v.said ++ said.0 },
      record { rounds = rs.0; are = rs.1; here = said.0; run = said.1; frames_are = refl; segments_are = refl; said_are = refl },
    )

-- where no round counts, nothing more comes
ends_here : {R : Type 0} (says : Says R) (v : View R) (rs : List Round) → Rounds (place_of v) v.left.frames v.left.segments rs → counted_at v rs ≡ [] → Gives says v (so_far v)
ends_here {R} says v rs are none = record {
  rounds = rs;
  are = are;
  here = [];
  run = subst (λ (x : List Round). Lines {R = R} says v.history x []) (sym none) refl;
  frames_are = sym (append-nil v.passed) ∙ ap (λ (x : List Round). v.passed ++ frames_of x) (sym none);
  segments_are = sym (append-nil v.history) ∙ ap (λ (x : List Round). v.history ++ segments_of x) (sym none);
  said_are = sym (append-nil v.said);
}

-- both inputs are at their ends
pub ends_whole : {R : Type 0} (says : Says R) (v : View R) → v.left.frames ≡ [] → v.left.capture_fault ≡ None → v.left.segments ≡ [] → v.left.control_fault ≡ None → Ends says v ends.Whole
ends_whole says v f c s d =
    let a : end_at v ≡ ends.Whole =
    ap (λ (x : Option CaptureRefusal). end_of (whole_frames v) x v.left.segments v.left.control_fault) c ∙ ap (λ (x : Option ControlRefusal). end_of (whole_frames v) None v.left.segments x) d in
    record { is = sym a; gives = ends_here says v [] (f, s) (ap (λ (x : RunEnd). counted (whole_frames v) x []) a) }

-- the fault of the capture is answered, where the last segment does not stand before it
capture_wins : (place : ℕ) (e : CaptureRefusal) (ss : List Segment) (d : Option ControlRefusal) → RisesFrom place ss → (0 < place → ss ≡ [] → d ≡ None)
    → end_of place (Some e) ss d ≡ ends.Capture e
capture_wins place e ss None rises late = refl
capture_wins zero e [] (Some f) rises late = refl
capture_wins (suc n) e [] (Some f) rises late = absurd (some_not_none f (late (omega arith) refl))
capture_wins place e (s ∷ ss) (Some f) rises late =
    let above : place ≤ last_from s.position ss = last_above place s.position ss rises.0 rises.1 in
    ap (λ b. cond b (ends.Capture e) (ends.Control f)) (le-leb place (last_from s.position ss) above)

-- the capture's fault stands next
pub ends_capture : {R : Type 0} (says : Says R) (v : View R) (e : CaptureRefusal) → IsSound (place_of v) v.left.segments v.left.control_fault → v.left.frames ≡ [] → v.left.capture_fault ≡ Some e → Ends says v (ends.Capture e)
ends_capture says v e sound f c =
    let k : whole_frames v ≡ place_of v = ap (λ (x : List Captured). place_of v + length x) f ∙ plus_zero (place_of v) in
    let a : end_at v ≡ ends.Capture e =
    ap (λ n. end_of n v.left.capture_fault v.left.segments v.left.control_fault) k
    ∙ (ap (λ (x : Option CaptureRefusal). end_of (place_of v) x v.left.segments v.left.control_fault) c
    ∙ capture_wins (place_of v) e v.left.segments v.left.control_fault sound.rises sound.late) in
    let rs = exists (place_of v) v.left.frames v.left.segments in
    let h : Rounds (place_of v) [] v.left.segments rs.0 = subst (λ (x : List Captured). Rounds (place_of v) x v.left.segments rs.0) f rs.1 in
    let none : counted_at v rs.0 ≡ [] =
    ap (λ (x : RunEnd). counted (whole_frames v) x rs.0) a ∙ (ap (λ n. rounds_below n rs.0) k ∙ none_below (place_of v) v.left.segments rs.0 sound.rises h) in
    record { is = sym a; gives = ends_here says v rs.0 rs.1 none }
  where
    plus_zero : (n : ℕ) → n + 0 ≡ n
    plus_zero n = omega arith

-- the fault of the control file is answered, where the last segment stands before a frame
control_wins : (place k : ℕ) (e : ControlRefusal) (c : Option CaptureRefusal) (ss : List Segment) → (c ≢ None → (place < k) × (last_from 0 ss ≤ place)) → end_of k c ss (Some e) ≡ ends.Control e
control_wins place k e None ss h = refl
control_wins place k e (Some d) ss h =
    let w = h (some_not_none d) in
    let low = w.0 in
    let high = w.1 in
    ap (λ b. cond b (ends.Capture d) (ends.Control e)) (lt-leb k (last_from 0 ss) (omega arith))

none_before_last : (place : ℕ) (fs : List Captured) (ss : List Segment) (rs : List Round) → round_segments place fs ss ≡ ss → Rounds place fs ss rs → rounds_before_last rs ≡ []
none_before_last place fs ss [] all h = refl
none_before_last place fs ss (r ∷ rs) all h =
    let e : drop (length r.segments) ss ≡ [] = drop_all (length r.segments) ss (rw (h.1 ∙ all) (le_self (length ss))) in
    let t : Rounds (place + length r.frames) (drop (length r.frames) fs) [] rs =
    subst (λ (x : List Segment). Rounds (place + length r.frames) (drop (length r.frames) fs) x rs) e h.3 in
    ap (λ b. cond b (r ∷ rounds_before_last rs) []) (none_have (place + length r.frames) (drop (length r.frames) fs) rs t)
  where
    le_self : (n : ℕ) → n ≤ n
    le_self n = omega arith

-- all segments that are left are one group, and the control file's fault stands behind it
pub ends_control : {R : Type 0} (says : Says R) (v : View R) (e : ControlRefusal) → (v.left.frames ≡ [] → v.left.capture_fault ≡ None) → round_segments (place_of v) v.left.frames v.left.segments ≡ v.left.segments → v.left.control_fault ≡ Some e
    → Ends says v (ends.Control e)
unfolding round_segments
ends_control says v e is_open all d =
    let a : end_at v ≡ ends.Control e =
    ap (λ (x : Option ControlRefusal). end_of (whole_frames v) v.left.capture_fault v.left.segments x) d
    ∙ control_wins (place_of v) (whole_frames v) e v.left.capture_fault v.left.segments bounds in
    let rs = exists (place_of v) v.left.frames v.left.segments in
    let none : counted_at v rs.0 ≡ [] =
    ap (λ (x : RunEnd). counted (whole_frames v) x rs.0) a ∙ none_before_last (place_of v) v.left.frames v.left.segments rs.0 all rs.1 in
    record { is = sym a; gives = ends_here says v rs.0 rs.1 none }
  where
    bounds : v.left.capture_fault ≢ None → (place_of v < whole_frames v) × (last_from 0 v.left.segments ≤ place_of v)
    bounds c =
        elim (cases_Bool (is_empty v.left.frames)) [
          | inl none ↦ absurd (c (is_open (empty_is v.left.frames none)))
          | inr some ↦ (
            more_frames v.left.frames (place_of v) some,
            subst (λ (x : List Segment). last_from 0 x ≤ place_of v) (sym (ap (λ b. take 256 (at_cut b (place_of v) v.left.segments)) some) ∙ all) (last_taken 256 (place_of v) 0 v.left.segments (omega arith)),
          )
        ]

-- the end from a later view is the end
pub ends_over : {R : Type 0} (says : Says R) (v w : View R) (end : RunEnd) → Leads says v w → Ends says w end → (end ≡ end_at v) × Gives says v (so_far w)
ends_over says v w end h e = (e.is ∙ h.same_end, h.gives (so_far w) e.gives)

-- what holds between two rounds still holds behind the next
pub sound_on : (place : ℕ) (left : Inputs) (r : Round) → IsNext place left r → IsSound place left.segments left.control_fault → IsSound (place + length r.frames) (behind left r).segments (behind left r).control_fault
unfolding round_frames
sound_on place left r h sound =
    let rest = drop (length r.segments) left.segments in
    let n : length r.frames ≤ wanted place r.segments rest =
    subst (λ (x : List Segment). length r.frames ≤ wanted place x (drop (length x) left.segments)) (sym h.segments_are)
    (let e = ap length h.frames_are in omega (arith, length-take (wanted place (round_segments place left.frames left.segments) (drop (length (round_segments place left.frames left.segments)) left.segments)) left.frames)) in
    record {
      rises = rises_behind place (length r.frames) r.segments rest n (rises_dropped place (length r.segments) left.segments sound.rises);
      late = λ _ none. h.known none;
    }
