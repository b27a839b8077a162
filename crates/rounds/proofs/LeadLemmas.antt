-- From round to round: what a run comes to behind a round, it comes to from before it.
use Rattle.std.proofs.Common.{◌≡◌, ℕ, ◌+◌, ◌<◌, ◌≤◌, ◌&&◌, true, false, List, [], ◌∷◌, ◌++◌, length, take, drop, refl, sym, ap, subst, ◌∙◌, inl, inr, append_assoc, length-append, length-drop, arith}
use Rattle.std.proofs.lemmas.Bool.{cases_Bool, both_ways}
use Rattle.pcap_io.specs.declared.frames.Captured.{Captured}
use Rattle.pcap_io.specs.declared.reasons.Refusal.{Refusal as CaptureRefusal}
use Rattle.control_files.specs.declared.segments.Segment.{Segment}
use Rattle.control_files.specs.declared.reasons.Refusal.{Refusal as ControlRefusal}
use Rattle.rounds.specs.declared.ends.RunEnd.{RunEnd}
use Rattle.rounds.specs.declared.ends.RunEnd.TheVariants as ends
use Rattle.rounds.specs.Rounds.{Round, Rounds, at_cut, is_empty, round_segments, frames_of, segments_of}
use Rattle.rounds.specs.Counted.{end_of, are_below, have_segments, counted}
use Rattle.rounds.specs.Says.{Says, Lines, IsOne}
use Rattle.rounds.specs.Views.{Inputs, View, Told, place_of, whole_frames, end_at, counted_at, Gives, Leads, IsNext, after}
use Rattle.rounds.proofs.RoundLemmas.{empty_is, frames_short, same_round}
use Rattle.rounds.proofs.CountLemmas.{same_end, counted_here, capture_from, control_from, below_taken, rounds_have}

pub more_frames : (fs : List Captured) (place : ℕ) → is_empty fs ≡ false → place < place + length fs
more_frames [] place x = absurd (both_ways true x refl)
more_frames (f ∷ fs) place x = omega arith

-- a segment of the next round stands below the last frame, where frames are left
segments_low : (place : ℕ) (left : Inputs) (r : Round) → IsNext place left r → (e : CaptureRefusal) → end_of (place + length left.frames) left.capture_fault left.segments left.control_fault ≡ ends.Capture e
    → are_below (place + length left.frames) r.segments ≡ true
unfolding round_segments
segments_low place left r h e a =
    elim (cases_Bool (is_empty left.frames)) [
      | inl none ↦ absurd (capture_from (place + length left.frames) left.capture_fault left.control_fault left.segments e a (h.is_open (empty_is left.frames none)))
      | inr some ↦
          let g : r.segments ≡ take 256 (at_cut false place left.segments) = h.segments_are ∙ ap (λ b. take 256 (at_cut b place left.segments)) some in
          rw g (below_taken 256 place (place + length left.frames) left.segments (more_frames left.frames place some))
    ]

-- a round takes nothing of the number of frames
pub same_whole : {R : Type 0} (v : View R) (r : Round) (here : List R) → IsNext (place_of v) v.left r → whole_frames (after v r here) ≡ whole_frames v
same_whole v r here h =
    let s : length r.frames ≤ length v.left.frames = rw h.frames_are (frames_short (place_of v) v.left.frames v.left.segments) in
    omega (arith, s, length-append v.passed r.frames, length-drop (length r.frames) v.left.frames)

-- nor of the end
pub same_end_on : {R : Type 0} (v : View R) (r : Round) (here : List R) → IsNext (place_of v) v.left r → end_at (after v r here) ≡ end_at v
same_end_on v r here h =
    ap (λ n. end_of n v.left.capture_fault (drop (length r.segments) v.left.segments) v.left.control_fault) (same_whole v r here h)
    ∙ same_end (whole_frames v) (length r.segments) v.left.capture_fault v.left.control_fault v.left.segments h.known

-- what was taken before and in a round, and behind it
put_over : {A : Type 0} (old more rest whole : List A) → whole ≡ (old ++ more) ++ rest → whole ≡ old ++ (more ++ rest)
put_over old more rest whole f = f ∙ append_assoc old more rest

-- a round counts, so the run behind it is the run
pub leads : {R : Type 0} (says : Says R) (v : View R) (r : Round) (here : List R) → IsNext (place_of v) v.left r → says v.history r here → Leads says v (after v r here)
leads {R} says v r here h said = record { same_end = same_end_on v r here h; gives = gives_on }
  where
    gives_on : (all : Told R) → Gives says (after v r here) all → Gives says v all
    gives_on all given =
        let w : View R = after v r here in
        let fs : List Captured = drop (length r.frames) v.left.frames in
        let ss : List Segment = drop (length r.segments) v.left.segments in
        let n : whole_frames w ≡ whole_frames v = same_whole v r here h in
        let a : end_at w ≡ end_at v = same_end_on v r here h in
        let rest : Rounds (place_of v + length r.frames) fs ss given.rounds =
        subst (λ (p : ℕ). Rounds p fs ss given.rounds) (length-append v.passed r.frames) given.are in
        let more : (f : ControlRefusal) → end_at v ≡ ends.Control f → have_segments given.rounds ≡ true =
        λ f e. rounds_have (place_of v + length r.frames) fs ss given.rounds
        (λ z. control_from (whole_frames v) v.left.capture_fault v.left.control_fault v.left.segments f e (h.known z)) rest in
        let first : counted_at v (r ∷ given.rounds) ≡ r ∷ counted_at v given.rounds =
        counted_here (whole_frames v) (end_at v) r given.rounds (segments_low (place_of v) v.left r h) more in
        let same : counted_at w given.rounds ≡ counted_at v given.rounds =
        ap (λ k. counted k (end_at w) given.rounds) n ∙ ap (λ (x : RunEnd). counted (whole_frames v) x given.rounds) a in
        let run : Lines says (v.history ++ r.segments) (counted_at v given.rounds) given.here =
        subst (λ (x : List Round). Lines says (v.history ++ r.segments) x given.here) same given.run in
        record {
          rounds = r ∷ given.rounds;
          are = (h.some, h.segments_are, h.frames_are, rest);
          here = here ++ given.here;
          run = subst (λ (x : List Round). Lines says v.history x (here ++ given.here)) (sym first) (here, given.here, refl, said, run);
          frames_are =
              put_over v.passed r.frames (frames_of (counted_at v given.rounds)) all.frames (given.frames_are ∙ ap (λ (x : List Round). (v.passed ++ r.frames) ++ frames_of x) same)
              ∙ ap (λ (x : List Round). v.passed ++ frames_of x) (sym first);
          segments_are =
              put_over v.history r.segments (segments_of (counted_at v given.rounds)) all.segments (given.segments_are ∙ ap (λ (x : List Round). (v.history ++ r.segments) ++ segments_of x) same)
              ∙ ap (λ (x : List Round). v.history ++ segments_of x) (sym first);
          said_are = put_over v.said here given.here all.said given.said_are;
        }

-- all that is written of a run whose first round is known: the rest is written behind it
no_round : (place : ℕ) (left : Inputs) (r : Round) → IsNext place left r → Rounds place left.frames left.segments [] → ⊥
no_round place left r h none = both_ways (is_empty left.frames && is_empty left.segments) h.some (ap (λ (x : List Captured). is_empty x && is_empty left.segments) none.0 ∙ ap (λ (x : List Segment). is_empty x) none.1)

goes_from : {R : Type 0} (says : Says R) (Fits : List Segment → Type 0) → IsOne says Fits → (v : View R) (r : Round) (here : List R) → Fits (v.history ++ r.segments) → IsNext (place_of v) v.left r → says v.history r here → (all : Told R) (rounds : List Round) (told : List R)
    → Rounds (place_of v) v.left.frames v.left.segments rounds → Lines says v.history (counted_at v rounds) told → all.frames ≡ v.passed ++ frames_of (counted_at v rounds) → all.segments ≡ v.history ++ segments_of (counted_at v rounds) → all.said ≡ v.said ++ told → Gives says (after v r here) all
goes_from says Fits one v r here fits h said all [] told are run frames segments is = absurd (no_round (place_of v) v.left r h are)
goes_from {R} says Fits one v r here fits h said all (q ∷ rounds) told are run frames segments is =
    let w : View R = after v r here in
    let same : q ≡ r = same_round q r (are.1 ∙ sym h.segments_are) (are.2 ∙ sym h.frames_are) in
    let fs : List Captured = drop (length r.frames) v.left.frames in
    let ss : List Segment = drop (length r.segments) v.left.segments in
    let rest : Rounds (place_of v + length r.frames) fs ss rounds =
    subst (λ (x : Round). Rounds (place_of v + length x.frames) (drop (length x.frames) v.left.frames) (drop (length x.segments) v.left.segments) rounds) same are.3 in
    let more : (f : ControlRefusal) → end_at v ≡ ends.Control f → have_segments rounds ≡ true =
    λ f e. rounds_have (place_of v + length r.frames) fs ss rounds
    (λ z. control_from (whole_frames v) v.left.capture_fault v.left.control_fault v.left.segments f e (h.known z)) rest in
    let first : counted_at v (q ∷ rounds) ≡ r ∷ counted_at v rounds =
    ap (λ (x : Round). counted_at v (x ∷ rounds)) same ∙ counted_here (whole_frames v) (end_at v) r rounds (segments_low (place_of v) v.left r h) more in
    let count : counted_at v rounds ≡ counted_at w rounds =
    ap (λ k. counted k (end_at v) rounds) (sym (same_whole v r here h)) ∙ ap (λ (x : RunEnd). counted (whole_frames w) x rounds) (sym (same_end_on v r here h)) in
    let lines : Lines says v.history (r ∷ counted_at v rounds) told = subst (λ (x : List Round). Lines says v.history x told) first run in
    let same_here : lines.0 ≡ here = one v.history r lines.0 here fits lines.3 said in
    record {
      rounds = rounds;
      are = subst (λ (p : ℕ). Rounds p fs ss rounds) (sym (length-append v.passed r.frames)) rest;
      here = lines.1;
      run = subst (λ (x : List Round). Lines says (v.history ++ r.segments) x lines.1) count lines.4;
      frames_are = frames ∙ (ap (λ (x : List Round). v.passed ++ frames_of x) first ∙ (sym (append_assoc v.passed r.frames (frames_of (counted_at v rounds))) ∙ ap (λ (x : List Round). (v.passed ++ r.frames) ++ frames_of x) count));
      segments_are = segments ∙ (ap (λ (x : List Round). v.history ++ segments_of x) first ∙ (sym (append_assoc v.history r.segments (segments_of (counted_at v rounds))) ∙ ap (λ (x : List Round). (v.history ++ r.segments) ++ segments_of x) count));
      said_are = is ∙ (ap (λ (x : List R). v.said ++ x) (lines.2 ∙ ap (λ (x : List R). x ++ lines.1) same_here) ∙ sym (append_assoc v.said here lines.1));
    }

pub goes : {R : Type 0} (says : Says R) (Fits : List Segment → Type 0) → IsOne says Fits → (v : View R) (r : Round) (here : List R) → Fits (v.history ++ r.segments) → IsNext (place_of v) v.left r → says v.history r here → (all : Told R) → Gives says v all → Gives says (after v r here) all
goes says Fits one v r here fits h said all given =
    goes_from says Fits one v r here fits h said all given.rounds given.here given.are given.run given.frames_are given.segments_are given.said_are

pub leads_over : {R : Type 0} (says : Says R) (a b c : View R) → Leads says a b → Leads says b c → Leads says a c
leads_over says a b c h k = record { same_end = k.same_end ∙ h.same_end; gives = λ all g. h.gives all (k.gives all g) }

pub leads_self : {R : Type 0} (says : Says R) (a : View R) → Leads says a a
leads_self says a = record { same_end = refl; gives = λ all g. g }
