-- From the beginning of a run to a view of it, round by round, and how the run ends there.
use Rattle.std.proofs.Common.{◌≡◌, ℕ, ◌+◌, ◌<◌, ◌&&◌, true, false, List, [], ◌∷◌, ◌++◌, length, take, drop, refl, sym, ap, subst, ◌∙◌, inl, inr, append_assoc, length-append, arith}
use Rattle.std.proofs.lemmas.Bool.{cases_Bool, both_ways}
use Rattle.std.proofs.lemmas.List.{drop-drop}
use Rattle.pcap_io.specs.declared.frames.Captured.{Captured}
use Rattle.pcap_io.specs.declared.reasons.Refusal.{Refusal as CaptureRefusal}
use Rattle.control_files.specs.declared.segments.Segment.{Segment}
use Rattle.control_files.specs.declared.reasons.Refusal.{Refusal as ControlRefusal}
use Rattle.rounds.specs.declared.ends.RunEnd.{RunEnd}
use Rattle.rounds.specs.declared.ends.RunEnd.TheVariants as ends
use Rattle.rounds.specs.Rounds.{Round, Rounds, at_cut, is_empty, round_segments, frames_of, segments_of}
use Rattle.rounds.specs.Counted.{end_of, are_below, have_segments, counted}
use Rattle.rounds.specs.Says.{Says, Lines}
use Rattle.rounds.specs.Views.{Ends, Gives, Inputs, IsNext, IsSound, Told, View, after, behind, counted_at, end_at, place_of, so_far, view_at_first, whole_frames}
use Rattle.rounds.proofs.RoundLemmas.{empty_is, same_round}
use Rattle.rounds.proofs.CountLemmas.{below_taken, capture_from, control_from, counted_here, rounds_have}
use Rattle.rounds.proofs.LeadLemmas.{goes, leads, leads_over, leads_self, same_end_on, same_whole}
use Rattle.rounds.proofs.EndLemmas.{ends_capture, ends_control, ends_over, ends_whole, sound_on}
use Rattle.round_inputs.specs.Taking.{EndsAt, left_of}
use Rattle.file_runs.specs.RunSteps.{Reached, Rest, view_of}

pub reached_first : {R : Type 0} (says : Says R) (Fits : List Segment → Type 0) (whole : Inputs) → IsSound 0 whole.segments whole.control_fault → Reached says Fits whole (view_of whole [] [] [])
reached_first says Fits whole sound = record {
  leads = leads_self says (view_at_first whole);
  rests = λ all given. record { said = all.said; gives = given };
  goes = λ one all given. given;
  sound = sound;
}

-- ---- the rest of a whole run behind a round

more_frames : (fs : List Captured) (place : ℕ) → is_empty fs ≡ false → place < place + length fs
more_frames [] place x = absurd (both_ways true x refl)
more_frames (f ∷ fs) place x = omega arith

segments_low : (place : ℕ) (left : Inputs) (r : Round) → IsNext place left r → (e : CaptureRefusal) → end_of (place + length left.frames) left.capture_fault left.segments left.control_fault ≡ ends.Capture e
    → are_below (place + length left.frames) r.segments ≡ true
unfolding round_segments
segments_low place left r h e a =
    elim (cases_Bool (is_empty left.frames)) [
      | inl none ↦ absurd (capture_from (place + length left.frames) left.capture_fault left.control_fault left.segments e a (h.is_open (empty_is left.frames none)))
      | inr some ↦
          let g : r.segments ≡ take 256 (at_cut false place left.segments) = h.segments_are ∙ ap (λ b. take 256 (at_cut b place left.segments)) some in
          rw g (below_taken 256 place (place + length left.frames) left.segments (more_frames left.frames place some))
    ]

no_round : (place : ℕ) (left : Inputs) (r : Round) → IsNext place left r → Rounds place left.frames left.segments [] → ⊥
no_round place left r h none = both_ways (is_empty left.frames && is_empty left.segments) h.some (ap (λ (x : List Captured). is_empty x && is_empty left.segments) none.0 ∙ ap (λ (x : List Segment). is_empty x) none.1)

rests_from : {R : Type 0} (says : Says R) (v : View R) (r : Round) (here : List R) → IsNext (place_of v) v.left r → (all : Told R) (rounds : List Round) (told : List R)
    → Rounds (place_of v) v.left.frames v.left.segments rounds → Lines says v.history (counted_at v rounds) told → all.frames ≡ v.passed ++ frames_of (counted_at v rounds) → all.segments ≡ v.history ++ segments_of (counted_at v rounds) → Rest says (after v r here) all
rests_from says v r here h all [] told are run frames segments = absurd (no_round (place_of v) v.left r h are)
rests_from {R} says v r here h all (q ∷ rounds) told are run frames segments =
    let w : View R = after v r here in
    let same : q ≡ r = same_round q r (are.1 ∙ sym h.segments_are) (are.2 ∙ sym h.frames_are) in
    let fs : List Captured = drop (length r.frames) v.left.frames in
    let ss : List Segment = drop (length r.segments) v.left.segments in
    let rest : Rounds (place_of v + length r.frames) fs ss rounds =
    subst (λ (x : Round). Rounds (place_of v + length x.frames) (drop (length x.frames) v.left.frames) (drop (length x.segments) v.left.segments) rounds) same are.3 in
    let more : (f : ControlRefusal) → end_at v ≡ ends.Control f → have_segments rounds ≡ true =
    λ f e. rounds_have (place_of v + length r.frames) fs ss rounds
    (λ z. control_from (whole_frames v) v.left.capture_fault v.left.control_fault v.left.segments f e (h.known z)) rest in
    let first : counted_at v (q ∷ rounds) ≡ r ∷ counted_at v rounds =
    ap (λ (x : Round). counted_at v (x ∷ rounds)) same ∙ counted_here (whole_frames v) (end_at v) r rounds (segments_low (place_of v) v.left r h) more in
    let count : counted_at v rounds ≡ counted_at w rounds =
    ap (λ k. counted k (end_at v) rounds) (sym (same_whole v r here h)) ∙ ap (λ (x : RunEnd). counted (whole_frames w) x rounds) (sym (same_end_on v r here h)) in
    let lines : Lines says v.history (r ∷ counted_at v rounds) told = subst (λ (x : List Round). Lines says v.history x told) first run in
    record {
      said = w.said ++ lines.1;
      gives = record {
        rounds = rounds;
        are = subst (λ (p : ℕ). Rounds p fs ss rounds) (sym (length-append v.passed r.frames)) rest;
        here = lines.1;
        run = subst (λ (x : List Round). Lines says (v.history ++ r.segments) x lines.1) count lines.4;
        frames_are = frames ∙ (ap (λ (x : List Round). v.passed ++ frames_of x) first ∙ (sym (append_assoc v.passed r.frames (frames_of (counted_at v rounds))) ∙ ap (λ (x : List Round). (v.passed ++ r.frames) ++ frames_of x) count));
        segments_are = segments ∙ (ap (λ (x : List Round). v.history ++ segments_of x) first ∙ (sym (append_assoc v.history r.segments (segments_of (counted_at v rounds))) ∙ ap (λ (x : List Round). (v.history ++ r.segments) ++ segments_of x) count));
        said_are = refl;
      };
    }

rests_on : {R : Type 0} (says : Says R) (v : View R) (r : Round) (here : List R) → IsNext (place_of v) v.left r → (all : Told R) → Gives says v all → Rest says (after v r here) all
rests_on says v r here h all given = rests_from says v r here h all given.rounds given.here given.are given.run given.frames_are given.segments_are

-- ---- from the beginning to a view

dropped : {A : Type 0} (passed more all : List A) → drop (length more) (drop (length passed) all) ≡ drop (length (passed ++ more)) all
dropped passed more all = drop-drop (length more) (length passed) all ∙ ap (λ n. drop n all) (sym (length-append passed more))

same_left : (whole : Inputs) (passed : List Captured) (history : List Segment) (r : Round) → behind (left_of whole passed history) r ≡ left_of whole (passed ++ r.frames) (history ++ r.segments)
same_left whole passed history r =
    let frames = dropped passed r.frames whole.frames in
    let segments = dropped history r.segments whole.segments in
    λ k. record { frames = frames k; capture_fault = whole.capture_fault; segments = segments k; control_fault = whole.control_fault }

-- one round on
pub reached_next : {R : Type 0} (says : Says R) (Fits : List Segment → Type 0) (whole : Inputs) (passed : List Captured) (history : List Segment) (said : List R) (r : Round) (here : List R)
    → Reached says Fits whole (view_of whole passed history said) → IsNext (length passed) (left_of whole passed history) r → Fits (history ++ r.segments) → says history r here
    → Reached says Fits whole (view_of whole (passed ++ r.frames) (history ++ r.segments) (said ++ here))
reached_next {R} says Fits whole passed history said r here reached next fits so =
    let v : View R = view_of whole passed history said in
    let w : View R = after v r here in
    let sound : IsSound (length (passed ++ r.frames)) w.left.segments w.left.control_fault =
    subst (λ n. IsSound n w.left.segments w.left.control_fault) (sym (length-append passed r.frames)) (sound_on (length passed) (left_of whole passed history) r next reached.sound) in
    let there : Reached says Fits whole w = record {
      leads = leads_over says (view_at_first whole) v w reached.leads (leads says v r here next so);
      rests = λ all given.
          let was = reached.rests all given in
          let more = rests_on says v r here next (record { frames = all.frames; segments = all.segments; said = was.said }) was.gives in
          record { said = more.said; gives = more.gives };
      goes = λ one all given. goes says Fits one v r here fits next so all (reached.goes one all given);
      sound = sound;
    } in
    subst (λ (left : Inputs). Reached says Fits whole (record { passed = passed ++ r.frames; history = history ++ r.segments; said = said ++ here; left = left })) (same_left whole passed history r) there

-- the run ends at the view
end_here : {R : Type 0} (says : Says R) (v : View R) (end : RunEnd) → IsSound (place_of v) v.left.segments v.left.control_fault → EndsAt (place_of v) v.left end → Ends says v end
end_here says v ends.Whole sound at = ends_whole says v at.0 at.1 at.2 at.3
end_here says v (ends.Capture r) sound at = ends_capture says v r sound at.0 at.1
end_here says v (ends.Control r) sound at = ends_control says v r at.0 at.1 at.2

pub ends_there : {R : Type 0} (says : Says R) (Fits : List Segment → Type 0) (whole : Inputs) (passed : List Captured) (history : List Segment) (said : List R) (end : RunEnd)
    → Reached says Fits whole (view_of whole passed history said) → EndsAt (length passed) (left_of whole passed history) end
    → (end ≡ end_at {R = R} (view_at_first whole)) × Gives says (view_at_first whole) (so_far (view_of whole passed history said))
ends_there {R} says Fits whole passed history said end reached at =
    let v : View R = view_of whole passed history said in
    ends_over says (view_at_first whole) v end reached.leads (end_here says v end reached.sound at)
