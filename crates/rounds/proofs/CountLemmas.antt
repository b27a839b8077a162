-- Which rounds count, one round on and at each end.
use Rattle.std.proofs.Common.{◌≡◌, ℕ, zero, suc, ◌+◌, ◌<◌, ◌≤◌, ◌≢◌, Bool, true, false, cond, not, ◌||◌, nat_le, nat_lt, List, [], ◌∷◌, length, take, drop, Option, None, Some, refl, sym, ap, subst, ◌∙◌, inl, inr, arith}
use Rattle.std.proofs.lemmas.Bool.{cases_Bool, leb-true, lt-ltb, and_from}
use Rattle.pcap_io.specs.declared.frames.Captured.{Captured}
use Rattle.pcap_io.specs.declared.reasons.Refusal.{Refusal as CaptureRefusal}
use Rattle.control_files.specs.declared.segments.Segment.{Segment}
use Rattle.control_files.specs.declared.reasons.Refusal.{Refusal as ControlRefusal}
use Rattle.rounds.specs.declared.ends.RunEnd.{RunEnd}
use Rattle.rounds.specs.declared.ends.RunEnd.TheVariants as ends
use Rattle.rounds.specs.Rounds.{Round, Rounds, at_cut, is_empty, round_segments}
use Rattle.rounds.specs.Counted.{last_from, end_of, are_below, rounds_below, have_segments, rounds_before_last, counted}

-- the last segment is the last of any rest that has one
last_dropped : (p n : ℕ) (ss : List Segment) → (drop n ss ≡ [] → ⊥) → last_from p (drop n ss) ≡ last_from p ss
last_dropped p zero ss h = refl
last_dropped p (suc n) [] h = refl
last_dropped p (suc n) (s ∷ ss) h = last_any p s.position n ss h
  where
    last_any : (p q n : ℕ) (ss : List Segment) → (drop n ss ≡ [] → ⊥) → last_from p (drop n ss) ≡ last_from q ss
    last_any p q zero [] h = absurd (h refl)
    last_any p q zero (s ∷ ss) h = refl
    last_any p q (suc n) [] h = absurd (h refl)
    last_any p q (suc n) (s ∷ ss) h = last_any p s.position n ss h

pub some_not_none : {A : Type 0} (x : A) → Some x ≡ None → ⊥
some_not_none x e = cc

-- the end does not change as rounds are taken off
pub same_end : (k n : ℕ) (ce : Option CaptureRefusal) (se : Option ControlRefusal) (ss : List Segment) → (drop n ss ≡ [] → se ≡ None) → end_of k ce (drop n ss) se ≡ end_of k ce ss se
same_end k n None None ss h = refl
same_end k n (Some e) None ss h = refl
same_end k n None (Some f) ss h = refl
same_end k n (Some e) (Some f) ss h =
    ap (λ c. cond (nat_le k c) (ends.Capture e) (ends.Control f)) (last_dropped 0 n ss (λ z. some_not_none f (h z)))

-- a round counts where its segments stand below the last frame and others follow it
pub counted_here : (k : ℕ) (a : RunEnd) (r : Round) (rs : List Round)
    → ((e : CaptureRefusal) → a ≡ ends.Capture e → are_below k r.segments ≡ true) → ((f : ControlRefusal) → a ≡ ends.Control f → have_segments rs ≡ true)
    → counted k a (r ∷ rs) ≡ r ∷ counted k a rs
counted_here k ends.Whole r rs below more = refl
counted_here k (ends.Capture e) r rs below more = ap (λ b. cond b (r ∷ rounds_below k rs) []) (below e refl)
counted_here k (ends.Control f) r rs below more = ap (λ b. cond b (r ∷ rounds_before_last rs) []) (more f refl)

-- which fault an end comes from
pub capture_from : (k : ℕ) (ce : Option CaptureRefusal) (se : Option ControlRefusal) (ss : List Segment) (e : CaptureRefusal) → end_of k ce ss se ≡ ends.Capture e → ce ≢ None
capture_from k None None ss e h = cc
capture_from k None (Some f) ss e h = cc
capture_from k (Some d) se ss e h = some_not_none d

pub control_from : (k : ℕ) (ce : Option CaptureRefusal) (se : Option ControlRefusal) (ss : List Segment) (f : ControlRefusal) → end_of k ce ss se ≡ ends.Control f → se ≢ None
control_from k None None ss f h = cc
control_from k (Some e) None ss f h = cc
control_from k ce (Some d) ss f h = some_not_none d

-- where frames are left, the segments of a cut stand at or before the place
pub below_taken : (n place k : ℕ) (ss : List Segment) → place < k → are_below k (take n (at_cut false place ss)) ≡ true
below_taken zero place k ss h = refl
below_taken (suc n) place k [] h = refl
below_taken (suc n) place k (s ∷ ss) h =
    elim (cases_Bool (nat_le s.position place)) [
      | inl e ↦
          let p = leb-true s.position place e in
          rw e (and_from (nat_lt s.position k) (are_below k (take n (at_cut false place ss))) (lt-ltb s.position k (omega arith)) (below_taken n place k ss h))
      | inr e ↦ rw e refl
    ]

pub last_taken : (n place p : ℕ) (ss : List Segment) → p ≤ place → last_from p (take n (at_cut false place ss)) ≤ place
last_taken zero place p ss h = h
last_taken (suc n) place p [] h = h
last_taken (suc n) place p (s ∷ ss) h =
    elim (cases_Bool (nat_le s.position place)) [
      | inl e ↦ rw e (last_taken n place s.position ss (leb-true s.position place e))
      | inr e ↦ rw e h
    ]

some_first : (xs : List Segment) (b : Bool) → (xs ≡ [] → b ≡ true) → (not (is_empty xs) || b) ≡ true
some_first [] b h = h refl
some_first (x ∷ xs) b h = refl

-- where segments are left, some round has segments
pub rounds_have : (place : ℕ) (fs : List Captured) (ss : List Segment) (rs : List Round) → ss ≢ [] → Rounds place fs ss rs → have_segments rs ≡ true
rounds_have place fs ss [] some h = absurd (some h.1)
rounds_have place fs ss (r ∷ rs) some h =
    some_first r.segments (have_segments rs)
    (λ e. rounds_have (place + length r.frames) (drop (length r.frames) fs) (drop (length r.segments) ss) rs (λ z. some (ap (λ (x : List Segment). drop (length x) ss) (sym e) ∙ z)) h.3)

no_segments : (place : ℕ) (fs : List Captured) → round_segments place fs [] ≡ []
unfolding round_segments
no_segments place fs = refl

-- where none are left, none has
pub none_have : (place : ℕ) (fs : List Captured) (rs : List Round) → Rounds place fs [] rs → have_segments rs ≡ false
none_have place fs [] h = refl
none_have place fs (r ∷ rs) h =
    let e : r.segments ≡ [] = h.1 ∙ no_segments place fs in
    let t : Rounds (place + length r.frames) (drop (length r.frames) fs) [] rs =
    subst (λ (x : List Segment). Rounds (place + length r.frames) (drop (length r.frames) fs) (drop (length x) []) rs) e h.3 in
    rw e (none_have (place + length r.frames) (drop (length r.frames) fs) rs t)
