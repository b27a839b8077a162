-- Two readings of the same bytes are one: the segments, and the end.
use Rattle.std.proofs.Common.{◌≡◌, ℕ, List, [], ◌∷◌, ◌++◌, length, Option, None, Some, refl, sym, ap, subst, ◌∙◌, append_assoc, inl, inr, arith}
use Rattle.std.proofs.lemmas.List.{append-nil, length-append}
use Rattle.control_files.specs.declared.segments.Segment.{Segment}
use Rattle.control_files.specs.declared.segments.Mark.{Mark}
use Rattle.control_files.specs.declared.reasons.Refusal.{Refusal}
use Rattle.control_files.specs.Segments.{AreSegments, IsControl, mark_behind, mark_of, segment_bytes, segments_bytes, start}
use Rattle.control_files.specs.Refusals.{refusal_of, BeginsNone}
use Rattle.control_files.specs.Reads.{ReadsControl, EndsIn}
use Rattle.control_files.proofs.FieldLemmas.{some_none}
use Rattle.control_files.proofs.SegmentLemmas.{length-segment, same_segment, segment_accepted}

-- ---- the end

-- nothing begins with no segment, and is not refused
empty_begins : (peers : List ℕ) (mark : Mark) (rest : List ℕ) → rest ≡ [] → BeginsNone peers mark rest
empty_begins peers mark rest none = λ s more may all.
    let sums = sym (ap length none) ∙ ap length all ∙ length-append (segment_bytes s) more in
    let front = length-segment s in
    omega (arith, sums, front)

empty_accepted : (peers : List ℕ) (mark : Mark) (place : ℕ) → refusal_of peers mark place [] ≡ None
unfolding refusal_of
empty_accepted peers mark place = refl

ends_none : (peers : List ℕ) (mark : Mark) (rest : List ℕ) (place size : ℕ) (stop : Option Refusal) → EndsIn peers mark rest place size stop → BeginsNone peers mark rest
ends_none peers mark rest place size None none = empty_begins peers mark rest none
ends_none peers mark rest place size (Some r) (inl bad) = λ s more may all. some_none r _ bad (segment_accepted peers mark place s rest more may all)
ends_none peers mark rest place size (Some r) (inr short) = short.held.unfinished

empty_no_end : (peers : List ℕ) (mark : Mark) (rest : List ℕ) (place size : ℕ) (r : Refusal) → rest ≡ [] → EndsIn peers mark rest place size (Some r) → ⊥
empty_no_end peers mark rest place size r none (inl bad) =
    some_none r _ bad (ap (refusal_of peers mark place) none ∙ empty_accepted peers mark place)
empty_no_end peers mark rest place size r none (inr short) = short.misses none

one_stop : (o : Option Refusal) (r s : Refusal) → o ≡ Some r → o ≡ Some s → Some r ≡ Some s
one_stop o r s a b = sym a ∙ b

one_end : (peers : List ℕ) (mark : Mark) (rest : List ℕ) (place size : ℕ) (stop halt : Option Refusal) → EndsIn peers mark rest place size stop → EndsIn peers mark rest place size halt → stop ≡ halt
one_end peers mark rest place size None None a b = refl
one_end peers mark rest place size None (Some r) a b = absurd (empty_no_end peers mark rest place size r a b)
one_end peers mark rest place size (Some r) None a b = absurd (empty_no_end peers mark rest place size r b a)
one_end peers mark rest place size (Some r) (Some s) (inl a) (inl b) = one_stop _ r s a b
one_end peers mark rest place size (Some r) (Some s) (inl a) (inr b) = absurd (some_none r _ a b.held.accepted)
one_end peers mark rest place size (Some r) (Some s) (inr a) (inl b) = absurd (some_none s _ b a.held.accepted)
one_end peers mark rest place size (Some r) (Some s) (inr a) (inr b) = ap Some (a.is ∙ sym b.is)

-- ---- one list of segments

first_split : (s : Segment) (segments : List Segment) (rest : List ℕ) → segments_bytes (s ∷ segments) ++ rest ≡ segment_bytes s ++ (segments_bytes segments ++ rest)
first_split s segments rest = append_assoc (segment_bytes s) (segments_bytes segments) rest

pub front_split : (peers : List ℕ) (mark : Mark) (xs ys : List Segment) (r t : List ℕ) → AreSegments peers mark xs → AreSegments peers mark ys → BeginsNone peers (mark_behind mark ys) t
    → segments_bytes xs ++ r ≡ segments_bytes ys ++ t → (more : List Segment) × (ys ≡ xs ++ more)
front_split peers mark [] ys r t ax ay none e = (ys, refl)
front_split peers mark (x ∷ xs) [] r t ax ay none e = absurd (none x (segments_bytes xs ++ r) ax.0 (sym e ∙ first_split x xs r))
front_split peers mark (x ∷ xs) (y ∷ ys) r t ax ay none e =
    let heads = same_segment peers mark x y (segments_bytes xs ++ r) (segments_bytes ys ++ t) ax.0 ay.0 (sym (first_split x xs r) ∙ e ∙ first_split y ys t) in
    let there : AreSegments peers (mark_of x) ys = subst (λ (s : Segment). AreSegments peers (mark_of s) ys) (sym heads.0) ay.1 in
    let left : BeginsNone peers (mark_behind (mark_of x) ys) t = subst (λ (s : Segment). BeginsNone peers (mark_behind (mark_of s) ys) t) (sym heads.0) none in
    let tails = front_split peers (mark_of x) xs ys r t ax.1 there left heads.1 in
    (tails.0, ap (λ s. s ∷ ys) (sym heads.0) ∙ ap (λ l. x ∷ l) tails.1)

one_split : (peers : List ℕ) (mark : Mark) (xs ys : List Segment) (r t : List ℕ) → AreSegments peers mark xs → AreSegments peers mark ys → BeginsNone peers (mark_behind mark xs) r → BeginsNone peers (mark_behind mark ys) t
    → segments_bytes xs ++ r ≡ segments_bytes ys ++ t → (xs ≡ ys) × (r ≡ t)
one_split peers mark [] [] r t ax ay nx ny e = (refl, e)
one_split peers mark [] (y ∷ ys) r t ax ay nx ny e = absurd (nx y (segments_bytes ys ++ t) ay.0 (e ∙ first_split y ys t))
one_split peers mark (x ∷ xs) [] r t ax ay nx ny e = absurd (ny x (segments_bytes xs ++ r) ax.0 (sym e ∙ first_split x xs r))
one_split peers mark (x ∷ xs) (y ∷ ys) r t ax ay nx ny e =
    let heads = same_segment peers mark x y (segments_bytes xs ++ r) (segments_bytes ys ++ t) ax.0 ay.0 (sym (first_split x xs r) ∙ e ∙ first_split y ys t) in
    let there : AreSegments peers (mark_of x) ys = subst (λ (s : Segment). AreSegments peers (mark_of s) ys) (sym heads.0) ay.1 in
    let left : BeginsNone peers (mark_behind (mark_of x) ys) t = subst (λ (s : Segment). BeginsNone peers (mark_behind (mark_of s) ys) t) (sym heads.0) ny in
    let tails = one_split peers (mark_of x) xs ys r t ax.1 there nx left heads.1 in
    (ap (λ s. s ∷ xs) heads.0 ∙ ap (λ l. y ∷ l) tails.0, tails.1)

-- ---- the readings

joined_as : (bytes peers : List ℕ) (segments : List Segment) (stop : Option Refusal) → (r : ReadsControl bytes peers segments stop) → bytes ≡ segments_bytes segments ++ r.rest
joined_as bytes peers segments stop r = r.joined ∙ ap (λ l. l ++ r.rest) r.is_control.all

ends_as : (bytes peers : List ℕ) (segments : List Segment) (stop : Option Refusal) → (r : ReadsControl bytes peers segments stop) → EndsIn peers (mark_behind start segments) r.rest (length (segments_bytes segments)) (length bytes) stop
ends_as bytes peers segments stop r = subst (λ (l : List ℕ). EndsIn peers (mark_behind start segments) r.rest (length l) (length bytes) stop) r.is_control.all r.ends

begins_none : (bytes peers : List ℕ) (segments : List Segment) (stop : Option Refusal) → (r : ReadsControl bytes peers segments stop) → BeginsNone peers (mark_behind start segments) r.rest
begins_none bytes peers segments stop r = ends_none peers (mark_behind start segments) r.rest (length r.front) (length bytes) stop r.ends

pub one_reading : (bytes peers : List ℕ) (segments others : List Segment) (stop halt : Option Refusal) → ReadsControl bytes peers segments stop → ReadsControl bytes peers others halt → (segments ≡ others) × (stop ≡ halt)
one_reading bytes peers segments others stop halt a b =
    let split = one_split peers start segments others a.rest b.rest a.is_control.each b.is_control.each (begins_none bytes peers segments stop a) (begins_none bytes peers others halt b)
    (sym (joined_as bytes peers segments stop a) ∙ joined_as bytes peers others halt b) in
    let there : EndsIn peers (mark_behind start segments) b.rest (length (segments_bytes segments)) (length bytes) halt =
    subst (λ (l : List Segment). EndsIn peers (mark_behind start l) b.rest (length (segments_bytes l)) (length bytes) halt) (sym split.0) (ends_as bytes peers others halt b) in
    let here : EndsIn peers (mark_behind start segments) a.rest (length (segments_bytes segments)) (length bytes) halt =
    subst (λ (l : List ℕ). EndsIn peers (mark_behind start segments) l (length (segments_bytes segments)) (length bytes) halt) (sym split.1) there in
    (split.0, one_end peers (mark_behind start segments) a.rest (length (segments_bytes segments)) (length bytes) stop halt (ends_as bytes peers segments stop a) here)

-- a control file is what is read of it, with nothing behind it
pub reads_control : (bytes peers : List ℕ) (segments : List Segment) → IsControl bytes peers segments → ReadsControl bytes peers segments None
reads_control bytes peers segments control = record { front = bytes; rest = []; is_control = control; joined = sym (append-nil bytes); ends = refl }

pub control_read : (bytes peers : List ℕ) (segments : List Segment) → ReadsControl bytes peers segments None → IsControl bytes peers segments
control_read bytes peers segments r =
    subst (λ (l : List ℕ). IsControl l peers segments) (sym (r.joined ∙ ap (λ l. r.front ++ l) r.ends ∙ append-nil r.front)) r.is_control

pub one_control : (bytes peers : List ℕ) (segments others : List Segment) → IsControl bytes peers segments → IsControl bytes peers others → segments ≡ others
one_control bytes peers segments others a b =
    (one_reading bytes peers segments others None None (reads_control bytes peers segments a) (reads_control bytes peers others b)).0

-- segments at the front of the bytes are the first of those that a reader of the bytes gets
pub first_segments : (bytes front rest peers : List ℕ) (given segments : List Segment) (stop : Option Refusal) → IsControl front peers given → bytes ≡ front ++ rest → ReadsControl bytes peers segments stop → (more : List Segment) × (segments ≡ given ++ more)
first_segments bytes front rest peers given segments stop control joined r =
    front_split peers start given segments rest r.rest control.each r.is_control.each (begins_none bytes peers segments stop r)
    (sym (joined ∙ ap (λ l. l ++ rest) control.all) ∙ joined_as bytes peers segments stop r)
