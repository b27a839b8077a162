-- What a feed stands for after each call, and that each call answers what the rest asks for.
use Rattle.std.proofs.Common.{◌≡◌, ℕ, ◌+◌, ◌≤◌, List, [], ◌∷◌, ◌++◌, length, take, drop, Option, None, Some, Result, Ok, Err, sym, ap, subst, ◌∙◌, append_assoc, refl, arith}
use Rattle.std.proofs.lemmas.List.{length-append, length-take, drop-take, length-drop}
use Rattle.std.proofs.Math.Seq.{take-append_seam}
use Rattle.control_files.specs.declared.segments.Segment.{Segment}
use Rattle.control_files.specs.declared.segments.SegmentHead.{SegmentHead}
use Rattle.control_files.specs.declared.segments.Mark.{Mark}
use Rattle.control_files.specs.declared.reasons.Refusal.{Refusal}
use Rattle.control_files.specs.Segments.{IsControl, MayFollow, mark_behind, mark_of, segment_bytes, start}
use Rattle.control_files.specs.Refusals.{refusal_of}
use Rattle.control_files.specs.Steps.{BeginsWith}
use Rattle.control_files.specs.Kept.{Kept}
use Rattle.control_files.specs.Calls.{RefusedAt, IsHeld, Gives, GivesNext, Exact, lent_segment}
use Rattle.control_files.specs.Streams.{Stands, NextLent}
use Rattle.control_files.proofs.SegmentLists.{mark_behind-push, one_more_segment}
use Rattle.control_files.proofs.SegmentLemmas.{length-segment, same_segment, segment_accepted}
use Rattle.control_files.proofs.FieldLemmas.{refusal_more, some_none}

same_mark : (a b : Mark) → a.moment ≡ b.moment → a.position ≡ b.position → a ≡ b
same_mark a b m p =
    ap (λ n. let x : Mark = record a { moment = n } in x) m ∙ ap (λ n. let x : Mark = record b { position = n } in x) p

-- the segment that was passed is the head's
pub gives_segment : (old new : Kept) (head : SegmentHead) → 23 + head.length ≤ length old.rest
    → BeginsWith old.peers old.mark old.rest head (take head.length (drop 23 old.rest)) (drop (23 + head.length) old.rest)
    → new.lent ≡ take (23 + head.length) old.rest → new.rest ≡ drop (23 + head.length) old.rest → new.place ≡ old.place + (23 + head.length)
    → new.mark.moment ≡ head.moment → new.mark.position ≡ head.position → new.peers ≡ old.peers → new.room ≡ old.room → new.failed ≡ old.failed → Gives old new head
gives_segment old new head there begins lent rest place moment position same_peers same_room same_failed =
    let size : ℕ = 23 + head.length in
    let body : drop 23 new.lent ≡ take head.length (drop 23 old.rest) = ap (drop 23) lent ∙ drop-take 23 head.length old.rest in
    let whole : BeginsWith old.peers old.mark old.rest head (drop 23 new.lent) (drop size old.rest) = subst (λ b. BeginsWith old.peers old.mark old.rest head b (drop size old.rest)) (sym body) begins in
    let s : Segment = lent_segment head new in
    let bodied : length (drop 23 new.lent) ≡ head.length = omega (arith, length-drop 23 new.lent, ap length lent, length-take size old.rest, there) in
    let sized : length (segment_bytes s) ≡ size = length-segment s ∙ ap (λ n. 23 + n) bodied in
    record {
      follows = whole.follows;
      lent = lent ∙ ap (λ n. take n old.rest) (sym sized) ∙ ap (take (length (segment_bytes s))) whole.all ∙ take-append_seam (segment_bytes s) (drop size old.rest);
      rest = whole.all ∙ ap (λ l. segment_bytes s ++ l) (sym rest);
      place = place ∙ ap (λ n. old.place + n) (sym sized);
      mark = same_mark new.mark (mark_of s) moment position;
      same_peers = same_peers;
      same_room = same_room;
      same_failed = same_failed;
    }

-- ---- the history

gave : (old new : Kept) (head : SegmentHead) (taken : List ℕ) (given : List Segment) → Stands old taken given → Gives old new head → Stands new taken (given ++ lent_segment head new ∷ [])
gave old new head taken given s g =
    let segment : Segment = lent_segment head new in
    let may : MayFollow old.peers (mark_behind start given) segment = subst (λ (m : Mark). MayFollow old.peers m segment) s.mark g.follows in
    let control : IsControl (s.front ++ segment_bytes segment) old.peers (given ++ segment ∷ []) = one_more_segment s.front old.peers given segment s.is_control may in
    record {
      sound = g.same_failed ∙ s.sound;
      front = s.front ++ segment_bytes segment;
      is_control = subst (λ (p : List ℕ). IsControl (s.front ++ segment_bytes segment) p (given ++ segment ∷ [])) (sym g.same_peers) control;
      joined = s.joined ∙ ap (λ b. s.front ++ b) g.rest ∙ sym (append_assoc s.front (segment_bytes segment) new.rest);
      used = g.place ∙ ap (λ n. n + length (segment_bytes segment)) s.used ∙ sym (length-append s.front (segment_bytes segment));
      mark = g.mark ∙ sym (mark_behind-push start given segment);
    }

pub next_stands : (old new : Kept) (result : Result (Option SegmentHead) Refusal) (taken : List ℕ) (given : List Segment) → GivesNext old new result → Stands old taken given → NextLent result new taken given
next_stands old new (Ok (Some head)) taken given g s = gave old new head taken given s g
next_stands old new (Ok None) taken given h s = subst (λ (feed : Kept). Stands feed taken given × IsHeld feed) (sym h.1) (s, h.0)
next_stands old new (Err r) taken given h s = subst (λ (feed : Kept). Stands feed taken given × RefusedAt feed r) (sym h.1) (s, h.0)

-- more bytes behind the rest are more bytes taken
pub stands_more : (old new : Kept) (taken more : List ℕ) (given : List Segment) → new.rest ≡ old.rest ++ more → new.place ≡ old.place → new.mark ≡ old.mark → new.peers ≡ old.peers → new.failed ≡ old.failed → Stands old taken given → Stands new (taken ++ more) given
stands_more old new taken more given rest place mark peers failed s = record {
  sound = failed ∙ s.sound;
  front = s.front;
  is_control = subst (λ (p : List ℕ). IsControl s.front p given) (sym peers) s.is_control;
  joined = ap (λ l. l ++ more) s.joined ∙ append_assoc s.front old.rest more ∙ ap (λ l. s.front ++ l) (sym rest);
  used = place ∙ s.used;
  mark = mark ∙ s.mark;
}

-- ---- what the rest asks for

not_both : (old : Kept) (segment : Segment) (more : List ℕ) (t : Refusal) → MayFollow old.peers old.mark segment → old.rest ≡ segment_bytes segment ++ more → RefusedAt old t → ⊥
not_both old segment more t may all bad = some_none t _ bad (segment_accepted old.peers old.mark old.place segment old.rest more may all)

one_told : (o : Option Refusal) (r t : Refusal) → o ≡ Some r → o ≡ Some t → r ≡ t
one_told o r t a b = cc

pub next_exact : (old new : Kept) (result : Result (Option SegmentHead) Refusal) → GivesNext old new result → Exact old new result
next_exact old new (Ok (Some head)) g = record {
  whole = λ segment more may all. (same_segment old.peers old.mark (lent_segment head new) segment new.rest more g.follows may (sym g.rest ∙ all)).0;
  not_yet = λ held. absurd (held.unfinished (lent_segment head new) new.rest g.follows g.rest);
  bad = λ t bad. absurd (not_both old (lent_segment head new) new.rest t g.follows g.rest bad);
}
next_exact old new (Ok None) h = record {
  whole = λ segment more may all. h.0.unfinished segment more may all;
  not_yet = λ held. refl;
  bad = λ t bad. absurd (some_none t _ bad h.0.accepted);
}
next_exact old new (Err r) h = record {
  whole = λ segment more may all. not_both old segment more r may all h.0;
  not_yet = λ held. absurd (some_none r _ h.0 held.accepted);
  bad = λ t bad. ap Err (one_told _ r t h.0 bad);
}

-- what is refused is refused with more behind it
pub refused_longer : (old new : Kept) (more : List ℕ) (t : Refusal) → new.rest ≡ old.rest ++ more → new.place ≡ old.place → new.mark ≡ old.mark → new.peers ≡ old.peers → RefusedAt old t → RefusedAt new t
refused_longer old new more t rest place mark peers bad =
    ap (λ (p : List ℕ). refusal_of p new.mark new.place new.rest) peers
    ∙ ap (λ (m : Mark). refusal_of old.peers m new.place new.rest) mark
    ∙ ap (λ (n : ℕ). refusal_of old.peers old.mark n new.rest) place
    ∙ ap (λ (l : List ℕ). refusal_of old.peers old.mark old.place l) rest
    ∙ refusal_more old.peers old.mark old.place old.rest more t bad
