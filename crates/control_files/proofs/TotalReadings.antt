-- Every list of bytes has a reading.
use Rattle.std.proofs.Common.{◌≡◌, ◌<◌, ℕ, zero, suc, ◌+◌, List, [], ◌∷◌, ◌++◌, length, take, drop, Option, None, Some, refl, sym, ap, subst, ◌∙◌, inl, inr, ◌⊎◌, append_assoc, arith}
use Rattle.std.specs.Prelude.{◌≢◌}
use Rattle.std.proofs.lemmas.Bool.{cases_lt}
use Rattle.std.proofs.lemmas.List.{length-append}
use Rattle.std.proofs.lemmas.List.Elements.{All-drop}
use Rattle.std.proofs.Math.Seq.{drop-append_seam}
use Rattle.wire_base.specs.Numbers.{AreBytes}
use Rattle.control_files.specs.declared.segments.Segment.{Segment}
use Rattle.control_files.specs.declared.segments.Mark.{Mark}
use Rattle.control_files.specs.declared.reasons.Refusal.{Refusal}
use Rattle.control_files.specs.declared.reasons.ControlReason.TheVariants as reasons
use Rattle.control_files.specs.Segments.{AreSegments, MayFollow, mark_behind, mark_of, segment_bytes, segments_bytes, start}
use Rattle.control_files.specs.Refusals.{told, refusal_of, Held, head_at, length_at}
use Rattle.control_files.specs.Steps.{segment_of}
use Rattle.control_files.specs.Reads.{ReadsControl}
use Rattle.control_files.proofs.SegmentLemmas.{held_short, held_body, begins, length-segment}

-- a segment is whole
record Whole (peers : List ℕ) (mark : Mark) (bytes : List ℕ) : Type 0 where
  pub segment : Segment
  pub more : List ℕ
  pub may : MayFollow peers mark segment
  pub all : bytes ≡ segment_bytes segment ++ more

-- bytes are refused, held, or begin with a segment
abbrev SegmentOrNot : List ℕ → Mark → ℕ → List ℕ → Type 0
SegmentOrNot peers mark place bytes = ((t : Refusal) × (refusal_of peers mark place bytes ≡ Some t)) ⊎ (Held peers mark place bytes ⊎ Whole peers mark bytes)

refused_or_not : (o : Option Refusal) → ((t : Refusal) × (o ≡ Some t)) ⊎ (o ≡ None)
refused_or_not None = inr refl
refused_or_not (Some t) = inl (t, refl)

accepted_or_whole : (peers : List ℕ) (mark : Mark) (place : ℕ) (bytes : List ℕ) → AreBytes bytes → refusal_of peers mark place bytes ≡ None → Held peers mark place bytes ⊎ Whole peers mark bytes
accepted_or_whole peers mark place bytes each none =
    elim (cases_lt (length bytes) 23) [
      | inl short ↦ inl (held_short peers mark place bytes none short)
      | inr head ↦
          elim (cases_lt (length bytes) (23 + length_at bytes)) [
            | inl short ↦ inl (held_body peers mark place bytes none short)
            | inr there ↦
                let front = begins peers mark place bytes each none head there in
                inr (record { segment = segment_of (head_at bytes) (take (length_at bytes) (drop 23 bytes)); more = drop (23 + length_at bytes) bytes; may = front.follows; all = front.all })
          ]
    ]

segment_or_not : (peers : List ℕ) (mark : Mark) (place : ℕ) (bytes : List ℕ) → AreBytes bytes → SegmentOrNot peers mark place bytes
segment_or_not peers mark place bytes each =
    elim (refused_or_not (refusal_of peers mark place bytes)) [ inl bad ↦ inl bad | inr none ↦ inr (accepted_or_whole peers mark place bytes each none) ]

-- the bytes behind a mark, from a place on, are these segments, and then what is refused or held
record Behind (peers : List ℕ) (mark : Mark) (place : ℕ) (bytes : List ℕ) : Type 0 where
  pub segments : List Segment
  pub left : List ℕ
  pub each : AreSegments peers mark segments
  pub all : bytes ≡ segments_bytes segments ++ left
  pub ends : ((t : Refusal) × (refusal_of peers (mark_behind mark segments) (place + length (segments_bytes segments)) left ≡ Some t)) ⊎ Held peers (mark_behind mark segments) (place + length (segments_bytes segments)) left

bytes_behind : (front more bytes : List ℕ) → bytes ≡ front ++ more → AreBytes bytes → AreBytes more
bytes_behind front more bytes e all =
    subst AreBytes (ap (drop (length front)) e ∙ drop-append_seam front more) (All-drop (λ b. b < 256) (length front) bytes all)

-- what is refused or held behind so many bytes
abbrev Stops : List ℕ → Mark → List ℕ → ℕ → Type 0
Stops peers mark left place = ((t : Refusal) × (refusal_of peers mark place left ≡ Some t)) ⊎ Held peers mark place left

behind : (n : ℕ) (peers : List ℕ) (mark : Mark) (place : ℕ) (bytes : List ℕ) → AreBytes bytes → length bytes < n → Behind peers mark place bytes
behind zero peers mark place bytes each less = absurd (omega (arith, less))
behind (suc n) peers mark place bytes each less =
    elim (segment_or_not peers mark place bytes each) [
      | inl bad ↦ record { segments = []; left = bytes; each = tt; all = refl; ends = subst (Stops peers mark bytes) (omega arith) (inl bad) }
      | inr (inl held) ↦ record { segments = []; left = bytes; each = tt; all = refl; ends = subst (Stops peers mark bytes) (omega arith) (inr held) }
      | inr (inr whole) ↦
          let s : Segment = whole.segment in
          let shorter : length whole.more < n = omega (arith, less, ap length whole.all, length-append (segment_bytes s) whole.more, length-segment s) in
          let deeper : Behind peers (mark_of s) (place + length (segment_bytes s)) whole.more = behind n peers (mark_of s) (place + length (segment_bytes s)) whole.more (bytes_behind (segment_bytes s) whole.more bytes whole.all each) shorter in
          let size = length-append (segment_bytes s) (segments_bytes deeper.segments) in
          record {
            segments = s ∷ deeper.segments;
            left = deeper.left;
            each = (whole.may, deeper.each);
            all = whole.all ∙ ap (λ l. segment_bytes s ++ l) deeper.all ∙ sym (append_assoc (segment_bytes s) (segments_bytes deeper.segments) deeper.left);
            ends = subst (Stops peers (mark_behind (mark_of s) deeper.segments) deeper.left) (omega (arith, size)) deeper.ends;
          }
    ]

none_or_some : (l : List ℕ) → (l ≡ []) ⊎ (l ≢ [])
none_or_some [] = inl refl
none_or_some (x ∷ xs) = inr (λ e. cc)

pub every_reading : (bytes peers : List ℕ) → AreBytes bytes → (segments : List Segment) × (stop : Option Refusal) × ReadsControl bytes peers segments stop
every_reading bytes peers each =
    let b : Behind peers start 0 bytes = behind (suc (length bytes)) peers start 0 bytes each (omega arith) in
    let place : 0 + length (segments_bytes b.segments) ≡ length (segments_bytes b.segments) = omega arith in
    let stops : Stops peers (mark_behind start b.segments) b.left (length (segments_bytes b.segments)) = subst (Stops peers (mark_behind start b.segments) b.left) place b.ends in
    elim stops [
      | inl bad ↦ (b.segments, Some bad.0, record { front = segments_bytes b.segments; rest = b.left; is_control = record { each = b.each; all = refl }; joined = b.all; ends = inl bad.1 })
      | inr held ↦
          elim (none_or_some b.left) [
            | inl none ↦ (b.segments, None, record { front = segments_bytes b.segments; rest = b.left; is_control = record { each = b.each; all = refl }; joined = b.all; ends = none })
            | inr some ↦ (b.segments, Some (told (length bytes) reasons.Short), record { front = segments_bytes b.segments; rest = b.left; is_control = record { each = b.each; all = refl }; joined = b.all; ends = inr (record { held = held; misses = some; is = refl }) })
          ]
    ]
