-- Segments one behind the other, and one more.
use Rattle.std.proofs.Common.{◌≡◌, ℕ, List, [], ◌∷◌, ◌++◌, refl, sym, ap, ◌∙◌}
use Rattle.std.proofs.lemmas.List.{append-nil}
use Rattle.std.proofs.lemmas.List.Concat.{flat_map-append}
use Rattle.control_files.specs.declared.segments.Segment.{Segment}
use Rattle.control_files.specs.declared.segments.Mark.{Mark}
use Rattle.control_files.specs.Segments.{AreSegments, IsControl, MayFollow, mark_behind, mark_of, segment_bytes, segments_bytes, start}

pub mark_behind-push : (mark : Mark) (segments : List Segment) (s : Segment) → mark_behind mark (segments ++ s ∷ []) ≡ mark_of s
mark_behind-push mark [] s = refl
mark_behind-push mark (t ∷ segments) s = mark_behind-push (mark_of t) segments s

pub are-push : (peers : List ℕ) (mark : Mark) (segments : List Segment) (s : Segment) → AreSegments peers mark segments → MayFollow peers (mark_behind mark segments) s → AreSegments peers mark (segments ++ s ∷ [])
are-push peers mark [] s each may = (may, tt)
are-push peers mark (t ∷ segments) s each may = (each.0, are-push peers (mark_of t) segments s each.1 may)

pub bytes-push : (segments : List Segment) (s : Segment) → segments_bytes (segments ++ s ∷ []) ≡ segments_bytes segments ++ segment_bytes s
bytes-push segments s = flat_map-append segment_bytes segments (s ∷ []) ∙ ap (λ b. segments_bytes segments ++ b) (append-nil (segment_bytes s))

-- a control file with one more segment
pub one_more_segment : (bytes peers : List ℕ) (segments : List Segment) (s : Segment) → IsControl bytes peers segments → MayFollow peers (mark_behind start segments) s → IsControl (bytes ++ segment_bytes s) peers (segments ++ s ∷ [])
one_more_segment bytes peers segments s control may = record {
  each = are-push peers start segments s control.each may;
  all = ap (λ b. b ++ segment_bytes s) control.all ∙ sym (bytes-push segments s);
}
