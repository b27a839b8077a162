-- Between which segments each frame of some rounds is forwarded.
use Rattle.std.specs.Prelude.{ℕ, ◌+◌, suc, cond, nat_le, List, [], ◌∷◌, ◌++◌, map, length}
use Rattle.pcap_io.specs.declared.frames.Captured.{Captured}
use Rattle.control_files.specs.declared.segments.Segment.{Segment}
use Rattle.rounds.specs.Rounds.{Round}

-- a frame, and how many segments stand in the rounds before its own, and up to its own
pub record Place : Type 0 where
  pub frame : Captured
  pub low : ℕ
  pub high : ℕ

-- the frames of a round behind so many segments
abbrev pub round_places : ℕ → Round → List Place
round_places before r = map (λ (f : Captured). record { frame = f; low = before; high = before + length r.segments }) r.frames

-- the frames of the rounds in order
abbrev pub places_of : ℕ → List Round → List Place
places_of before [] = []
places_of before (r ∷ rs) = round_places before r ++ places_of (before + length r.segments) rs

abbrev pub highs : List Place → List ℕ
highs [] = []
highs (p ∷ ps) = p.high ∷ highs ps

-- how many segments stand at or before the j-th frame
abbrev pub standing : ℕ → List Segment → ℕ
standing j [] = 0
standing j (s ∷ ss) = cond (nat_le s.position j) (suc (standing j ss)) (standing j ss)

-- that number for each frame from a place on, with those before
abbrev pub standing_from : ℕ → ℕ → List Captured → List Segment → List ℕ
standing_from place before [] ss = []
standing_from place before (f ∷ fs) ss = (before + standing place ss) ∷ standing_from (place + 1) before fs ss
