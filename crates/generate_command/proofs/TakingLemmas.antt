-- The segments and the frames of a round, as they are counted off the front of what is left.
use Rattle.std.proofs.Common.{◌≡◌, ℕ, ◌-◌, ◌≤◌, ◌<◌, ◌+◌, ◌&&◌, ◌==◌, Bool, false, min, List, [], ◌∷◌, length, take, drop, refl, sym, ap, ◌∙◌, length-take, length-drop, arith}
use Rattle.std.proofs.lemmas.List.{length-take-le, take_min, take_rest}
use Rattle.control_files.specs.declared.segments.Segment.{Segment}
use Rattle.pcap_io.specs.declared.frames.Captured.{Captured}
use Rattle.rounds.proofs.RoundLemmas.{progress}
use Rattle.rounds.specs.Rounds.{at_cut, is_empty, round_frames, round_segments, wanted}

-- a list without elements is empty
empty_by_length : {A : Type 0} (xs : List A) → (length xs == 0) ≡ is_empty xs
empty_by_length [] = refl
empty_by_length (x ∷ xs) = grind arith

pub segments_taken : (place n : ℕ) (empty : Bool) (fs : List Captured) (ss : List Segment) → empty ≡ (length fs == 0) → take n ss ≡ take 256 (at_cut empty place ss) → take n ss ≡ round_segments place fs ss
unfolding round_segments
segments_taken place n empty fs ss none are = are ∙ ap (λ (b : Bool). take 256 (at_cut b place ss)) (none ∙ empty_by_length fs)

pub frames_taken : (place n w m : ℕ) (fs : List Captured) (ss : List Segment) → n ≤ length ss → take n ss ≡ round_segments place fs ss → w ≡ wanted place (take n ss) (take (length ss - n) (drop n ss)) → m ≡ min w (length fs) → take m fs ≡ round_frames place fs ss
unfolding round_frames
frames_taken place n w m fs ss within are wants is =
    let own = round_segments place fs ss in
    let many : length own ≡ n = ap length (sym are) ∙ omega (arith, within, length-take n ss) in
    let same : w ≡ wanted place own (drop (length own) ss) =
    wants ∙ (ap (λ (l : List Segment). wanted place (take n ss) l) (take_rest ss n) ∙ (ap (λ (l : List Segment). wanted place l (drop n ss)) are ∙ ap (λ (k : ℕ). wanted place own (drop k ss)) (sym many))) in
    ap (λ (k : ℕ). take k fs) is ∙ (take_min w fs ∙ ap (λ (k : ℕ). take k fs) same)

-- a round takes a frame or a segment
pub less_left : (place n m : ℕ) (fs later : List Captured) (ss behind : List Segment) → (is_empty fs && is_empty ss) ≡ false → take n ss ≡ round_segments place fs ss → take m fs ≡ round_frames place fs ss → n ≤ length ss → m ≤ length fs → later ≡ drop m fs → behind ≡ drop n ss → length later + length behind < length fs + length ss
less_left place n m fs later ss behind some segments_are frames_are few_segments few_frames later_is behind_is =
    let taken = progress place fs ss some in
    let segments = ap length segments_are in
    let frames = ap length frames_are in
    let late = ap length later_is in
    let back = ap length behind_is in
    omega (arith, taken, segments, frames, late, back, few_segments, few_frames, length-take-le n ss few_segments, length-take-le m fs few_frames, length-drop m fs, length-drop n ss)
