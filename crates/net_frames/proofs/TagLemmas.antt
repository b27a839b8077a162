-- A tag written at byte 12 of bytes that were moved back for it.
use Rattle.std.proofs.Common.{◌≡◌, ℕ, ◌+◌, ◌-◌, ◌≤◌, List, [], ◌∷◌, ◌++◌, length, take, drop, set, refl, arith, length-append, length-drop}
use Rattle.std.proofs.Math.Seq.{take-append_seam}
use Rattle.std.proofs.lemmas.List.{drop_all, append-nil, take-append-le, drop-append-le}
use Rattle.std.specs.Prelude.{slice_range}
use Rattle.std.specs.List.{copy_within}
use Rattle.net_frames.specs.Words.{with_word}
use Rattle.net_frames.specs.Edits.{tag_of}

-- over four bytes that lie behind the first twelve
tag_onto : (bytes moved : List ℕ) (vid : ℕ) → 16 ≤ length bytes →
    with_word (set (set (take 16 bytes ++ moved) 12 129) 13 0) 14 vid ≡ take 12 bytes ++ (tag_of vid ++ moved)
unfolding with_word
tag_onto (a ∷ b ∷ c ∷ d ∷ e ∷ f ∷ g ∷ h ∷ i ∷ j ∷ k ∷ l ∷ m ∷ n ∷ o ∷ p ∷ rest) moved vid room = refl
tag_onto bytes moved vid room = absurd (omega arith)

-- once all but the last four are moved back
pub tag_written : (bytes : List ℕ) (vid : ℕ) → 16 ≤ length bytes →
    with_word (set (set (copy_within bytes 12 (length bytes - 4) 16) 12 129) 13 0) 14 vid
    ≡ take 12 bytes ++ (tag_of vid ++ slice_range bytes 12 (length bytes - 4))
tag_written bytes vid room =
    rw (drop_all (16 + (length bytes - 4 - 12)) bytes (omega arith), append-nil) (tag_onto bytes _ vid room)

-- with four bytes more for it
pub tag_in_room : (bytes tag : List ℕ) → 12 ≤ length bytes →
    take 12 (bytes ++ 0 ∷ 0 ∷ 0 ∷ 0 ∷ []) ++ (tag ++ slice_range (bytes ++ 0 ∷ 0 ∷ 0 ∷ 0 ∷ []) 12 (length (bytes ++ 0 ∷ 0 ∷ 0 ∷ 0 ∷ []) - 4))
    ≡ take 12 bytes ++ (tag ++ drop 12 bytes)
tag_in_room bytes tag enough =
    let more : List ℕ = 0 ∷ 0 ∷ 0 ∷ 0 ∷ [] in
    let count : length (bytes ++ more) - 4 - 12 ≡ length (drop 12 bytes) = omega (arith, length-append bytes more, length-drop 12 bytes) in
    let back : take (length (bytes ++ more) - 4 - 12) (drop 12 (bytes ++ more)) ≡ drop 12 bytes =
    rw (count, drop-append-le 12 bytes more enough) (take-append_seam (drop 12 bytes) more) in
    rw (take-append-le 12 bytes more enough, back) refl
