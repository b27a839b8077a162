-- Sums that fold to FFFF, and a checksum that is adjusted for one word.
use Rattle.std.proofs.Common.{◌≡◌, ℕ, zero, suc, ◌+◌, ◌-◌, ◌*◌, ◌/◌, ◌<◌, ◌≤◌, refl, arith}
use Rattle.net_frames.specs.Checksums.{fold, adjust}
use Rattle.net_frames.specs.Right.{IsRight}
use Rattle.net_frames.proofs.FoldLemmas.{fold_above}

-- a fold differs from its sum by a multiple of 65,535
fold_part : (n : ℕ) → (q : ℕ) × (n ≡ 65535 * q + fold n) × (fold n ≤ 65535)
unfolding fold
fold_part zero = (0, refl, omega arith)
fold_part (suc n) = (n / 65535, omega arith, omega arith)

-- a sum that folds to FFFF is a multiple of 65,535, and not 0
right_multiple : (sum : ℕ) → IsRight sum → (q : ℕ) × (sum ≡ 65535 * q) × (0 < q)
unfolding fold
right_multiple zero right = absurd (omega arith)
right_multiple (suc n) right = (n / 65535 + 1, omega arith, omega arith)

multiple_right : (sum q : ℕ) → sum ≡ 65535 * q → 0 < sum → IsRight sum
multiple_right sum q multiple above = omega (arith, fold_above sum above)

pub adjust_below : (checksum before after : ℕ) → adjust checksum before after < 65536
unfolding adjust
adjust_below checksum before after = omega arith

-- a sum in which a word and the checksum gave place to the word's new value and the adjusted checksum
pub right_kept : (sum next checksum before after : ℕ) → checksum < 65536 → before < 65536 → after < 65536 →
    next + before + checksum ≡ sum + after + adjust checksum before after → 0 < next → IsRight sum → IsRight next
unfolding adjust
right_kept sum next checksum before after c b a moved above right =
    let parts = fold_part ((65535 - checksum) + (65535 - before) + after) in
    let whole = right_multiple sum right in
    multiple_right next (whole.0 + parts.0 - 1) (omega arith) above

-- the same for two words, one after the other, up to FFFF in place of 0
pub right_kept_twice : (sum next checksum before after before2 after2 full : ℕ) →
    checksum < 65536 → before < 65536 → after < 65536 → before2 < 65536 → after2 < 65536 →
    next + before + before2 + checksum ≡ sum + after + after2 + adjust (adjust checksum before after) before2 after2 + 65535 * full →
    0 < next → IsRight sum → IsRight next
unfolding adjust
right_kept_twice sum next checksum before after before2 after2 full c b a b2 a2 moved above right =
    let once = fold_part ((65535 - checksum) + (65535 - before) + after) in
    let then = fold_part ((65535 - (65535 - fold ((65535 - checksum) + (65535 - before) + after))) + (65535 - before2) + after2) in
    let whole = right_multiple sum right in
    multiple_right next (whole.0 + once.0 + then.0 + full - 2) (omega arith) above
