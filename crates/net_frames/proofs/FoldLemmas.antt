-- Folding a sum: what it leaves as it is, and that a carry added in changes nothing.
use Rattle.std.proofs.Common.{◌≡◌, ℕ, zero, suc, ◌+◌, ◌-◌, ◌/◌, ◌%◌, ◌<◌, refl, arith}
use Rattle.net_frames.specs.Checksums.{fold}

-- a sum above 0
pub fold_above : (n : ℕ) → 0 < n → fold n ≡ (n - 1) % 65535 + 1
unfolding fold
fold_above zero h = absurd (omega arith)
fold_above (suc n) h = omega arith

-- a sum without carries
pub fold_small : (n : ℕ) → n < 65536 → n ≡ fold n
unfolding fold
fold_small zero h = refl
fold_small (suc n) h = omega arith

pub fold_carry : (n : ℕ) → fold (n % 65536 + n / 65536) ≡ fold n
fold_carry zero = refl
fold_carry (suc n) =
    let above : 0 < suc n % 65536 + suc n / 65536 = omega arith in
    omega (arith, fold_above (suc n % 65536 + suc n / 65536) above, fold_above (suc n) (omega arith))
