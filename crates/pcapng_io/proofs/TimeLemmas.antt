-- A part of a second in nanoseconds.
use Rattle.std.proofs.Common.{◌≡◌, ◌≤◌, ◌<◌, ◌+◌, ◌-◌, ◌*◌, ◌/◌, ◌^◌, ℕ, sym, ap, ◌∙◌, arith}
use Rattle.std.proofs.Math.Nat.{mul_assoc, mul_comm, mul-le-mul_right, add-mul, one-le-pow}
use Rattle.std.proofs.lemmas.Nat.{pow-add, div-mul-add}

pub ten_some : (n : ℕ) → 0 < 10 ^ n
ten_some n = let h = one-le-pow n 10 (omega arith) in omega (arith, h)

-- the ticks of a second, times the nanoseconds of a tick
split_ten : (r : ℕ) → r ≤ 9 → 10 ^ r * 10 ^ (9 - r) ≡ 1000000000
split_ten r few =
    let nine : r + (9 - r) ≡ 9 = omega (arith, few) in
    sym (pow-add 10 r (9 - r)) ∙ ap (λ n. 10 ^ n) nine

scaled : (x p m : ℕ) → 0 < p → p * m ≡ 1000000000 → x * m ≡ x * 1000000000 / p
scaled x p m some is =
    let product : x * 1000000000 ≡ (x * m) * p + 0 = ap (λ n. x * n) (sym is ∙ mul_comm p m) ∙ sym (mul_assoc x m p) ∙ omega arith in
    sym (ap (λ n. n / p) product ∙ div-mul-add (x * m) p 0 some)

below : (x p m : ℕ) → x < p → 0 < m → p * m ≡ 1000000000 → x * m < 1000000000
below x p m less some is =
    let step : (x + 1) * m ≤ p * m = mul-le-mul_right m (omega (arith, less)) in
    let expand : (x + 1) * m ≡ x * m + 1 * m = add-mul x 1 m in
    omega (arith, step, expand, is, some)

pub long_value : (r x : ℕ) → r ≤ 9 → x * 10 ^ (9 - r) ≡ x * 1000000000 / 10 ^ r
long_value r x few = scaled x (10 ^ r) (10 ^ (9 - r)) (ten_some r) (split_ten r few)

pub long_below : (r x : ℕ) → r ≤ 9 → x < 10 ^ r → x * 10 ^ (9 - r) < 1000000000
long_below r x few less = below x (10 ^ r) (10 ^ (9 - r)) less (ten_some (9 - r)) (split_ten r few)
