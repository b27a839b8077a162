-- The first bits of some bytes are the number of the whole bytes among them, then the first bits of the next byte.
use Rattle.std.proofs.Common.{◌≡◌, ℕ, zero, suc, ◌+◌, ◌-◌, ◌*◌, ◌/◌, ◌%◌, ◌^◌, ◌<◌, ◌≤◌, List, [], ◌∷◌, length, take, drop, get_or, Bool, true, false, Decides, MatchBool, nat_eq, ◌↔◌, refl, sym, ap, ◌∙◌, arith}
use Rattle.std.proofs.Math.Nat.{div-div-eq-div-mul, mul-add-div_right, pow-succ', mul_assoc, div-one}
use Rattle.std.proofs.Math.Seq.{take-suc}
use Rattle.std.proofs.lemmas.Nat.{pow-add, pow_pos, div-mul-add}
use Rattle.std.proofs.lemmas.Bool.Decides.{Decides-eqb}
use Rattle.std.proofs.lemmas.List.{take-append-drop, length-drop, length-take-le}
use Rattle.std.proofs.lemmas.List.Elements.{All-drop, All-take}
use Rattle.wire_base.specs.Numbers.{big_endian, AreBytes}
use Rattle.wire_base.proofs.BigEndianLemmas.{big_endian-append, big_endian_fits, big_endian_one_to_one}
use Rattle.classifier.specs.Matching.{first_bits}

eight_more : (n : ℕ) → 8 + 8 * n ≡ 8 * suc n
eight_more n = omega arith

-- 256 is eight bits
byte_power : (n : ℕ) → 256 ^ n ≡ 2 ^ (8 * n)
byte_power zero = refl
byte_power (suc n) =
    pow-succ' 256 n ∙ ap (λ m. 256 * m) (byte_power n) ∙ sym (pow-add 2 8 (8 * n)) ∙ ap (λ m. 2 ^ m) (eight_more n)

-- the number without its last bytes is the number of the others
pub prefix_number : (i : ℕ) (xs : List ℕ) → AreBytes xs → i ≤ length xs → big_endian xs / 256 ^ (length xs - i) ≡ big_endian (take i xs)
prefix_number i xs bytes within =
    let count : length (drop i xs) ≡ length xs - i = length-drop i xs in
    let whole : big_endian xs ≡ big_endian (take i xs) * 256 ^ (length xs - i) + big_endian (drop i xs) =
    ap big_endian (sym (take-append-drop i xs)) ∙ big_endian-append (take i xs) (drop i xs) ∙ ap (λ n. big_endian (take i xs) * 256 ^ n + big_endian (drop i xs)) count in
    let small : big_endian (drop i xs) < 256 ^ (length xs - i) = let fits = big_endian_fits (drop i xs) (All-drop (λ b. b < 256) i xs bytes) in let same = ap (λ n. 256 ^ n) count in omega (arith, fits, same) in
    ap (λ n. n / 256 ^ (length xs - i)) whole ∙ div-mul-add (big_endian (take i xs)) (256 ^ (length xs - i)) (big_endian (drop i xs)) small

-- the same, where so many bits are taken off
by_bits : (i n : ℕ) (xs : List ℕ) → AreBytes xs → i ≤ length xs → n ≡ 8 * (length xs - i) → big_endian xs / 2 ^ n ≡ big_endian (take i xs)
by_bits i n xs bytes within e =
    ap (λ k. big_endian xs / k) (ap (λ k. 2 ^ k) e ∙ sym (byte_power (length xs - i))) ∙ prefix_number i xs bytes within

-- without the bits of a byte that is not whole, the first bits are the number of the whole bytes
pub whole_bytes : (n : ℕ) (xs : List ℕ) → AreBytes xs → n ≤ 8 * length xs → first_bits n xs / 2 ^ (n % 8) ≡ big_endian (take (n / 8) xs)
unfolding first_bits
whole_bytes n xs bytes within =
    div-div-eq-div-mul (big_endian xs) (2 ^ (8 * length xs - n)) (2 ^ (n % 8))
    ∙ ap (λ k. big_endian xs / k) (sym (pow-add 2 (8 * length xs - n) (n % 8)))
    ∙ by_bits (n / 8) (8 * length xs - n + n % 8) xs bytes (omega (arith, within)) (omega (arith, within))

-- the number of the whole bytes and one more
next_byte : (i : ℕ) (xs : List ℕ) (d : ℕ) → i < length xs → big_endian (take (i + 1) xs) ≡ big_endian (take i xs) * 256 + get_or xs i d
next_byte i xs d within =
    let next : i + 1 ≡ suc i = omega arith in
    ap (λ n. big_endian (take n xs)) next
    ∙ ap big_endian (take-suc xs i d within)
    ∙ big_endian-append (take i xs) (get_or xs i d ∷ [])
    ∙ grind arith

-- the bits of a byte that is not whole are its first bits
pub last_byte : (n : ℕ) (xs : List ℕ) (d : ℕ) → AreBytes xs → n ≤ 8 * length xs → 1 ≤ n % 8
    → first_bits n xs ≡ big_endian (take (n / 8) xs) * 2 ^ (n % 8) + get_or xs (n / 8) d / 2 ^ (8 - n % 8)
unfolding first_bits
last_byte n xs d bytes within some =
    let i : ℕ = n / 8 in
    let k : ℕ = 8 - n % 8 in
    let F : ℕ = big_endian (take i xs) in
    let b : ℕ = get_or xs i d in
    let there : i < length xs = omega (arith, within, some) in
    let split : 8 * length xs - n ≡ 8 * (length xs - (i + 1)) + k = omega (arith, within, some) in
    let front : big_endian xs / 2 ^ (8 * (length xs - (i + 1))) ≡ F * 256 + b =
    by_bits (i + 1) (8 * (length xs - (i + 1))) xs bytes (omega (arith, there)) refl ∙ next_byte i xs d there in
    let eight : 8 ≡ n % 8 + k = omega (arith, some) in
    let power : 256 ≡ 2 ^ (n % 8) * 2 ^ k = ap (λ m. 2 ^ m) eight ∙ pow-add 2 (n % 8) k in
    let product : F * 256 ≡ F * 2 ^ (n % 8) * 2 ^ k = ap (λ m. F * m) power ∙ sym (mul_assoc F (2 ^ (n % 8)) (2 ^ k)) in
    ap (λ m. big_endian xs / 2 ^ m) split
    ∙ ap (λ m. big_endian xs / m) (pow-add 2 (8 * (length xs - (i + 1))) k)
    ∙ sym (div-div-eq-div-mul (big_endian xs) (2 ^ (8 * (length xs - (i + 1)))) (2 ^ k))
    ∙ ap (λ m. m / 2 ^ k) front
    ∙ ap (λ m. (m + b) / 2 ^ k) product
    ∙ mul-add-div_right (pow_pos k) (F * 2 ^ (n % 8)) b

-- what has the same first bits has the same whole bytes
pub same_whole_bytes : (n : ℕ) (xs ys : List ℕ) → AreBytes xs → AreBytes ys → length xs ≡ length ys → n ≤ 8 * length xs
    → first_bits n xs ≡ first_bits n ys → take (n / 8) xs ≡ take (n / 8) ys
same_whole_bytes n xs ys bx by len within same =
    let numbers : big_endian (take (n / 8) xs) ≡ big_endian (take (n / 8) ys) =
    sym (whole_bytes n xs bx within) ∙ ap (λ b. b / 2 ^ (n % 8)) same ∙ whole_bytes n ys by (omega (arith, within, len)) in
    let lx = length-take-le (n / 8) xs (omega (arith, within)) in
    let ly = length-take-le (n / 8) ys (omega (arith, within, len)) in
    big_endian_one_to_one (take (n / 8) xs) (take (n / 8) ys) (All-take (λ b. b < 256) (n / 8) xs bx) (All-take (λ b. b < 256) (n / 8) ys by) (lx ∙ sym ly) numbers

-- what has the same whole bytes, and no byte that is not whole, has the same first bits
pub same_bytes : (n : ℕ) (xs ys : List ℕ) → AreBytes xs → AreBytes ys → length xs ≡ length ys → n ≤ 8 * length xs
    → n % 8 ≡ 0 → take (n / 8) xs ≡ take (n / 8) ys → first_bits n xs ≡ first_bits n ys
same_bytes n xs ys bx by len within none same =
    let one : (m : ℕ) → m / 2 ^ (n % 8) ≡ m = λ m. ap (λ k. m / 2 ^ k) none ∙ div-one m in
    sym (one (first_bits n xs)) ∙ whole_bytes n xs bx within ∙ ap big_endian same
    ∙ sym (whole_bytes n ys by (omega (arith, within, len))) ∙ one (first_bits n ys)

-- what has the same whole bytes has the same first bits exactly where it has those of the next byte
pub same_bits : (n : ℕ) (xs ys : List ℕ) (d : ℕ) → AreBytes xs → AreBytes ys → length xs ≡ length ys → n ≤ 8 * length xs
    → 1 ≤ n % 8 → take (n / 8) xs ≡ take (n / 8) ys
    → (first_bits n xs ≡ first_bits n ys) ↔ (get_or xs (n / 8) d / 2 ^ (8 - n % 8) ≡ get_or ys (n / 8) d / 2 ^ (8 - n % 8))
same_bits n xs ys d bx by len within some same =
    let ex = last_byte n xs d bx within some in
    let ey = last_byte n ys d by (omega (arith, within, len)) some in
    let fronts : big_endian (take (n / 8) xs) * 2 ^ (n % 8) ≡ big_endian (take (n / 8) ys) * 2 ^ (n % 8) = ap (λ l. big_endian l * 2 ^ (n % 8)) same in
    (λ e. omega (arith, ex, ey, fronts, e), λ e. omega (arith, ex, ey, fronts, e))

-- what a test tells, as a fact for each answer
told : (b : Bool) (P : Type 0) → Decides b P → MatchBool b P (¬ P)
told true P exactly = exactly.0 refl
told false P exactly = λ fact. let e : false ≡ true = exactly.1 fact in absurd cc

-- a test of two numbers tells a fact that holds exactly where they are one
pub matched : (P : Type 0) (a b : ℕ) → P ↔ (a ≡ b) → MatchBool (nat_eq a b) P (¬ P)
matched P a b same =
    let test : Decides (nat_eq a b) (a ≡ b) = Decides-eqb a b in
    told (nat_eq a b) P (λ yes. same.1 (test.0 yes), λ fact. test.1 (same.0 fact))
