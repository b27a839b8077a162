-- Pieces of bytes as they are read: each number from its cells.
use Rattle.std.proofs.Common.{◌≡◌, ℕ, suc, ◌+◌, ◌*◌, ◌/◌, ◌%◌, ◌<◌, ◌≤◌, List, [], ◌∷◌, ◌++◌, length, get_or, take, drop, refl, sym, ap, arith}
use Rattle.wire_base.specs.Numbers.{big_endian, two, three}
use Rattle.sfp_attribute.specs.Refusals.{Splits}

-- each is below 256
abbrev pub Small : List ℕ → Type 0
Small bytes = (i : ℕ) → get_or bytes i 0 < 256

pub small_behind : (front behind : List ℕ) → Small (front ++ behind) → Small behind
small_behind [] behind small = small
small_behind (x ∷ front) behind small = small_behind front behind (λ i. small (suc i))

-- the first two cells are a number's bytes
pub front_two : (bytes : List ℕ) (n : ℕ) → Small bytes → 2 ≤ length bytes → n ≡ 256 * get_or bytes 0 0 + get_or bytes 1 0 → bytes ≡ two n ++ drop 2 bytes
front_two (a ∷ b ∷ more) n small there is =
    let fits_a : a < 256 = small 0 in
    let fits_b : b < 256 = small 1 in
    let is_a : a ≡ n / 256 = omega (arith, is) in
    let is_b : b ≡ n % 256 = omega (arith, is) in
    cc
front_two _ n small there is = absurd (omega (arith, there))

pub cut_spelled : (bytes value rest : List ℕ) → Small bytes → 3 ≤ length bytes → length value ≡ 256 * get_or bytes 1 0 + get_or bytes 2 0
    → drop 3 bytes ≡ value ++ rest → Splits bytes (get_or bytes 0 0) value rest
cut_spelled (k ∷ s ∷ t ∷ more) value rest small there is_size behind =
    let fits_s : s < 256 = small 1 in
    let fits_t : t < 256 = small 2 in
    let is_s : s ≡ length value / 256 = omega (arith, is_size) in
    let is_t : t ≡ length value % 256 = omega (arith, is_size) in
    let is_more : more ≡ value ++ rest = behind in
    record { parts = cc; size = omega (arith, is_size) }
cut_spelled _ value rest small there is_size behind = absurd (omega (arith, there))

pub route_spelled : (route rd : List ℕ) (spi : ℕ) → Small route → length route ≡ 11 → rd ≡ take 8 route → spi ≡ big_endian (take 3 (drop 8 route)) → rd ++ three spi ≡ route
route_spelled (a ∷ b ∷ c ∷ d ∷ e ∷ f ∷ g ∷ h ∷ i ∷ j ∷ k ∷ []) rd spi small size is_rd is_spi =
    let fits_i : i < 256 = small 8 in
    let fits_j : j < 256 = small 9 in
    let fits_k : k < 256 = small 10 in
    let number : spi ≡ i * 65536 + (j * 256 + k) = omega (arith, is_spi) in
    let is_i : i ≡ spi / 65536 = omega (arith, number) in
    let is_j : j ≡ spi % 65536 / 256 = omega (arith, number) in
    let is_k : k ≡ spi % 65536 % 256 = omega (arith, number) in
    let front : rd ≡ a ∷ b ∷ c ∷ d ∷ e ∷ f ∷ g ∷ h ∷ [] = is_rd in
    rw (front, sym is_i, sym is_j, sym is_k) refl
route_spelled _ rd spi small size is_rd is_spi = absurd (omega (arith, size))

-- an association's value is its type, its RD and its SPI
pub association_spelled : (value rd : List ℕ) (spi : ℕ) → Small value → length value ≡ 12 → rd ≡ take 8 (drop 1 value) → spi ≡ big_endian (take 3 (drop 8 (drop 1 value)))
    → get_or value 0 0 ∷ rd ++ three spi ≡ value
association_spelled (t ∷ route) rd spi small size is_rd is_spi =
    ap (λ (l : List ℕ). t ∷ l) (route_spelled route rd spi (λ i. small (suc i)) (omega (arith, size)) is_rd is_spi)
association_spelled [] rd spi small size is_rd is_spi = absurd (omega (arith, size))

-- some bytes are the first, and what follows
pub first_spelled : (bytes : List ℕ) → 1 ≤ length bytes → bytes ≡ get_or bytes 0 0 ∷ drop 1 bytes
first_spelled (b ∷ bytes) there = refl
first_spelled [] there = absurd (omega (arith, there))
