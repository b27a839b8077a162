-- Pieces of bytes as they are read: each number from its cells.
use Rattle.std.proofs.Common.{◌≡◌, ℕ, suc, ◌+◌, ◌*◌, ◌/◌, ◌%◌, ◌==◌, ◌<◌, ◌≤◌, true, List, [], ◌∷◌, ◌++◌, length, get_or, take, drop, refl, sym, ap, subst, ◌∙◌, append_assoc, arith}
use Rattle.wire_base.specs.Numbers.{big_endian, two, three}
use Rattle.bgp_update.specs.Refusals.{Splits, Opens}
use Rattle.bgp_update.specs.Pieces.{SplitsNlri}

-- each is below 256
abbrev pub Small : List ℕ → Type 0
Small bytes = (i : ℕ) → get_or bytes i 0 < 256

pub small_behind : (front behind : List ℕ) → Small (front ++ behind) → Small behind
small_behind [] behind small = small
small_behind (x ∷ front) behind small = small_behind front behind (λ i. small (suc i))

-- the first two cells are a number's bytes
pub front_two : (bytes : List ℕ) (n : ℕ) → Small bytes → 2 ≤ length bytes → n ≡ 256 * get_or bytes 0 0 + get_or bytes 1 0 → bytes ≡ two n ++ drop 2 bytes
front_two (a ∷ b ∷ more) n small there is =
    let fits_a : a < 256 = small 0 in
    let fits_b : b < 256 = small 1 in
    let is_a : a ≡ n / 256 = omega (arith, is) in
    let is_b : b ≡ n % 256 = omega (arith, is) in
    cc
front_two _ n small there is = absurd (omega (arith, there))

pub cut_spelled : (bytes body rest : List ℕ) (kind : ℕ) → Small bytes → 4 ≤ length bytes → kind ≡ 256 * get_or bytes 0 0 + get_or bytes 1 0
    → length body ≡ 256 * get_or bytes 2 0 + get_or bytes 3 0 → drop 4 bytes ≡ body ++ rest → SplitsNlri bytes kind body rest
cut_spelled (a ∷ b ∷ s ∷ t ∷ more) body rest kind small there is_kind is_size behind =
    let fits_a : a < 256 = small 0 in
    let fits_b : b < 256 = small 1 in
    let fits_s : s < 256 = small 2 in
    let fits_t : t < 256 = small 3 in
    let is_a : a ≡ kind / 256 = omega (arith, is_kind) in
    let is_b : b ≡ kind % 256 = omega (arith, is_kind) in
    let is_s : s ≡ length body / 256 = omega (arith, is_size) in
    let is_t : t ≡ length body % 256 = omega (arith, is_size) in
    let is_more : more ≡ body ++ rest = behind in
    record {
      parts = cc;
      kind_fits = omega (arith, is_kind);
      size_fits = omega (arith, is_size);
    }
cut_spelled _ body rest kind small there is_kind is_size behind = absurd (omega (arith, there))

pub long_spelled : (bytes value rest : List ℕ) → Small bytes → 4 ≤ length bytes → ((get_or bytes 0 0 / 16) % 2 == 1) ≡ true
    → length value ≡ 256 * get_or bytes 2 0 + get_or bytes 3 0 → drop 4 bytes ≡ value ++ rest → Splits bytes (get_or bytes 0 0) (get_or bytes 1 0) value rest
long_spelled (a ∷ b ∷ s ∷ t ∷ more) value rest small there long is_size behind =
    let fits_s : s < 256 = small 2 in
    let fits_t : t < 256 = small 3 in
    let is_s : s ≡ length value / 256 = omega (arith, is_size) in
    let is_t : t ≡ length value % 256 = omega (arith, is_size) in
    let is_more : more ≡ value ++ rest = behind in
    let whole : a ∷ b ∷ s ∷ t ∷ more ≡ a ∷ b ∷ two (length value) ++ value ++ rest = cc in
    record {
      parts = rw long whole;
      size = rw long (omega (arith, is_size));
    }
long_spelled _ value rest small there long is_size behind = absurd (omega (arith, there))

pub opening_spelled : (bytes withdrawn behind : List ℕ) (size : ℕ) → Small bytes → 2 ≤ length bytes → 2 ≤ length behind
    → length withdrawn ≡ 256 * get_or bytes 0 0 + get_or bytes 1 0 → drop 2 bytes ≡ withdrawn ++ behind → size ≡ 256 * get_or behind 0 0 + get_or behind 1 0
    → Opens bytes withdrawn size (drop 2 behind)
opening_spelled (a ∷ b ∷ more) withdrawn behind size small there room is_length split is_size =
    let fits_a : a < 256 = small 0 in
    let fits_b : b < 256 = small 1 in
    let later : Small more = λ i. small (suc (suc i)) in
    let is_more : more ≡ withdrawn ++ behind = split in
    let within : Small behind = small_behind withdrawn behind (subst Small is_more later) in
    let second : behind ≡ two size ++ drop 2 behind = front_two behind size within room is_size in
    let fits_c : get_or behind 0 0 < 256 = within 0 in
    let fits_d : get_or behind 1 0 < 256 = within 1 in
    let is_a : a ≡ length withdrawn / 256 = omega (arith, is_length) in
    let is_b : b ≡ length withdrawn % 256 = omega (arith, is_length) in
    let tails : more ≡ (withdrawn ++ two size) ++ drop 2 behind = is_more ∙ ap (λ (l : List ℕ). withdrawn ++ l) second ∙ sym (append_assoc withdrawn (two size) (drop 2 behind)) in
    record {
      parts = cc;
      withdrawn_fits = omega (arith, is_length);
      size_fits = omega (arith, is_size, fits_c, fits_d);
    }
opening_spelled _ withdrawn behind size small there room is_length split is_size = absurd (omega (arith, there))

pub sfir_spelled : (body rd : List ℕ) (kind : ℕ) → Small body → length body ≡ 10 → rd ≡ take 8 body → kind ≡ 256 * get_or body 8 0 + get_or body 9 0 → rd ++ two kind ≡ body
sfir_spelled (a ∷ b ∷ c ∷ d ∷ e ∷ f ∷ g ∷ h ∷ i ∷ j ∷ []) rd kind small size is_rd is_kind =
    let fits_i : i < 256 = small 8 in
    let fits_j : j < 256 = small 9 in
    let is_i : i ≡ kind / 256 = omega (arith, is_kind) in
    let is_j : j ≡ kind % 256 = omega (arith, is_kind) in
    let front : rd ≡ a ∷ b ∷ c ∷ d ∷ e ∷ f ∷ g ∷ h ∷ [] = is_rd in
    rw (front, sym is_i, sym is_j) refl
sfir_spelled _ rd kind small size is_rd is_kind = absurd (omega (arith, size))

pub sfpr_spelled : (body rd : List ℕ) (spi : ℕ) → Small body → length body ≡ 11 → rd ≡ take 8 body → spi ≡ big_endian (take 3 (drop 8 body)) → rd ++ three spi ≡ body
sfpr_spelled (a ∷ b ∷ c ∷ d ∷ e ∷ f ∷ g ∷ h ∷ i ∷ j ∷ k ∷ []) rd spi small size is_rd is_spi =
    let fits_i : i < 256 = small 8 in
    let fits_j : j < 256 = small 9 in
    let fits_k : k < 256 = small 10 in
    let number : spi ≡ i * 65536 + (j * 256 + k) = omega (arith, is_spi) in
    let is_i : i ≡ spi / 65536 = omega (arith, number) in
    let is_j : j ≡ spi % 65536 / 256 = omega (arith, number) in
    let is_k : k ≡ spi % 65536 % 256 = omega (arith, number) in
    let front : rd ≡ a ∷ b ∷ c ∷ d ∷ e ∷ f ∷ g ∷ h ∷ [] = is_rd in
    rw (front, sym is_i, sym is_j, sym is_k) refl
sfpr_spelled _ rd spi small size is_rd is_spi = absurd (omega (arith, size))
