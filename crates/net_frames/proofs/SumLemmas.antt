-- The sum of the words of a part, after one of them is written.
use Rattle.std.proofs.Common.{◌≡◌, ℕ, zero, suc, ◌+◌, ◌-◌, ◌*◌, ◌/◌, ◌%◌, ◌<◌, ◌≤◌, List, [], ◌∷◌, length, get_or, set, drop, refl, subst, arith, add-one, length-take, length-drop}
use Rattle.std.proofs.lemmas.List.{drop-set-add, drop-set-lt, take-set-le, get_or-drop, get_or-take}
use Rattle.std.proofs.Math.Seq.{take-set-lt}
use Rattle.std.specs.Prelude.{slice_index, slice_range}
use Rattle.net_frames.specs.Words.{word, with_word}
use Rattle.net_frames.specs.Right.{words_sum}

-- a number of whole words
abbrev pub IsEven : ℕ → Type 0
IsEven zero = Unit {0}
IsEven (suc zero) = ⊥
IsEven (suc (suc n)) = IsEven n

-- with two cells written at an even place
cells_written : (bytes : List ℕ) (i high low : ℕ) → IsEven i → suc i < length bytes →
    words_sum (set (set bytes i high) (suc i) low) + (256 * get_or bytes i 0 + get_or bytes (suc i) 0)
    ≡ words_sum bytes + (256 * high + low)
cells_written [] i high low even room = absurd (omega arith)
cells_written (a ∷ []) i high low even room = absurd (omega arith)
cells_written (a ∷ b ∷ rest) zero high low even room = omega arith
cells_written (a ∷ b ∷ rest) (suc zero) high low even room = absurd even
cells_written (a ∷ b ∷ rest) (suc (suc i)) high low even room =
    omega (arith, cells_written rest i high low even (omega arith))

pub words_sum-with_word : (bytes : List ℕ) (i number : ℕ) → IsEven i → i + 2 ≤ length bytes →
    words_sum (with_word bytes i number) + word bytes i ≡ words_sum bytes + number
unfolding word with_word
words_sum-with_word bytes i number even room =
    let written = cells_written bytes i (number / 256) (number % 256) even (omega arith) in
    rw add-one (omega (arith, written))

-- a part that begins at `start`, with a word written k bytes into it
pub range-with_word : (bytes : List ℕ) (start k end number : ℕ) → start + k + 2 ≤ end →
    slice_range (with_word bytes (start + k) number) start end ≡ with_word (slice_range bytes start end) k number
unfolding with_word
range-with_word bytes start k end number inside =
    let low : start + k + 1 ≡ start + (k + 1) = omega arith in
    let first : k < end - start = omega arith in
    let second : k + 1 < end - start = omega arith in
    rw (
      low,
      drop-set-add start (set bytes (start + k) (number / 256)) (k + 1) (number % 256),
      drop-set-add start bytes k (number / 256),
      take-set-lt (end - start) (set (drop start bytes) k (number / 256)) (k + 1) (number % 256) second,
      take-set-lt (end - start) (drop start bytes) k (number / 256) first,
    ) refl

-- a part behind the word
pub range_behind : (bytes : List ℕ) (i start end number : ℕ) → i + 2 ≤ start →
    slice_range (with_word bytes i number) start end ≡ slice_range bytes start end
unfolding with_word
range_behind bytes i start end number behind =
    rw (drop-set-lt start (set bytes i (number / 256)) (i + 1) (number % 256) (omega arith), drop-set-lt start bytes i (number / 256) (omega arith)) refl

before_at : (bytes : List ℕ) (start k end number : ℕ) → end - start ≤ k →
    slice_range (with_word bytes (start + k) number) start end ≡ slice_range bytes start end
unfolding with_word
before_at bytes start k end number before =
    let low : start + k + 1 ≡ start + (k + 1) = omega arith in
    let next : end - start ≤ k + 1 = omega arith in
    rw (
      low,
      drop-set-add start (set bytes (start + k) (number / 256)) (k + 1) (number % 256),
      drop-set-add start bytes k (number / 256),
      take-set-le (end - start) (set (drop start bytes) k (number / 256)) (k + 1) (number % 256) next,
      take-set-le (end - start) (drop start bytes) k (number / 256) before,
    ) refl

-- a part before the word
pub range_before : (bytes : List ℕ) (i start end number : ℕ) → start ≤ end → end ≤ i →
    slice_range (with_word bytes i number) start end ≡ slice_range bytes start end
range_before bytes i start end number falls before =
    let there : start + (i - start) ≡ i = omega arith in
    subst (λ n. slice_range (with_word bytes n number) start end ≡ slice_range bytes start end) there
    (before_at bytes start (i - start) end number (omega arith))

-- the word k bytes into a part
pub word-range : (bytes : List ℕ) (start k end : ℕ) → start + k + 2 ≤ end → word (slice_range bytes start end) k ≡ word bytes (start + k)
unfolding word
word-range bytes start k end inside =
    let low : start + (k + 1) ≡ start + k + 1 = omega arith in
    rw (
      get_or-take (end - start) (drop start bytes) k 0 (omega arith),
      get_or-take (end - start) (drop start bytes) (k + 1) 0 (omega arith),
      get_or-drop start bytes k 0,
      get_or-drop start bytes (k + 1) 0,
      low,
    ) refl

-- the sum of a part, with a word written an even number of bytes into it
pub sum_written : (bytes : List ℕ) (i start k end number : ℕ) → i ≡ start + k → IsEven k → start + k + 2 ≤ end → end ≤ length bytes →
    words_sum (slice_range (with_word bytes i number) start end) + word bytes i ≡ words_sum (slice_range bytes start end) + number
sum_written bytes i start k end number there even inside captured =
    let long : length (slice_range bytes start end) ≡ end - start = omega (arith, length-take (end - start) (drop start bytes), length-drop start bytes) in
    rw (there, range-with_word bytes start k end number inside, ← word-range bytes start k end inside)
    (words_sum-with_word (slice_range bytes start end) k number even (omega arith))

-- words of which the first byte is above 0
pub words_above : (bytes : List ℕ) → 0 < slice_index bytes 0 → 0 < words_sum bytes
words_above [] above = absurd (omega arith)
words_above (a ∷ []) above = omega arith
words_above (a ∷ b ∷ rest) above = omega arith
