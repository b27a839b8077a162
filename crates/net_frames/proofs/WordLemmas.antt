-- What a word written in place changes, and what it leaves.
use Rattle.std.proofs.Common.{◌≡◌, ◌≢◌, ℕ, zero, suc, ◌+◌, ◌/◌, ◌%◌, ◌<◌, ◌≤◌, ◌⊎◌, inl, inr, List, [], ◌∷◌, length, set, refl, ◌∙◌, arith, length-set}
use Rattle.std.proofs.lemmas.List.{get_or-set_same, get_or-set_other}
use Rattle.std.proofs.lemmas.List.Elements.{All-tail}
use Rattle.std.specs.Prelude.{slice_index}
use Rattle.wire_base.specs.Numbers.{AreBytes}
use Rattle.net_frames.specs.Words.{word, with_word}

pub length-with_word : (bytes : List ℕ) (i number : ℕ) → length (with_word bytes i number) ≡ length bytes
unfolding with_word
length-with_word bytes i number = length-set (set bytes i (number / 256)) (i + 1) (number % 256) ∙ length-set bytes i (number / 256)

pub byte_elsewhere : (bytes : List ℕ) (i number k : ℕ) → k ≢ i → k ≢ i + 1 →
    slice_index (with_word bytes i number) k ≡ slice_index bytes k
unfolding with_word
byte_elsewhere bytes i number k p q =
    get_or-set_other (set bytes i (number / 256)) (i + 1) k (number % 256) 0 q ∙ get_or-set_other bytes i k (number / 256) 0 p

pub byte_high : (bytes : List ℕ) (i number : ℕ) → i + 2 ≤ length bytes → slice_index (with_word bytes i number) i ≡ number / 256
unfolding with_word
byte_high bytes i number room =
    get_or-set_other (set bytes i (number / 256)) (i + 1) i (number % 256) 0 (omega arith)
    ∙ get_or-set_same bytes i (number / 256) 0 (omega arith)

pub byte_low : (bytes : List ℕ) (i number : ℕ) → i + 2 ≤ length bytes → slice_index (with_word bytes i number) (i + 1) ≡ number % 256
unfolding with_word
byte_low bytes i number room =
    get_or-set_same (set bytes i (number / 256)) (i + 1) (number % 256) 0 (omega (arith, length-set bytes i (number / 256)))

-- a word below or above it stays
pub word_elsewhere : (bytes : List ℕ) (i number j : ℕ) → (j + 2 ≤ i) ⊎ (i + 2 ≤ j) → word (with_word bytes i number) j ≡ word bytes j
unfolding word
word_elsewhere bytes i number j (inl below) =
    let high : slice_index (with_word bytes i number) j ≡ slice_index bytes j = byte_elsewhere bytes i number j (omega arith) (omega arith) in
    let low : slice_index (with_word bytes i number) (j + 1) ≡ slice_index bytes (j + 1) = byte_elsewhere bytes i number (j + 1) (omega arith) (omega arith) in
    rw (high, low) refl
word_elsewhere bytes i number j (inr above) =
    let high : slice_index (with_word bytes i number) j ≡ slice_index bytes j = byte_elsewhere bytes i number j (omega arith) (omega arith) in
    let low : slice_index (with_word bytes i number) (j + 1) ≡ slice_index bytes (j + 1) = byte_elsewhere bytes i number (j + 1) (omega arith) (omega arith) in
    rw (high, low) refl

pub word_written : (bytes : List ℕ) (i number : ℕ) → i + 2 ≤ length bytes → word (with_word bytes i number) i ≡ number
unfolding word
word_written bytes i number room = omega (arith, byte_high bytes i number room, byte_low bytes i number room)

pub byte_below : (bytes : List ℕ) (i : ℕ) → AreBytes bytes → slice_index bytes i < 256
byte_below [] i are = omega arith
byte_below (x ∷ xs) zero are = are 0 0 (omega arith)
byte_below (x ∷ xs) (suc i) are = byte_below xs i (All-tail (λ byte. byte < 256) x xs are)

pub word_below : (bytes : List ℕ) (i : ℕ) → AreBytes bytes → word bytes i < 65536
unfolding word
word_below bytes i are = omega (arith, byte_below bytes i are, byte_below bytes (i + 1) are)

-- its upper byte
pub word_high : (bytes : List ℕ) (i : ℕ) → AreBytes bytes → word bytes i / 256 ≡ slice_index bytes i
unfolding word
word_high bytes i are = omega (arith, byte_below bytes i are, byte_below bytes (i + 1) are)

-- its lower byte
pub word_low : (bytes : List ℕ) (i : ℕ) → AreBytes bytes → word bytes i % 256 ≡ slice_index bytes (i + 1)
unfolding word
word_low bytes i are = omega (arith, byte_below bytes i are, byte_below bytes (i + 1) are)

-- two lists with the same two bytes have the same word
pub word_across : (bytes others : List ℕ) (i j : ℕ) → slice_index others j ≡ slice_index bytes i →
    slice_index others (j + 1) ≡ slice_index bytes (i + 1) → word others j ≡ word bytes i
unfolding word
word_across bytes others i j high low = rw (high, low) refl

pub word_same : (bytes others : List ℕ) (i : ℕ) → slice_index others i ≡ slice_index bytes i →
    slice_index others (i + 1) ≡ slice_index bytes (i + 1) → word others i ≡ word bytes i
word_same bytes others i high low = word_across bytes others i i high low
