-- A number is the same with more bytes behind it.
use Rattle.std.proofs.Common.{◌≡◌, ◌≤◌, ◌+◌, ℕ, Bool, true, false, List, ◌++◌, length, take, drop, sym, ap, ◌∙◌, arith, length-take-le}
use Rattle.std.proofs.lemmas.List.{take-append-drop, drop-append-le, length-drop}
use Rattle.byteorder.specs.Endian.{big_number, little_number}
use Rattle.byteorder.specs.Numbers.{big_from-append, little_from-append}
use Rattle.pcapng_io.specs.Numbers.{word_at}

pub word_more : (big : Bool) (at : ℕ) (bytes more : List ℕ) → at + 4 ≤ length bytes → word_at big at (bytes ++ more) ≡ word_at big at bytes
unfolding word_at
word_more big at bytes more there =
    elim big as (λ b. word_at b at (bytes ++ more) ≡ word_at b at bytes) [
      | true ↦ ap (big_number 4) (drop-append-le at bytes more (omega (arith, there))) ∙ big_from-append 4 (drop at bytes) more (omega (arith, there, length-drop at bytes))
      | false ↦ ap (little_number 4) (drop-append-le at bytes more (omega (arith, there))) ∙ little_from-append 4 (drop at bytes) more (omega (arith, there, length-drop at bytes))
    ]

-- a number stands in the first bytes as in all
pub word_front : (big : Bool) (at n : ℕ) (bytes : List ℕ) → at + 4 ≤ n → n ≤ length bytes → word_at big at (take n bytes) ≡ word_at big at bytes
word_front big at n bytes within there =
    sym (word_more big at (take n bytes) (drop n bytes) (omega (arith, within, length-take-le n bytes there)))
    ∙ ap (word_at big at) (take-append-drop n bytes)
