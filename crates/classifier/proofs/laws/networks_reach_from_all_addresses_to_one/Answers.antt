-- no byte is among the first 0 bits, and each is among all of them
use Rattle.std.proofs.Common.{◌≡◌, ℕ, ◌*◌, ◌/◌, List, length, take, refl, sym, ◌∙◌, arith}
use Rattle.std.proofs.lemmas.List.{take_all}
use Rattle.classifier.proofs.BitLemmas.{same_bytes, same_whole_bytes}
use Rattle.classifier.proofs.laws.networks_reach_from_all_addresses_to_one.Goals as goal

-- all whole bytes are all bytes
all_bytes : (xs : List ℕ) (n : ℕ) → n ≡ length xs → take (8 * n / 8) xs ≡ xs
all_bytes xs n e = take_all (8 * n / 8) xs (omega (arith, e))

pub returns-clause-all : goal.returns-clause-all
returns-clause-all c = λ xs ys bx by len. same_bytes 0 xs ys bx by len (omega arith) refl refl

pub returns-clause-one : goal.returns-clause-one
returns-clause-one c = λ xs ys bx by len same.
    sym (all_bytes xs (length xs) refl) ∙ same_whole_bytes (8 * length xs) xs ys bx by len (omega arith) same ∙ all_bytes ys (length xs) len
