-- What is left of bytes whose front was a message.
use Rattle.std.proofs.Common.{◌≡◌, ℕ, List, ◌++◌, length, drop, sym, ap, ◌∙◌, arith}
use Rattle.std.proofs.lemmas.List.{take-append-drop, length-take}
use Rattle.bgp_messages.specs.declared.messages.Message.{Message}
use Rattle.bgp_messages.specs.Messages.{spelling}
use Rattle.bgp_messages.specs.MessageSteps.{Begins}

pub rest_after : (bytes : List ℕ) (len : ℕ) (m : Message) → Begins bytes m len → bytes ≡ spelling m ++ drop len bytes
rest_after bytes len m b = sym (take-append-drop len bytes) ∙ ap (λ (t : List ℕ). t ++ drop len bytes) b.message.spelled

pub length_begun : (bytes : List ℕ) (len : ℕ) (m : Message) → Begins bytes m len → length (spelling m) ≡ len
length_begun bytes len m b = omega (arith, ap length b.message.spelled, length-take len bytes, b.there)
