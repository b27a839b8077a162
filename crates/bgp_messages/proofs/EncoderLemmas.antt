-- What encoders need: one piece is no longer than all, and a spelling put together from its parts.
use Rattle.std.proofs.Common.{◌≡◌, ℕ, zero, suc, ◌+◌, ◌<◌, ◌≤◌, List, [], ◌∷◌, ◌++◌, length, get_or, replicate, refl, ap, arith}
use Rattle.std.specs.List.{flat_map}
use Rattle.std.proofs.lemmas.List.{length-append}
use Rattle.bgp_messages.specs.declared.messages.Message.{Message}
use Rattle.wire_base.specs.Numbers.{two}
use Rattle.bgp_messages.specs.Messages.{type_of, content, spelling}

pub piece_le : {X : Type 0} (f : X → List ℕ) (xs : List X) (i : ℕ) (x : X) → i < length xs → x ≡ get_or xs i x → length (f x) ≤ length (flat_map f xs)
piece_le f [] i x lt e = absurd (omega arith)
piece_le f (y ∷ ys) zero x lt e = omega (arith, ap (λ z. length (f z)) e, length-append (f y) (flat_map f ys))
piece_le f (y ∷ ys) (suc i) x lt e = omega (arith, piece_le f ys i x (omega arith) e, length-append (f y) (flat_map f ys))

pub parts_spelled : (m : Message) (marker lengths kinds whole parts : List ℕ) (kind : ℕ)
    → marker ≡ replicate 16 255 → lengths ≡ marker ++ two (19 + length parts) → kinds ≡ lengths ++ kind ∷ [] → kind ≡ type_of m
    → whole ≡ kinds ++ parts → parts ≡ content m → whole ≡ spelling m
unfolding spelling
parts_spelled m marker lengths kinds whole parts kind is_marker is_lengths is_kinds is_kind is_whole is_parts =
    rw (is_whole, is_kinds, is_lengths, is_marker, is_kind, is_parts) refl
