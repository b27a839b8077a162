-- Bytes that are moved as a whole: what stood from byte m on stands from byte n on, and says the same there.
use Rattle.std.proofs.Common.{◌≡◌, ℕ, ◌+◌, ◌-◌, ◌≤◌, Bool, true, false, cond, List, ◌++◌, length, get_or, take, drop, refl, ap, sym, ◌∙◌, arith, length-append, length-drop}
use Rattle.std.proofs.lemmas.Bool.Decides.{nat_tests}
use Rattle.std.proofs.lemmas.List.{get_or-drop, drop-drop}
use Rattle.std.proofs.Math.Seq.{drop-append-add}
use Rattle.std.specs.Prelude.{slice_index, slice_range, nat_le}
use Rattle.net_frames.specs.Words.{word}
use Rattle.net_frames.specs.Layouts.{is_tag, network_at, header_length, is_ipv4, network_of, is_first, checked_of}
use Rattle.net_frames.specs.Right.{EndsAt, segment_sum, HasRightHeader, HasRightSegment}
use Rattle.net_frames.specs.declared.layouts.Network.TheVariants.{Ipv4}
use Rattle.net_frames.specs.declared.layouts.Checked.{Checked}
use Rattle.net_frames.specs.declared.layouts.Checked.TheVariants.{Tcp, Udp, Unchecked}
use Rattle.net_frames.proofs.WordLemmas.{word_across}
use Rattle.net_frames.proofs.LayoutLemmas.{found_header, IsShown, shown_header, IsChecked, checked_stands}

pub record IsMoved (bytes others : List ℕ) (m n : ℕ) : Type 0 where
  pub count : length others + m ≡ length bytes + n
  pub rest : (j : ℕ) → drop (n + j) others ≡ drop (m + j) bytes

-- behind other bytes in front
pub moved_behind : (bytes front : List ℕ) (m n : ℕ) → length front ≡ n → m ≤ length bytes → IsMoved bytes (front ++ drop m bytes) m n
moved_behind bytes front m n long whole = record {
  count = omega (arith, length-append front (drop m bytes), length-drop m bytes);
  rest = λ j. rw (← long, drop-append-add front (drop m bytes) j) (drop-drop j m bytes);
}

pub byte_moved : (bytes others : List ℕ) (m n p q : ℕ) → IsMoved bytes others m n → m ≤ p → q + m ≡ p + n →
    slice_index others q ≡ slice_index bytes p
byte_moved bytes others m n p q moved behind there =
    let old : m + (p - m) + 0 ≡ p = omega arith in
    let new : n + (p - m) + 0 ≡ q = omega arith in
    ap (slice_index others) (sym new) ∙ sym (get_or-drop (n + (p - m)) others 0 0) ∙ ap (λ xs. get_or xs 0 0) (moved.rest (p - m))
    ∙ get_or-drop (m + (p - m)) bytes 0 0 ∙ ap (slice_index bytes) old

pub word_moved : (bytes others : List ℕ) (m n p q : ℕ) → IsMoved bytes others m n → m ≤ p → q + m ≡ p + n → word others q ≡ word bytes p
word_moved bytes others m n p q moved behind there =
    word_across bytes others p q (byte_moved bytes others m n p q moved behind there)
    (byte_moved bytes others m n (p + 1) (q + 1) moved (omega arith) (omega arith))

le_moved : (a b c d m n : ℕ) → c + m ≡ a + n → d + m ≡ b + n → nat_le c d ≡ nat_le a b
le_moved a b c d m n p q = grind (arith, nat_tests)

pub tag_moved : (bytes others : List ℕ) (m n p q : ℕ) → IsMoved bytes others m n → m ≤ p → q + m ≡ p + n → is_tag others q ≡ is_tag bytes p
unfolding is_tag
tag_moved bytes others m n p q moved behind there =
    rw (
      word_moved bytes others m n p q moved behind there,
      le_moved (p + 4) (length bytes) (q + 4) (length others) m n (omega arith) moved.count,
    ) refl

pub range_moved : (bytes others : List ℕ) (m n from to at end : ℕ) → IsMoved bytes others m n → m ≤ from → at + m ≡ from + n → end + m ≡ to + n →
    slice_range others at end ≡ slice_range bytes from to
range_moved bytes others m n from to at end moved behind begins ends =
    let old : m + (from - m) ≡ from = omega arith in
    let new : n + (from - m) ≡ at = omega arith in
    let count : end - at ≡ to - from = omega arith in
    ap (λ xs. take (end - at) xs) (ap (λ k. drop k others) (sym new) ∙ moved.rest (from - m) ∙ ap (λ k. drop k bytes) old)
    ∙ ap (λ k. take k (drop from bytes)) count

shown_from : (bytes : List ℕ) (at : ℕ) → IsShown bytes at → is_ipv4 bytes at ≡ true
unfolding is_ipv4
shown_from bytes at shown =
    let kind = shown.kind in
    let version = shown.version in
    let long = shown.long in
    let captured = shown.captured in
    grind (arith, nat_tests)

header_length_across : (bytes others : List ℕ) (p q : ℕ) → slice_index others q ≡ slice_index bytes p → header_length others q ≡ header_length bytes p
unfolding header_length
header_length_across bytes others p q same = rw same refl

-- the header is found where it was moved to
pub network_moved : (bytes others : List ℕ) (m n at transport next behind : ℕ) → IsMoved bytes others m n → network_of bytes ≡ Ipv4 at transport →
    m + 2 ≤ at → next + m ≡ at + n → behind + m ≡ transport + n → network_at others ≡ next → network_of others ≡ Ipv4 next behind
unfolding network_of
network_moved bytes others m n at transport next behind moved found far there ends begins =
    let header = found_header bytes at transport found in
    let old = shown_header bytes at header.shown in
    let first : slice_index others next ≡ slice_index bytes at = byte_moved bytes others m n at next moved (omega arith) there in
    let kind : word others (next - 2) ≡ word bytes (at - 2) = word_moved bytes others m n (at - 2) (next - 2) moved (omega arith) (omega arith) in
    let long : header_length others next ≡ header_length bytes at = header_length_across bytes others at next first in
    let shown : is_ipv4 others next ≡ true = shown_from others next (record {
      kind = kind ∙ old.kind;
      version = rw first old.version;
      long = rw long old.long;
      captured = omega (arith, long, old.captured, moved.count);
    }) in
    let last : next + header_length others next ≡ behind = omega (arith, long, header.ends) in
    rw (begins, shown, last) refl

-- a transport checksum that was moved
abbrev pub IsShifted : Checked → Checked → ℕ → ℕ → Type 0
IsShifted (Tcp p) (Tcp q) m n = q + m ≡ p + n
IsShifted (Tcp p) (Udp q) m n = ⊥
IsShifted (Tcp p) Unchecked m n = ⊥
IsShifted (Udp p) (Tcp q) m n = ⊥
IsShifted (Udp p) (Udp q) m n = q + m ≡ p + n
IsShifted (Udp p) Unchecked m n = ⊥
IsShifted Unchecked (Tcp q) m n = ⊥
IsShifted Unchecked (Udp q) m n = ⊥
IsShifted Unchecked Unchecked m n = Unit {0}

shifted_chosen : (tcp udp : Bool) (transport behind m n : ℕ) → behind + m ≡ transport + n →
    IsShifted (cond tcp (Tcp (transport + 16)) (cond udp (Udp (transport + 6)) Unchecked))
    (cond tcp (Tcp (behind + 16)) (cond udp (Udp (behind + 6)) Unchecked)) m n
shifted_chosen true udp transport behind m n there = omega arith
shifted_chosen false true transport behind m n there = omega arith
shifted_chosen false false transport behind m n there = tt

checked_moved : (bytes others : List ℕ) (m n at transport next behind : ℕ) → IsMoved bytes others m n → m ≤ at → next + m ≡ at + n →
    behind + m ≡ transport + n → IsShifted (checked_of bytes at transport) (checked_of others next behind) m n
unfolding checked_of is_first
checked_moved bytes others m n at transport next behind moved far there ends =
    rw (
      word_moved bytes others m n (at + 6) (next + 6) moved (omega arith) (omega arith),
      byte_moved bytes others m n (at + 9) (next + 9) moved (omega arith) (omega arith),
      le_moved (transport + 18) (length bytes) (behind + 18) (length others) m n (omega arith) moved.count,
      le_moved (transport + 8) (length bytes) (behind + 8) (length others) m n (omega arith) moved.count,
    )
    (shifted_chosen _ _ transport behind m n ends)

ends_moved : (old new : Checked) (bytes others : List ℕ) (m n at transport end next behind last count : ℕ) → IsMoved bytes others m n → IsShifted old new m n →
    IsChecked old transport count → m ≤ at → at ≤ transport → next + m ≡ at + n → behind + m ≡ transport + n → last + m ≡ end + n →
    EndsAt old bytes at transport end → EndsAt new others next behind last
ends_moved (Tcp p) (Tcp q) bytes others m n at transport end next behind last count moved shifted stands far low there ends whole was =
    (omega (arith, was.0, word_moved bytes others m n (at + 2) (next + 2) moved (omega arith) (omega arith)), omega (arith, was.1))
ends_moved (Udp p) (Udp q) bytes others m n at transport end next behind last count moved shifted stands far low there ends whole was = (
  omega (arith, was.0, word_moved bytes others m n (transport + 4) (behind + 4) moved (omega arith) (omega arith)),
  omega (arith, was.1),
  λ none. was.2 (sym (word_moved bytes others m n p q moved (omega (arith, stands.0)) shifted) ∙ none),
)
ends_moved (Tcp p) (Udp q) bytes others m n at transport end next behind last count moved shifted stands far low there ends whole was = absurd shifted
ends_moved (Tcp p) Unchecked bytes others m n at transport end next behind last count moved shifted stands far low there ends whole was = absurd shifted
ends_moved (Udp p) (Tcp q) bytes others m n at transport end next behind last count moved shifted stands far low there ends whole was = absurd shifted
ends_moved (Udp p) Unchecked bytes others m n at transport end next behind last count moved shifted stands far low there ends whole was = absurd shifted
ends_moved Unchecked new bytes others m n at transport end next behind last count moved shifted stands far low there ends whole was = absurd was

ends_beyond : (checked : Checked) (bytes : List ℕ) (at transport end count : ℕ) → IsChecked checked transport count →
    EndsAt checked bytes at transport end → transport ≤ end
ends_beyond (Tcp place) bytes at transport end count stands ends = omega (arith, stands.0, ends.1)
ends_beyond (Udp place) bytes at transport end count stands ends = omega (arith, stands.0, ends.1)
ends_beyond Unchecked bytes at transport end count stands ends = absurd ends

pub header_moved : (bytes others : List ℕ) (m n next : ℕ) → IsMoved bytes others m n → (was : HasRightHeader bytes) → m + 2 ≤ was.at →
    next + m ≡ was.at + n → network_at others ≡ next → HasRightHeader others
header_moved bytes others m n next moved was far there begins =
    let header = found_header bytes was.at was.transport was.found in
    let behind = was.transport + n - m in
    let ends : behind + m ≡ was.transport + n = omega (arith, header.long) in
    record {
      at = next;
      transport = behind;
      found = network_moved bytes others m n was.at was.transport next behind moved was.found far there ends begins;
      right = rw (range_moved bytes others m n was.at was.transport next behind moved (omega arith) there ends) was.right;
    }

pub segment_moved : (bytes others : List ℕ) (m n next : ℕ) → IsMoved bytes others m n → (was : HasRightSegment bytes) → m + 2 ≤ was.at →
    next + m ≡ was.at + n → network_at others ≡ next → HasRightSegment others
unfolding segment_sum
segment_moved bytes others m n next moved was far there begins =
    let header = found_header bytes was.at was.transport was.found in
    let behind = was.transport + n - m in
    let last = was.end + n - m in
    let ends : behind + m ≡ was.transport + n = omega (arith, header.long) in
    let beyond : was.transport ≤ was.end =
    ends_beyond (checked_of bytes was.at was.transport) bytes was.at was.transport was.end (length bytes) (checked_stands bytes was.at was.transport) was.ends in
    let whole : last + m ≡ was.end + n = omega (arith, header.long) in
    let count : last - behind ≡ was.end - was.transport = omega arith in
    record {
      at = next;
      transport = behind;
      end = last;
      found = network_moved bytes others m n was.at was.transport next behind moved was.found far there ends begins;
      unfragmented = rw (word_moved bytes others m n (was.at + 6) (next + 6) moved (omega arith) (omega arith)) was.unfragmented;
      ends = ends_moved (checked_of bytes was.at was.transport) (checked_of others next behind) bytes others m n was.at was.transport was.end next behind last
          (length bytes) moved (checked_moved bytes others m n was.at was.transport next behind moved (omega arith) there ends)
          (checked_stands bytes was.at was.transport) (omega arith) (omega (arith, header.long)) there ends whole was.ends;
      captured = omega (arith, was.captured, moved.count);
      right = rw (
        range_moved bytes others m n (was.at + 12) (was.at + 20) (next + 12) (next + 20) moved (omega arith) (omega arith) (omega arith),
        byte_moved bytes others m n (was.at + 9) (next + 9) moved (omega arith) (omega arith),
        range_moved bytes others m n was.transport was.end behind last moved (omega (arith, header.long)) ends whole,
        count,
      ) was.right;
    }
