-- IPv4's header checksum stays right under each edit.
use Rattle.std.proofs.Common.{◌≡◌, ℕ, ◌+◌, ◌-◌, ◌*◌, ◌/◌, ◌%◌, ◌<◌, ◌≤◌, ◌⊎◌, inl, inr, Bool, true, false, cond, List, length, drop, refl, ◌∙◌, arith}
use Rattle.std.proofs.lemmas.List.{get_or-take, get_or-drop}
use Rattle.std.proofs.lemmas.List.Elements.{All-set}
use Rattle.std.specs.Prelude.{slice_index, slice_range}
use Rattle.wire_base.specs.Numbers.{AreBytes}
use Rattle.net_frames.specs.Words.{word, with_word}
use Rattle.net_frames.specs.Checksums.{adjust, reworded}
use Rattle.net_frames.specs.Layouts.{network_of, checked_of}
use Rattle.net_frames.specs.Edits.{marked, lowered, readdressed, rechecked}
use Rattle.net_frames.specs.Right.{IsRight, words_sum, HasRightHeader}
use Rattle.net_frames.specs.declared.contents.Side.{Side}
use Rattle.net_frames.specs.declared.contents.Side.TheVariants.{Source, Destination}
use Rattle.net_frames.specs.declared.edits.Address.{Address}
use Rattle.net_frames.specs.declared.layouts.Checked.{Checked}
use Rattle.net_frames.specs.declared.layouts.Checked.TheVariants.{Tcp, Udp, Unchecked}
use Rattle.net_frames.specs.declared.layouts.Network.TheVariants.{Ipv4}
use Rattle.net_frames.proofs.WordLemmas.{length-with_word, byte_elsewhere, byte_high, word_elsewhere, word_below, word_high}
use Rattle.net_frames.proofs.SumLemmas.{IsEven, range_before, sum_written, words_above}
use Rattle.net_frames.proofs.LayoutLemmas.{found_header, network_kept, IsChecked, checked_stands}
use Rattle.net_frames.proofs.RightLemmas.{adjust_below, right_kept}

-- the header at this place is right
pub record IsRightAt (bytes : List ℕ) (at transport : ℕ) : Type 0 where
  pub found : network_of bytes ≡ Ipv4 at transport
  pub right : IsRight (words_sum (slice_range bytes at transport))

pub bytes-with_word : (bytes : List ℕ) (i number : ℕ) → number < 65536 → AreBytes bytes → AreBytes (with_word bytes i number)
unfolding with_word
bytes-with_word bytes i number small are =
    let high : number / 256 < 256 = omega arith in
    let low : number % 256 < 256 = omega arith in
    All-set (λ byte. byte < 256) _ (i + 1) (number % 256) low (All-set (λ byte. byte < 256) bytes i (number / 256) high are)

pub bytes-reworded : (bytes : List ℕ) (sum i number : ℕ) → number < 65536 → AreBytes bytes → AreBytes (reworded bytes sum i number)
unfolding reworded
bytes-reworded bytes sum i number small are =
    bytes-with_word _ sum _ (adjust_below (word bytes sum) (word bytes i) number) (bytes-with_word bytes i number small are)

-- the first byte of a part
first_of_range : (bytes : List ℕ) (start end : ℕ) → start < end → slice_index (slice_range bytes start end) 0 ≡ slice_index bytes start
first_of_range bytes start end falls =
    let there : start + 0 ≡ start = omega arith in
    rw (get_or-take (end - start) (drop start bytes) 0 0 (omega arith), get_or-drop start bytes 0 0, there) refl

-- a word of the header, other than its checksum, written k bytes into it
pub header_reworded : (bytes : List ℕ) (at transport i k number : ℕ) → IsRightAt bytes at transport → AreBytes bytes → number < 65536 →
    i ≡ at + k → IsEven k → (k + 2 ≤ 10) ⊎ ((12 ≤ k) × (k + 2 ≤ 20)) →
    slice_index (with_word bytes i number) at ≡ slice_index bytes at → IsRightAt (reworded bytes (at + 10) i number) at transport
unfolding reworded
header_reworded bytes at transport i k number was are small there even aside first =
    let header = found_header bytes at transport was.found in
    let checksum = word bytes (at + 10) in
    let before = word bytes i in
    let once = with_word bytes i number in
    let twice = with_word once (at + 10) (adjust checksum before number) in
    let apart : (at + 10 + 2 ≤ i) ⊎ (i + 2 ≤ at + 10) = elim aside [ inl low ↦ inr (omega arith) | inr high ↦ inl (omega arith) ] in
    let same : word once (at + 10) ≡ checksum = word_elsewhere bytes i number (at + 10) apart in
    let inside : at + k + 2 ≤ transport = elim aside [ inl low ↦ omega (arith, header.long) | inr high ↦ omega (arith, header.long) ] in
    let written = sum_written bytes i at k transport number there even inside header.captured in
    let summed = sum_written once (at + 10) at 10 transport (adjust checksum before number) refl tt (omega (arith, header.long))
    (omega (arith, header.captured, length-with_word bytes i number)) in
    let found = network_kept bytes at transport i number was.found (omega arith) first in
    let top : slice_index twice at ≡ slice_index once at = byte_elsewhere once (at + 10) (adjust checksum before number) at (omega arith) (omega arith) in
    let above : 0 < words_sum (slice_range twice at transport) =
    words_above (slice_range twice at transport) (rw (first_of_range twice at transport (omega (arith, header.long)), top, first) (omega (arith, header.version))) in
    record {
      found = network_kept once at transport (at + 10) (adjust checksum before number) found (omega arith) top;
      right = right_kept (words_sum (slice_range bytes at transport)) (words_sum (slice_range twice at transport)) checksum before number
          (word_below bytes (at + 10) are) (word_below bytes i are) small (omega (arith, written, summed, same)) above was.right;
    }

-- a word behind the header
pub header_before : (bytes : List ℕ) (at transport i number : ℕ) → IsRightAt bytes at transport → transport ≤ i →
    IsRightAt (with_word bytes i number) at transport
header_before bytes at transport i number was behind =
    let header = found_header bytes at transport was.found in
    record {
      found = network_kept bytes at transport i number was.found (omega (arith, header.long))
          (byte_elsewhere bytes i number at (omega (arith, header.long)) (omega (arith, header.long)));
      right = rw (range_before bytes i at transport number (omega (arith, header.long)) behind) was.right;
    }

one_of_two : (none : Bool) (bytes next : List ℕ) (at transport : ℕ) → IsRightAt bytes at transport → IsRightAt next at transport →
    IsRightAt (cond none bytes next) at transport
one_of_two true bytes next at transport was is = was
one_of_two false bytes next at transport was is = is

-- the transport checksum written
header_rechecked : (checked : Checked) (bytes : List ℕ) (at transport count : ℕ) (before after : Address) → IsChecked checked transport count →
    IsRightAt bytes at transport → IsRightAt (rechecked checked bytes before after) at transport
unfolding rechecked
header_rechecked (Tcp place) bytes at transport count before after stands was = header_before bytes at transport place _ was (omega arith)
header_rechecked (Udp place) bytes at transport count before after stands was =
    one_of_two _ bytes _ at transport was (header_before bytes at transport place _ was (omega arith))
header_rechecked Unchecked bytes at transport count before after stands was = was

pub header_marked : (bytes : List ℕ) (dscp : ℕ) → AreBytes bytes → dscp < 64 → HasRightHeader bytes → HasRightHeader (marked bytes dscp)
header_marked bytes dscp are small was =
    let at = was.at in
    let number = word bytes at / 256 * 256 + 4 * dscp + word bytes at % 4 in
    let below : word bytes at < 65536 = word_below bytes at are in
    let header = found_header bytes at was.transport was.found in
    let first : slice_index (with_word bytes at number) at ≡ slice_index bytes at =
    byte_high bytes at number (omega (arith, header.long, header.captured)) ∙ omega (arith, word_high bytes at are) in
    let next = header_reworded bytes at was.transport at 0 number (record { found = was.found; right = was.right }) are (omega arith)
    (omega arith) tt (inl (omega arith)) first in
    rw was.found (record { at = at; transport = was.transport; found = next.found; right = next.right })

pub header_lowered : (bytes : List ℕ) → AreBytes bytes → HasRightHeader bytes → HasRightHeader (lowered bytes)
header_lowered bytes are was =
    let at = was.at in
    let number = word bytes (at + 8) - 256 in
    let below : word bytes (at + 8) < 65536 = word_below bytes (at + 8) are in
    let next = header_reworded bytes at was.transport (at + 8) 8 number (record { found = was.found; right = was.right }) are (omega arith)
    refl tt (inl (omega arith)) (byte_elsewhere bytes (at + 8) number at (omega arith) (omega arith)) in
    rw was.found (record { at = at; transport = was.transport; found = next.found; right = next.right })

-- an address of the header, k bytes into it
header_readdressed_at : (bytes to : List ℕ) (at transport i k : ℕ) (checked : Checked) (before after : Address) → IsRightAt bytes at transport → AreBytes bytes → AreBytes to →
    i ≡ at + k → IsEven k → IsEven (k + 2) → 12 ≤ k → k + 4 ≤ 20 → IsChecked checked transport (length bytes) →
    HasRightHeader (rechecked checked (reworded (reworded bytes (at + 10) i (word to 0)) (at + 10) (i + 2) (word to 2)) before after)
header_readdressed_at bytes to at transport i k checked before after was are new there even even2 low high stands =
    let first = word_below to 0 new in
    let second = word_below to 2 new in
    let once = header_reworded bytes at transport i k (word to 0) was are first there even (inr (low, omega arith))
    (byte_elsewhere bytes i (word to 0) at (omega arith) (omega arith)) in
    let bytes1 = reworded bytes (at + 10) i (word to 0) in
    let twice = header_reworded bytes1 at transport (i + 2) (k + 2) (word to 2) once (bytes-reworded bytes (at + 10) i (word to 0) first are) second
    (omega arith) even2 (inr (omega arith, omega arith)) (byte_elsewhere bytes1 (i + 2) (word to 2) at (omega arith) (omega arith)) in
    let last = header_rechecked checked (reworded bytes1 (at + 10) (i + 2) (word to 2)) at transport (length bytes) before after stands twice in
    record { at = at; transport = transport; found = last.found; right = last.right }

pub header_readdressed : (bytes : List ℕ) (side : Side) (to : List ℕ) → AreBytes bytes → AreBytes to → HasRightHeader bytes →
    HasRightHeader (readdressed bytes side to)
header_readdressed bytes Source to are new was =
    rw was.found (header_readdressed_at bytes to was.at was.transport (was.at + 12) 12 (checked_of bytes was.at was.transport) _ _
    (record { found = was.found; right = was.right }) are new refl tt tt (omega arith) (omega arith) (checked_stands bytes was.at was.transport))
header_readdressed bytes Destination to are new was =
    rw was.found (header_readdressed_at bytes to was.at was.transport (was.at + 16) 16 (checked_of bytes was.at was.transport) _ _
    (record { found = was.found; right = was.right }) are new refl tt tt (omega arith) (omega arith) (checked_stands bytes was.at was.transport))
