-- The checksum of a TCP or UDP segment of IPv6 stays right under each edit, since none changes a word that it covers.
use Rattle.std.proofs.Common.{◌≡◌, ℕ, ◌+◌, ◌-◌, ◌*◌, ◌/◌, ◌%◌, ◌<◌, ◌≤◌, ◌⊎◌, inl, inr, Bool, true, false, cond, List, ◌++◌, length, take, drop, refl, sym, ◌∙◌, arith}
use Rattle.std.proofs.lemmas.Bool.{leb-true}
use Rattle.std.proofs.lemmas.Bool.Decides.{nat_tests}
use Rattle.std.proofs.Math.Bool.{and-false}
use Rattle.std.specs.Prelude.{slice_index, slice_range, nat_le}
use Rattle.wire_base.specs.Numbers.{AreBytes}
use Rattle.net_frames.specs.Words.{word, with_word}
use Rattle.net_frames.specs.Captured.{Captured}
use Rattle.net_frames.specs.Layouts.{is_tag, tags, network_at, header_length, is_ipv4, is_ipv6, network_of}
use Rattle.net_frames.specs.Edits.{marked, lowered, expires, readdressed, untagged, tagged}
use Rattle.net_frames.specs.Right.{ipv6_segment_sum, IsTcpOverIpv6, IsUdpOverIpv6, HasRightIpv6Segment}
use Rattle.net_frames.specs.declared.contents.Side.{Side}
use Rattle.net_frames.specs.declared.layouts.Network.TheVariants.{Ipv4, Ipv6, Other}
use Rattle.net_frames.proofs.WordLemmas.{length-with_word, byte_elsewhere, byte_high, word_elsewhere, word_same, word_high, word_low}
use Rattle.net_frames.proofs.SumLemmas.{range_behind}
use Rattle.net_frames.proofs.LayoutLemmas.{same_network_at}
use Rattle.net_frames.proofs.MoveLemmas.{IsMoved, byte_moved, word_moved, range_moved}
use Rattle.net_frames.proofs.TagLaws.{either, popped_at, behind_one, popped_moved, pushed_at, pushed_moved}

-- an IPv6 header, as it is found
record IsFound (bytes : List ℕ) (at transport : ℕ) : Type 0 where
  begins : network_at bytes ≡ at
  low : 14 ≤ at
  shown : is_ipv6 bytes at ≡ true
  ends : transport ≡ at + 40

record IsShown (bytes : List ℕ) (at : ℕ) : Type 0 where
  kind : word bytes (at - 2) ≡ 34525
  version : slice_index bytes at / 16 ≡ 6
  captured : at + 40 ≤ length bytes

-- the choice of an IPv6 header among the three
chosen_ipv6 : (four shown : Bool) (a t s at transport : ℕ) → cond four (Ipv4 a t) (cond shown (Ipv6 a s) Other) ≡ Ipv6 at transport →
    (shown ≡ true) × (a ≡ at) × (s ≡ transport)
chosen_ipv6 true shown a t s at transport found = absurd (cc)
chosen_ipv6 false true a t s at transport found = (refl, (cc), (cc))
chosen_ipv6 false false a t s at transport found = absurd (cc)

found_ipv6 : (bytes : List ℕ) (at transport : ℕ) → network_of bytes ≡ Ipv6 at transport → IsFound bytes at transport
unfolding network_of network_at
found_ipv6 bytes at transport found =
    let here = network_at bytes in
    let chosen = chosen_ipv6 (is_ipv4 bytes here) (is_ipv6 bytes here) here (here + header_length bytes here) (here + 40) at transport found in
    record {
      begins = chosen.1;
      low = omega (arith, chosen.1);
      shown = rw (← chosen.1) chosen.0;
      ends = omega (arith, chosen.1, chosen.2);
    }

-- what the test for an IPv6 header says
shown_ipv6 : (bytes : List ℕ) (at : ℕ) → is_ipv6 bytes at ≡ true → IsShown bytes at
unfolding is_ipv6
shown_ipv6 bytes at shown = record {
  kind = grind (arith, nat_tests);
  version = grind (arith, nat_tests);
  captured = grind (arith, nat_tests);
}

from_shown : (bytes : List ℕ) (at : ℕ) → IsShown bytes at → is_ipv6 bytes at ≡ true
unfolding is_ipv6
from_shown bytes at shown =
    let kind = shown.kind in
    let version = shown.version in
    let captured = shown.captured in
    grind (arith, nat_tests)

-- its type is not IPv4's
not_ipv4 : (bytes : List ℕ) (at : ℕ) → word bytes (at - 2) ≡ 34525 → is_ipv4 bytes at ≡ false
unfolding is_ipv4
not_ipv4 bytes at kind = rw kind refl

-- nor a tag's
no_tag : (bytes : List ℕ) (i : ℕ) → word bytes i ≡ 34525 → is_tag bytes i ≡ false
unfolding is_tag
no_tag bytes i kind = rw (kind, and-false) refl

-- a header that is shown where the tags end is found
finds_ipv6 : (bytes : List ℕ) (at transport : ℕ) → network_at bytes ≡ at → IsShown bytes at → transport ≡ at + 40 → network_of bytes ≡ Ipv6 at transport
unfolding network_of
finds_ipv6 bytes at transport begins shown ends = rw (begins, not_ipv4 bytes at shown.kind, from_shown bytes at shown, ends) refl

-- other bytes say the same of the segment, perhaps at another place
record SameSegment (bytes others : List ℕ) (at transport end next behind last : ℕ) : Type 0 where
  found : network_of others ≡ Ipv6 next behind
  count : length others + end ≡ length bytes + last
  moved : behind + end ≡ transport + last
  payload : word others (next + 4) ≡ word bytes (at + 4)
  protocol : slice_index others (next + 6) ≡ slice_index bytes (at + 6)
  own : word others (behind + 4) ≡ word bytes (transport + 4)
  checksum : word others (behind + 6) ≡ word bytes (transport + 6)
  addresses : slice_range others (next + 8) (next + 40) ≡ slice_range bytes (at + 8) (at + 40)
  segment : slice_range others behind last ≡ slice_range bytes transport end

ends_same : (bytes others : List ℕ) (at transport end next behind last : ℕ) → SameSegment bytes others at transport end next behind last →
    IsTcpOverIpv6 bytes at transport end ⊎ IsUdpOverIpv6 bytes at transport end →
    IsTcpOverIpv6 others next behind last ⊎ IsUdpOverIpv6 others next behind last
ends_same bytes others at transport end next behind last same (inl tcp) =
    let is : IsTcpOverIpv6 others next behind last = record {
      protocol = same.protocol ∙ tcp.protocol;
      ends = omega (arith, tcp.ends, same.payload, same.moved);
      long = omega (arith, tcp.long, same.moved);
    } in
    inl is
ends_same bytes others at transport end next behind last same (inr udp) =
    let is : IsUdpOverIpv6 others next behind last = record {
      protocol = same.protocol ∙ udp.protocol;
      ends = omega (arith, udp.ends, same.own, same.moved);
      long = omega (arith, udp.long, same.moved);
      used = λ none. udp.used (sym same.checksum ∙ none);
    } in
    inr is

same_right : (bytes others : List ℕ) (was : HasRightIpv6Segment bytes) (next behind last : ℕ) →
    SameSegment bytes others was.at was.transport was.end next behind last → HasRightIpv6Segment others
unfolding ipv6_segment_sum
same_right bytes others was next behind last same =
    let count : last - behind ≡ was.end - was.transport = omega (arith, same.moved) in
    record {
      at = next;
      transport = behind;
      end = last;
      found = same.found;
      ends = ends_same bytes others was.at was.transport was.end next behind last same was.ends;
      captured = omega (arith, was.captured, same.count);
      right = rw (same.addresses, same.protocol, same.segment, count) was.right;
    }

-- a word written into the first eight bytes of the header, but not into the payload length, leaves the segment
same_written : (bytes : List ℕ) (was : HasRightIpv6Segment bytes) (i number : ℕ) → (i ≡ was.at) ⊎ (i ≡ was.at + 6) →
    slice_index (with_word bytes i number) was.at / 16 ≡ slice_index bytes was.at / 16 →
    slice_index (with_word bytes i number) (was.at + 6) ≡ slice_index bytes (was.at + 6) → HasRightIpv6Segment (with_word bytes i number)
same_written bytes was i number place version protocol =
    let at = was.at in
    let header = found_ipv6 bytes at was.transport was.found in
    let shown = shown_ipv6 bytes at header.shown in
    let next = with_word bytes i number in
    let behind : at ≤ i = elim place [ inl is ↦ omega arith | inr is ↦ omega arith ] in
    let within : i + 2 ≤ at + 8 = elim place [ inl is ↦ omega arith | inr is ↦ omega arith ] in
    let count : length next ≡ length bytes = length-with_word bytes i number in
    let before : (k : ℕ) → k < at → slice_index next k ≡ slice_index bytes k =
    λ k low. byte_elsewhere bytes i number k (omega arith) (omega arith) in
    let begins : network_at next ≡ at =
    same_network_at bytes next (record { count = count; each = λ k low. before k (omega (arith, header.begins)) }) ∙ header.begins in
    let kind : word next (at - 2) ≡ word bytes (at - 2) =
    word_same bytes next (at - 2) (before (at - 2) (omega (arith, header.low))) (before (at - 2 + 1) (omega (arith, header.low))) in
    let found : network_of next ≡ Ipv6 at was.transport = finds_ipv6 next at was.transport begins
    (record { kind = kind ∙ shown.kind; version = version ∙ shown.version; captured = omega (arith, count, shown.captured) }) header.ends in
    let payload : (at + 4 + 2 ≤ i) ⊎ (i + 2 ≤ at + 4) = elim place [ inl is ↦ inr (omega arith) | inr is ↦ inl (omega arith) ] in
    same_right bytes next was at was.transport was.end (record {
      found = found;
      count = omega (arith, count);
      moved = refl;
      payload = word_elsewhere bytes i number (at + 4) payload;
      protocol = protocol;
      own = word_elsewhere bytes i number (was.transport + 4) (inr (omega (arith, header.ends)));
      checksum = word_elsewhere bytes i number (was.transport + 6) (inr (omega (arith, header.ends)));
      addresses = range_behind bytes i (at + 8) (at + 40) number (omega arith);
      segment = range_behind bytes i was.transport was.end number (omega (arith, header.ends));
    })

pub ipv6_marked : (bytes : List ℕ) (dscp : ℕ) → AreBytes bytes → dscp < 64 → HasRightIpv6Segment bytes → HasRightIpv6Segment (marked bytes dscp)
ipv6_marked bytes dscp are small was =
    let at = was.at in
    let number = word bytes at / 4096 * 4096 + 64 * dscp + word bytes at % 64 in
    let header = found_ipv6 bytes at was.transport was.found in
    let shown = shown_ipv6 bytes at header.shown in
    let high : slice_index (with_word bytes at number) at ≡ number / 256 = byte_high bytes at number (omega (arith, shown.captured)) in
    let version : slice_index (with_word bytes at number) at / 16 ≡ slice_index bytes at / 16 = omega (arith, high, word_high bytes at are) in
    rw was.found (same_written bytes was at number (inl refl) version (byte_elsewhere bytes at number (at + 6) (omega arith) (omega arith)))

pub ipv6_lowered : (bytes : List ℕ) → AreBytes bytes → expires bytes ≡ false → HasRightIpv6Segment bytes → HasRightIpv6Segment (lowered bytes)
ipv6_lowered bytes are alive was =
    let at = was.at in
    let number = word bytes (at + 6) - 1 in
    let header = found_ipv6 bytes at was.transport was.found in
    let shown = shown_ipv6 bytes at header.shown in
    let tested : nat_le (slice_index bytes (at + 7)) 1 ≡ false = rw was.found at alive in
    let hops : 1 < slice_index bytes (at + 7) = grind (arith, nat_tests) in
    let next_to : at + 6 + 1 ≡ at + 7 = omega arith in
    let low : word bytes (at + 6) % 256 ≡ slice_index bytes (at + 7) = rw (← next_to) (word_low bytes (at + 6) are) in
    let protocol : slice_index (with_word bytes (at + 6) number) (at + 6) ≡ slice_index bytes (at + 6) =
    byte_high bytes (at + 6) number (omega (arith, shown.captured)) ∙ omega (arith, low, word_high bytes (at + 6) are) in
    let same : slice_index (with_word bytes (at + 6) number) at ≡ slice_index bytes at = byte_elsewhere bytes (at + 6) number at (omega arith) (omega arith) in
    rw was.found (same_written bytes was (at + 6) number (inr refl) (rw same refl) protocol)

-- no address of IPv6 is changed
pub ipv6_readdressed : (bytes : List ℕ) (side : Side) (to : List ℕ) → HasRightIpv6Segment bytes → HasRightIpv6Segment (readdressed bytes side to)
ipv6_readdressed bytes side to was = rw was.found was

-- a segment that is moved with its header
segment_moved : (bytes others : List ℕ) (m n next : ℕ) → IsMoved bytes others m n → (was : HasRightIpv6Segment bytes) → m + 2 ≤ was.at →
    next + m ≡ was.at + n → network_at others ≡ next → HasRightIpv6Segment others
segment_moved bytes others m n next moved was far there begins =
    let at = was.at in
    let header = found_ipv6 bytes at was.transport was.found in
    let shown = shown_ipv6 bytes at header.shown in
    let behind = next + 40 in
    let last = was.end + n - m in
    let beyond : was.transport ≤ was.end = elim was.ends [ inl tcp ↦ omega (arith, tcp.long) | inr udp ↦ omega (arith, udp.long) ] in
    let ends : behind + m ≡ was.transport + n = omega (arith, header.ends) in
    let whole : last + m ≡ was.end + n = omega (arith, header.ends) in
    let first : slice_index others next ≡ slice_index bytes at = byte_moved bytes others m n at next moved (omega arith) there in
    let kind : word others (next - 2) ≡ word bytes (at - 2) = word_moved bytes others m n (at - 2) (next - 2) moved (omega arith) (omega arith) in
    let found : network_of others ≡ Ipv6 next behind = finds_ipv6 others next behind begins
    (record { kind = kind ∙ shown.kind; version = rw first shown.version; captured = omega (arith, shown.captured, moved.count) }) refl in
    same_right bytes others was next behind last (record {
      found = found;
      count = omega (arith, moved.count);
      moved = omega arith;
      payload = word_moved bytes others m n (at + 4) (next + 4) moved (omega arith) (omega arith);
      protocol = byte_moved bytes others m n (at + 6) (next + 6) moved (omega arith) (omega arith);
      own = word_moved bytes others m n (was.transport + 4) (behind + 4) moved (omega (arith, header.ends)) (omega arith);
      checksum = word_moved bytes others m n (was.transport + 6) (behind + 6) moved (omega (arith, header.ends)) (omega arith);
      addresses = range_moved bytes others m n (at + 8) (at + 40) (next + 8) (next + 40) moved (omega arith) (omega arith) (omega arith);
      segment = range_moved bytes others m n was.transport was.end behind last moved (omega (arith, header.ends)) ends whole;
    })

pub ipv6_popped : (frame : Captured) → HasRightIpv6Segment frame.bytes → HasRightIpv6Segment (untagged frame).bytes
ipv6_popped frame was = either (is_tag frame.bytes 12) _ frame HasRightIpv6Segment
    (λ tag.
    let others = take 12 frame.bytes ++ drop 16 frame.bytes in
    let moved = popped_moved frame.bytes tag in
    let header = found_ipv6 frame.bytes was.at was.transport was.found in
    let shown = shown_ipv6 frame.bytes was.at header.shown in
    let there = popped_at frame.bytes others was.at header.begins (no_tag frame.bytes (was.at - 2) shown.kind) tag moved in
    segment_moved frame.bytes others 16 12 (network_at others) moved was (behind_one frame.bytes was.at header.begins tag) (omega (arith, there)) refl)
    (λ none. was)

pub ipv6_pushed : (frame : Captured) (vid : ℕ) → tags frame.bytes < 2 → HasRightIpv6Segment frame.bytes → HasRightIpv6Segment (tagged frame vid).bytes
ipv6_pushed frame vid few was = either (nat_le 12 (length frame.bytes)) _ frame HasRightIpv6Segment
    (λ enough.
    let room = leb-true 12 (length frame.bytes) enough in
    let header = found_ipv6 frame.bytes was.at was.transport was.found in
    let there = pushed_at frame.bytes vid was.at header.begins room few in
    segment_moved frame.bytes _ 12 16 (was.at + 4) (pushed_moved frame.bytes vid room) was header.low (omega arith) there)
    (λ short. was)
