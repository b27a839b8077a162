-- The checksum of a TCP or UDP segment stays right under each edit.
use Rattle.std.proofs.Common.{◌≡◌, ◌≢◌, ℕ, zero, suc, ◌+◌, ◌-◌, ◌*◌, ◌/◌, ◌%◌, ◌<◌, ◌≤◌, ◌⊎◌, inl, inr, ◌==◌, true, false, cond, List, length, refl, ap, sym, ◌∙◌, arith}
use Rattle.std.proofs.lemmas.Bool.Decides.{nat_tests}
use Rattle.std.specs.Prelude.{slice_index, slice_range, nat_le}
use Rattle.wire_base.specs.Numbers.{AreBytes}
use Rattle.net_frames.specs.Words.{word, with_word}
use Rattle.net_frames.specs.Checksums.{adjust, reworded}
use Rattle.net_frames.specs.Layouts.{network_of, checked_of}
use Rattle.net_frames.specs.Edits.{marked, lowered, expires, readdressed, address_in, nonzero, rechecked}
use Rattle.net_frames.specs.Right.{IsRight, words_sum, EndsAt, segment_sum, HasRightSegment}
use Rattle.net_frames.specs.declared.contents.Side.{Side}
use Rattle.net_frames.specs.declared.contents.Side.TheVariants.{Source, Destination}
use Rattle.net_frames.specs.declared.edits.Address.{Address}
use Rattle.net_frames.specs.declared.layouts.Checked.{Checked}
use Rattle.net_frames.specs.declared.layouts.Checked.TheVariants.{Tcp, Udp, Unchecked}
use Rattle.net_frames.specs.declared.layouts.Network.TheVariants.{Ipv4}
use Rattle.net_frames.proofs.WordLemmas.{length-with_word, byte_elsewhere, byte_high, byte_low, word_elsewhere, word_written, word_below, word_high, word_low}
use Rattle.net_frames.proofs.SumLemmas.{IsEven, range_before, range_behind, sum_written}
use Rattle.net_frames.proofs.LayoutLemmas.{found_header, network_kept, IsChecked, checked_stands, same_checked}
use Rattle.net_frames.proofs.RightLemmas.{right_kept_twice}

-- the segment at this place is right
pub record IsRightSegment (bytes : List ℕ) (at transport end : ℕ) : Type 0 where
  pub found : network_of bytes ≡ Ipv4 at transport
  pub unfragmented : word bytes (at + 6) % 16384 ≡ 0
  pub ends : EndsAt (checked_of bytes at transport) bytes at transport end
  pub captured : end ≤ length bytes
  pub right : IsRight (segment_sum bytes at transport end)

-- other bytes say the same of where the segment is
pub record SameSegment (bytes others : List ℕ) (at transport : ℕ) : Type 0 where
  pub count : length others ≡ length bytes
  pub found : network_of others ≡ Ipv4 at transport
  pub total : word others (at + 2) ≡ word bytes (at + 2)
  pub fragment : word others (at + 6) ≡ word bytes (at + 6)
  pub protocol : slice_index others (at + 9) ≡ slice_index bytes (at + 9)
  pub own : word others (transport + 4) ≡ word bytes (transport + 4)

-- a UDP checksum is there
abbrev pub IsUsed : Checked → List ℕ → Type 0
IsUsed (Tcp place) bytes = Unit {0}
IsUsed (Udp place) bytes = word bytes place ≢ 0
IsUsed Unchecked bytes = Unit {0}

ends_kept : (checked : Checked) (bytes others : List ℕ) (at transport end : ℕ) → SameSegment bytes others at transport → IsUsed checked others →
    EndsAt checked bytes at transport end → EndsAt checked others at transport end
ends_kept (Tcp place) bytes others at transport end same used ends = (rw same.total ends.0, ends.1)
ends_kept (Udp place) bytes others at transport end same used ends = (rw same.own ends.0, ends.1, used)
ends_kept Unchecked bytes others at transport end same used ends = ends

-- the segment of other bytes, from their sum
segment_kept : (bytes others : List ℕ) (at transport end : ℕ) → IsRightSegment bytes at transport end → SameSegment bytes others at transport →
    IsUsed (checked_of bytes at transport) others → IsRight (segment_sum others at transport end) → IsRightSegment others at transport end
segment_kept bytes others at transport end was same used right =
    let checked : checked_of others at transport ≡ checked_of bytes at transport =
    same_checked bytes others at transport same.count same.fragment same.protocol in
    record {
      found = same.found;
      unfragmented = rw same.fragment was.unfragmented;
      ends = rw checked (ends_kept (checked_of bytes at transport) bytes others at transport end same used was.ends);
      captured = rw same.count was.captured;
      right = right;
    }

-- the checksum in use is the same word in other bytes
still_used : (checked : Checked) (bytes others : List ℕ) (at transport end count : ℕ) → IsChecked checked transport count →
    ((place : ℕ) → transport ≤ place → word others place ≡ word bytes place) → EndsAt checked bytes at transport end → IsUsed checked others
still_used (Tcp place) bytes others at transport end count stands same ends = tt
still_used (Udp place) bytes others at transport end count stands same ends = λ none. ends.2 (sym (same place (omega arith)) ∙ none)
still_used Unchecked bytes others at transport end count stands same ends = tt

-- a word of the first twelve bytes of the header
segment_past : (bytes : List ℕ) (at transport end i number : ℕ) → IsRightSegment bytes at transport end →
    (i ≡ at) ⊎ (at + 8 ≤ i) → i + 2 ≤ at + 12 → slice_index (with_word bytes i number) at ≡ slice_index bytes at →
    slice_index (with_word bytes i number) (at + 9) ≡ slice_index bytes (at + 9) →
    IsRightSegment (with_word bytes i number) at transport end
unfolding segment_sum
segment_past bytes at transport end i number was place before first protocol =
    let header = found_header bytes at transport was.found in
    let next = with_word bytes i number in
    let above : at ≤ i = elim place [ inl is ↦ omega arith | inr far ↦ omega arith ] in
    let total : (at + 2 + 2 ≤ i) ⊎ (i + 2 ≤ at + 2) = elim place [ inl is ↦ inr (omega arith) | inr far ↦ inl (omega arith) ] in
    let fragment : (at + 6 + 2 ≤ i) ⊎ (i + 2 ≤ at + 6) = elim place [ inl is ↦ inr (omega arith) | inr far ↦ inl (omega arith) ] in
    let behind : (j : ℕ) → transport ≤ j → word next j ≡ word bytes j =
    λ j far. word_elsewhere bytes i number j (inr (omega (arith, header.long))) in
    let same : SameSegment bytes next at transport = record {
      count = length-with_word bytes i number;
      found = network_kept bytes at transport i number was.found above first;
      total = word_elsewhere bytes i number (at + 2) total;
      fragment = word_elsewhere bytes i number (at + 6) fragment;
      protocol = protocol;
      own = behind (transport + 4) (omega arith);
    } in
    segment_kept bytes next at transport end was same
    (still_used (checked_of bytes at transport) bytes next at transport end (length bytes) (checked_stands bytes at transport) behind was.ends)
    (rw (range_behind bytes i (at + 12) (at + 20) number before, range_behind bytes i transport end number (omega (arith, header.long)), protocol) was.right)

-- the same with the header checksum adjusted
segment_reworded : (bytes : List ℕ) (at transport end i number : ℕ) → IsRightSegment bytes at transport end →
    (i ≡ at) ⊎ (i ≡ at + 8) → slice_index (with_word bytes i number) at ≡ slice_index bytes at →
    slice_index (with_word bytes i number) (at + 9) ≡ slice_index bytes (at + 9) →
    IsRightSegment (reworded bytes (at + 10) i number) at transport end
unfolding reworded
segment_reworded bytes at transport end i number was place first protocol =
    let once = with_word bytes i number in
    let checksum = adjust (word bytes (at + 10)) (word bytes i) number in
    let far : (i ≡ at) ⊎ (at + 8 ≤ i) = elim place [ inl is ↦ inl is | inr is ↦ inr (omega arith) ] in
    let before : i + 2 ≤ at + 12 = elim place [ inl is ↦ omega arith | inr is ↦ omega arith ] in
    segment_past once at transport end (at + 10) checksum (segment_past bytes at transport end i number was far before first protocol)
    (inr (omega arith)) (omega arith) (byte_elsewhere once (at + 10) checksum at (omega arith) (omega arith))
    (byte_elsewhere once (at + 10) checksum (at + 9) (omega arith) (omega arith))

segment_of : (bytes : List ℕ) (at transport end : ℕ) → IsRightSegment bytes at transport end → HasRightSegment bytes
segment_of bytes at transport end is = record {
  at = at;
  transport = transport;
  end = end;
  found = is.found;
  unfragmented = is.unfragmented;
  ends = is.ends;
  captured = is.captured;
  right = is.right;
}

placed : (bytes : List ℕ) (has : HasRightSegment bytes) → IsRightSegment bytes has.at has.transport has.end
placed bytes has = record { found = has.found; unfragmented = has.unfragmented; ends = has.ends; captured = has.captured; right = has.right }

pub segment_marked : (bytes : List ℕ) (dscp : ℕ) → AreBytes bytes → dscp < 64 → HasRightSegment bytes → HasRightSegment (marked bytes dscp)
segment_marked bytes dscp are small was =
    let at = was.at in
    let number = word bytes at / 256 * 256 + 4 * dscp + word bytes at % 4 in
    let header = found_header bytes at was.transport was.found in
    let first : slice_index (with_word bytes at number) at ≡ slice_index bytes at =
    byte_high bytes at number (omega (arith, header.long, header.captured)) ∙ omega (arith, word_high bytes at are) in
    let next = segment_reworded bytes at was.transport was.end at number (placed bytes was) (inl refl) first
    (byte_elsewhere bytes at number (at + 9) (omega arith) (omega arith)) in
    rw was.found (segment_of (reworded bytes (at + 10) at number) at was.transport was.end next)

pub segment_lowered : (bytes : List ℕ) → AreBytes bytes → expires bytes ≡ false → HasRightSegment bytes → HasRightSegment (lowered bytes)
segment_lowered bytes are alive was =
    let at = was.at in
    let number = word bytes (at + 8) - 256 in
    let header = found_header bytes at was.transport was.found in
    let tested : nat_le (slice_index bytes (at + 8)) 1 ≡ false = rw was.found at alive in
    let hops : 1 < slice_index bytes (at + 8) = grind (arith, nat_tests) in
    let next_to : at + 8 + 1 ≡ at + 9 = omega arith in
    let protocol : slice_index (with_word bytes (at + 8) number) (at + 8 + 1) ≡ slice_index bytes (at + 8 + 1) =
    byte_low bytes (at + 8) number (omega (arith, header.long, header.captured)) ∙ omega (arith, word_low bytes (at + 8) are, word_high bytes (at + 8) are) in
    let next = segment_reworded bytes at was.transport was.end (at + 8) number (placed bytes was) (inr refl)
    (byte_elsewhere bytes (at + 8) number at (omega arith) (omega arith)) (rw next_to at protocol) in
    rw was.found (segment_of (reworded bytes (at + 10) (at + 8) number) at was.transport was.end next)

-- one word of an address exchanged, with the header checksum: what moves and what stays
pub record Exchanged (bytes others : List ℕ) (at transport end i number : ℕ) : Type 0 where
  pub same : SameSegment bytes others at transport
  pub moved : words_sum (slice_range others (at + 12) (at + 20)) + word bytes i ≡ words_sum (slice_range bytes (at + 12) (at + 20)) + number
  pub stays : slice_range others transport end ≡ slice_range bytes transport end
  pub words : (j : ℕ) → i + 2 ≤ j → word others j ≡ word bytes j

exchanged : (bytes : List ℕ) (at transport end i k number : ℕ) → network_of bytes ≡ Ipv4 at transport → i ≡ at + 12 + k → IsEven k → k + 2 ≤ 8 →
    Exchanged bytes (reworded bytes (at + 10) i number) at transport end i number
unfolding reworded
exchanged bytes at transport end i k number found there even low =
    let header = found_header bytes at transport found in
    let once = with_word bytes i number in
    let checksum = adjust (word bytes (at + 10)) (word bytes i) number in
    let twice = with_word once (at + 10) checksum in
    let count : length once ≡ length bytes = length-with_word bytes i number in
    let found_once = network_kept bytes at transport i number found (omega arith) (byte_elsewhere bytes i number at (omega arith) (omega arith)) in
    let elsewhere : (j : ℕ) → (j + 2 ≤ at + 10) ⊎ (i + 2 ≤ j) → word twice j ≡ word bytes j = λ j aside. elim aside [
      | inl before ↦ word_elsewhere once (at + 10) checksum j (inl before) ∙ word_elsewhere bytes i number j (inl (omega arith))
      | inr behind ↦ word_elsewhere once (at + 10) checksum j (inr (omega arith)) ∙ word_elsewhere bytes i number j (inr behind)
    ] in
    let protocol : slice_index twice (at + 9) ≡ slice_index bytes (at + 9) =
    byte_elsewhere once (at + 10) checksum (at + 9) (omega arith) (omega arith) ∙ byte_elsewhere bytes i number (at + 9) (omega arith) (omega arith) in
    record {
      same = record {
        count = length-with_word once (at + 10) checksum ∙ count;
        found = network_kept once at transport (at + 10) checksum found_once (omega arith) (byte_elsewhere once (at + 10) checksum at (omega arith) (omega arith));
        total = elsewhere (at + 2) (inl (omega arith));
        fragment = elsewhere (at + 6) (inl (omega arith));
        protocol = protocol;
        own = elsewhere (transport + 4) (inr (omega (arith, header.long)));
      };
      moved = rw (range_behind once (at + 10) (at + 12) (at + 20) checksum (omega arith))
          (sum_written bytes i (at + 12) k (at + 20) number there even (omega arith) (omega (arith, header.long, header.captured)));
      stays = rw (range_behind once (at + 10) transport end checksum (omega (arith, header.long)), range_behind bytes i transport end number (omega (arith, header.long))) refl;
      words = λ j behind. elsewhere j (inr behind);
    }

-- FFFF in place of 0 is a multiple of 65,535 more
nonzero_part : (n : ℕ) → (full : ℕ) × (nonzero n ≡ n + 65535 * full) × (0 < nonzero n)
nonzero_part zero = (1, refl, omega arith)
nonzero_part (suc n) = (0, grind (arith, nat_tests), grind (arith, nat_tests))

-- the transport checksum written k bytes into the segment, after both words of an address were exchanged
pub sum_exchanged : (bytes middle others : List ℕ) (at transport end i place k first second checksum full : ℕ) → AreBytes bytes →
    IsRightSegment bytes at transport end → Exchanged bytes middle at transport end i first → Exchanged middle others at transport end (i + 2) second →
    first < 65536 → second < 65536 → i + 4 ≤ transport → place ≡ transport + k → IsEven k → place + 2 ≤ end →
    checksum ≡ adjust (adjust (word bytes place) (word bytes i) first) (word bytes (i + 2)) second + 65535 * full →
    IsRight (segment_sum (with_word others place checksum) at transport end)
unfolding segment_sum
sum_exchanged bytes middle others at transport end i place k first second checksum full are was one two small1 small2 before there even inside is =
    let header = found_header bytes at transport was.found in
    let last = with_word others place checksum in
    let behind : transport ≤ place = omega arith in
    let between : word middle (i + 2) ≡ word bytes (i + 2) = one.words (i + 2) (omega arith) in
    let old : word others place ≡ word bytes place = two.words place (omega arith) ∙ one.words place (omega arith) in
    let addresses : slice_range last (at + 12) (at + 20) ≡ slice_range others (at + 12) (at + 20) =
    range_before others place (at + 12) (at + 20) checksum (omega arith) (omega (arith, header.long)) in
    let protocol : slice_index last (at + 9) ≡ slice_index bytes (at + 9) =
    byte_elsewhere others place checksum (at + 9) (omega (arith, header.long)) (omega (arith, header.long)) ∙ two.same.protocol ∙ one.same.protocol in
    let segment : words_sum (slice_range last transport end) + word others place ≡ words_sum (slice_range others transport end) + checksum =
    sum_written others place transport k end checksum there even (omega arith) (omega (arith, was.captured, one.same.count, two.same.count)) in
    let stays : slice_range others transport end ≡ slice_range bytes transport end = two.stays ∙ one.stays in
    let stay : words_sum (slice_range others transport end) ≡ words_sum (slice_range bytes transport end) = ap words_sum stays in
    let swept : words_sum (slice_range last (at + 12) (at + 20)) ≡ words_sum (slice_range others (at + 12) (at + 20)) = ap words_sum addresses in
    right_kept_twice
    (words_sum (slice_range bytes (at + 12) (at + 20)) + slice_index bytes (at + 9) + (end - transport) + words_sum (slice_range bytes transport end))
    (words_sum (slice_range last (at + 12) (at + 20)) + slice_index last (at + 9) + (end - transport) + words_sum (slice_range last transport end))
    (word bytes place) (word bytes i) first (word bytes (i + 2)) second full
    (word_below bytes place are) (word_below bytes i are) small1 (word_below bytes (i + 2) are) small2
    (omega (arith, swept, segment, stay, protocol, old, between, one.moved, two.moved, is)) (omega arith) was.right

-- what the other bytes say once the transport checksum is written as well
same_rechecked : (bytes middle others : List ℕ) (at transport end i first second place checksum : ℕ) → network_of bytes ≡ Ipv4 at transport →
    Exchanged bytes middle at transport end i first → Exchanged middle others at transport end (i + 2) second → transport + 6 ≤ place →
    SameSegment bytes (with_word others place checksum) at transport
same_rechecked bytes middle others at transport end i first second place checksum found one two behind =
    let header = found_header bytes at transport found in
    record {
      count = length-with_word others place checksum ∙ two.same.count ∙ one.same.count;
      found = network_kept others at transport place checksum two.same.found (omega (arith, header.long))
          (byte_elsewhere others place checksum at (omega (arith, header.long)) (omega (arith, header.long)));
      total = word_elsewhere others place checksum (at + 2) (inl (omega (arith, header.long))) ∙ two.same.total ∙ one.same.total;
      fragment = word_elsewhere others place checksum (at + 6) (inl (omega (arith, header.long))) ∙ two.same.fragment ∙ one.same.fragment;
      protocol = byte_elsewhere others place checksum (at + 9) (omega (arith, header.long)) (omega (arith, header.long))
          ∙ two.same.protocol ∙ one.same.protocol;
      own = word_elsewhere others place checksum (transport + 4) (inl (omega arith)) ∙ two.same.own ∙ one.same.own;
    }

-- what is known of an address that is exchanged
record Exchange (bytes middle others : List ℕ) (at transport end i first second : ℕ) : Type 0 where
  are : AreBytes bytes
  was : IsRightSegment bytes at transport end
  one : Exchanged bytes middle at transport end i first
  two : Exchanged middle others at transport end (i + 2) second
  high : first < 65536
  low : second < 65536
  before : i + 4 ≤ transport

-- the words behind the address are what they were
words_behind : (bytes middle others : List ℕ) (at transport end i first second : ℕ) → Exchange bytes middle others at transport end i first second →
    (j : ℕ) → transport ≤ j → word others j ≡ word bytes j
words_behind bytes middle others at transport end i first second all j behind =
    all.two.words j (omega (arith, all.before)) ∙ all.one.words j (omega (arith, all.before))

exchanged_tcp : (bytes middle others : List ℕ) (at transport end i first second place : ℕ) → Exchange bytes middle others at transport end i first second →
    checked_of bytes at transport ≡ Tcp place → place ≡ transport + 16 → place + 2 ≤ end →
    IsRightSegment (with_word others place (adjust (adjust (word others place) (word bytes i) first) (word bytes (i + 2)) second)) at transport end
exchanged_tcp bytes middle others at transport end i first second place all checked there inside =
    let checksum = adjust (adjust (word others place) (word bytes i) first) (word bytes (i + 2)) second in
    let same : word others place ≡ word bytes place = words_behind bytes middle others at transport end i first second all place (omega arith) in
    let is : checksum ≡ adjust (adjust (word bytes place) (word bytes i) first) (word bytes (i + 2)) second + 65535 * 0 =
    rw same (omega arith) in
    segment_kept bytes (with_word others place checksum) at transport end all.was
    (same_rechecked bytes middle others at transport end i first second place checksum all.was.found all.one all.two (omega arith))
    (rw checked tt)
    (sum_exchanged bytes middle others at transport end i place 16 first second checksum 0 all.are all.was all.one all.two all.high all.low all.before
    there tt inside is)

exchanged_udp : (bytes middle others : List ℕ) (at transport end i first second place : ℕ) → Exchange bytes middle others at transport end i first second →
    checked_of bytes at transport ≡ Udp place → place ≡ transport + 6 → place + 2 ≤ end →
    IsRightSegment (with_word others place (nonzero (adjust (adjust (word others place) (word bytes i) first) (word bytes (i + 2)) second))) at transport end
exchanged_udp bytes middle others at transport end i first second place all checked there inside =
    let sum = adjust (adjust (word others place) (word bytes i) first) (word bytes (i + 2)) second in
    let same : word others place ≡ word bytes place = words_behind bytes middle others at transport end i first second all place (omega arith) in
    let part = nonzero_part sum in
    let sums : sum ≡ adjust (adjust (word bytes place) (word bytes i) first) (word bytes (i + 2)) second = rw same refl in
    let is : nonzero sum ≡ adjust (adjust (word bytes place) (word bytes i) first) (word bytes (i + 2)) second + 65535 * part.0 =
    part.1 ∙ ap (λ n. n + 65535 * part.0) sums in
    let next = with_word others place (nonzero sum) in
    let room : place + 2 ≤ length others = omega (arith, inside, all.was.captured, all.one.same.count, all.two.same.count) in
    let written : word next place ≡ nonzero sum = word_written others place (nonzero sum) room in
    let used : IsUsed (Udp place) next = λ none. omega (arith, written, part.2, none) in
    segment_kept bytes next at transport end all.was
    (same_rechecked bytes middle others at transport end i first second place (nonzero sum) all.was.found all.one all.two (omega arith))
    (rw checked used)
    (sum_exchanged bytes middle others at transport end i place 6 first second (nonzero sum) part.0 all.are all.was all.one all.two all.high all.low all.before
    there tt inside is)

-- a UDP checksum that is not 0 is written
udp_written : (bytes next : List ℕ) (place : ℕ) → word bytes place ≢ 0 → (P : List ℕ → Type 0) → P next →
    P (cond (word bytes place == 0) bytes next)
udp_written bytes next place used P holds =
    let tested : (word bytes place == 0) ≡ false = grind (arith, nat_tests) in
    rw tested holds

-- the transport checksum that is there
segment_rechecked : (checked : Checked) (bytes middle others : List ℕ) (at transport end i first second : ℕ) →
    Exchange bytes middle others at transport end i first second → checked_of bytes at transport ≡ checked → IsChecked checked transport (length bytes) →
    EndsAt checked bytes at transport end →
    IsRightSegment (rechecked checked others (address_in bytes i) (record { high = first; low = second })) at transport end
unfolding rechecked
segment_rechecked (Tcp place) bytes middle others at transport end i first second all checked stands ends =
    exchanged_tcp bytes middle others at transport end i first second place all checked stands.0 ends.1
segment_rechecked (Udp place) bytes middle others at transport end i first second all checked stands ends =
    let same : word others place ≡ word bytes place = words_behind bytes middle others at transport end i first second all place (omega arith) in
    udp_written others _ place (λ none. ends.2 (sym same ∙ none)) (λ next. IsRightSegment next at transport end)
    (exchanged_udp bytes middle others at transport end i first second place all checked stands.0 ends.1)
segment_rechecked Unchecked bytes middle others at transport end i first second all checked stands ends = absurd ends

-- an address of the header, k bytes into the addresses
segment_readdressed_at : (bytes to : List ℕ) (at transport end i k : ℕ) → AreBytes bytes → AreBytes to → IsRightSegment bytes at transport end →
    i ≡ at + 12 + k → IsEven k → IsEven (k + 2) → k + 4 ≤ 8 →
    HasRightSegment (rechecked (checked_of bytes at transport)
    (reworded (reworded bytes (at + 10) i (word to 0)) (at + 10) (i + 2) (word to 2)) (address_in bytes i) (address_in to 0))
segment_readdressed_at bytes to at transport end i k are new was there even even2 low =
    let header = found_header bytes at transport was.found in
    let middle = reworded bytes (at + 10) i (word to 0) in
    let others = reworded middle (at + 10) (i + 2) (word to 2) in
    let one = exchanged bytes at transport end i k (word to 0) was.found there even (omega arith) in
    let two = exchanged middle at transport end (i + 2) (k + 2) (word to 2) one.same.found (omega arith) even2 (omega arith) in
    let all : Exchange bytes middle others at transport end i (word to 0) (word to 2) = record {
      are = are;
      was = was;
      one = one;
      two = two;
      high = word_below to 0 new;
      low = word_below to 2 new;
      before = omega (arith, header.long);
    } in
    segment_of _ at transport end
    (segment_rechecked (checked_of bytes at transport) bytes middle others at transport end i (word to 0) (word to 2) all refl
    (checked_stands bytes at transport) was.ends)

pub segment_readdressed : (bytes : List ℕ) (side : Side) (to : List ℕ) → AreBytes bytes → AreBytes to → HasRightSegment bytes →
    HasRightSegment (readdressed bytes side to)
segment_readdressed bytes Source to are new was =
    rw was.found (segment_readdressed_at bytes to was.at was.transport was.end (was.at + 12) 0 are new (placed bytes was) (omega arith) tt tt (omega arith))
segment_readdressed bytes Destination to are new was =
    rw was.found (segment_readdressed_at bytes to was.at was.transport was.end (was.at + 16) 4 are new (placed bytes was) (omega arith) tt tt (omega arith))

unused_kept : (bytes middle others : List ℕ) (at transport i first second place : ℕ) (before after : Address) → network_of bytes ≡ Ipv4 at transport →
    i + 4 ≤ transport → transport ≤ place →
    Exchanged bytes middle at transport transport i first → Exchanged middle others at transport transport (i + 2) second →
    word bytes place ≡ 0 → word (rechecked (Udp place) others before after) place ≡ 0
unfolding rechecked
unused_kept bytes middle others at transport i first second place before after found low behind one two none =
    let same : word others place ≡ 0 = two.words place (omega arith) ∙ one.words place (omega arith) ∙ none in
    let tested : (word others place == 0) ≡ true = grind (arith, nat_tests) in
    rw tested same

unused_at : (bytes to : List ℕ) (at transport i k place : ℕ) → network_of bytes ≡ Ipv4 at transport → i ≡ at + 12 + k → IsEven k → IsEven (k + 2) → k + 4 ≤ 8 →
    checked_of bytes at transport ≡ Udp place → word bytes place ≡ 0 →
    word (rechecked (checked_of bytes at transport)
    (reworded (reworded bytes (at + 10) i (word to 0)) (at + 10) (i + 2) (word to 2)) (address_in bytes i) (address_in to 0)) place ≡ 0
unused_at bytes to at transport i k place found there even even2 low checked none =
    let header = found_header bytes at transport found in
    let middle = reworded bytes (at + 10) i (word to 0) in
    let one = exchanged bytes at transport transport i k (word to 0) found there even (omega arith) in
    let two = exchanged middle at transport transport (i + 2) (k + 2) (word to 2) one.same.found (omega arith) even2 (omega arith) in
    let stands : IsChecked (Udp place) transport (length bytes) = rw checked at (checked_stands bytes at transport) in
    rw checked (unused_kept bytes middle _ at transport i (word to 0) (word to 2) place _ _ found (omega (arith, header.long)) (omega arith) one two none)

-- a UDP checksum of 0 stays 0
pub unused_readdressed : (bytes : List ℕ) (side : Side) (to : List ℕ) (at transport place : ℕ) → network_of bytes ≡ Ipv4 at transport →
    checked_of bytes at transport ≡ Udp place → word bytes place ≡ 0 → word (readdressed bytes side to) place ≡ 0
unused_readdressed bytes Source to at transport place found checked none =
    rw found (unused_at bytes to at transport (at + 12) 0 place found (omega arith) tt tt (omega arith) checked none)
unused_readdressed bytes Destination to at transport place found checked none =
    rw found (unused_at bytes to at transport (at + 16) 4 place found (omega arith) tt tt (omega arith) checked none)
