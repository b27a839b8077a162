-- Where the headers stand does not change with bytes behind the first of the network header.
use Rattle.std.proofs.Common.{◌≡◌, ℕ, ◌+◌, ◌-◌, ◌*◌, ◌/◌, ◌<◌, ◌≤◌, Bool, true, false, cond, List, length, refl, ◌∙◌, arith}
use Rattle.std.proofs.lemmas.Bool.Decides.{nat_tests}
use Rattle.std.proofs.Math.Bool.{and-false}
use Rattle.std.specs.Prelude.{slice_index}
use Rattle.net_frames.specs.Words.{word, with_word}
use Rattle.net_frames.specs.Layouts.{is_tag, tags, network_at, header_length, is_ipv4, is_ipv6, network_of, is_first, checked_of}
use Rattle.net_frames.specs.declared.layouts.Network.TheVariants.{Ipv4, Ipv6, Other}
use Rattle.net_frames.specs.declared.layouts.Checked.{Checked}
use Rattle.net_frames.specs.declared.layouts.Checked.TheVariants.{Tcp, Udp, Unchecked}
use Rattle.net_frames.proofs.WordLemmas.{length-with_word, byte_elsewhere, word_same}

-- equal bytes before the place `at`, in lists of one length
pub record SameBefore (bytes others : List ℕ) (at : ℕ) : Type 0 where
  pub count : length others ≡ length bytes
  pub each : (k : ℕ) → k < at → slice_index others k ≡ slice_index bytes k

-- an IPv4 header, as it is found
pub record IsFound (bytes : List ℕ) (at transport : ℕ) : Type 0 where
  pub begins : network_at bytes ≡ at
  pub low : 14 ≤ at
  pub shown : is_ipv4 bytes at ≡ true
  pub ends : at + header_length bytes at ≡ transport
  pub long : at + 20 ≤ transport
  pub captured : transport ≤ length bytes
  pub version : slice_index bytes at / 16 ≡ 4

-- the choice of an IPv4 header among the three
ipv4_chosen : (shown six : Bool) (a t s at transport : ℕ) → cond shown (Ipv4 a t) (cond six (Ipv6 a s) Other) ≡ Ipv4 at transport →
    (shown ≡ true) × (a ≡ at) × (t ≡ transport)
ipv4_chosen true six a t s at transport found = (refl, (cc), (cc))
ipv4_chosen false true a t s at transport found = absurd (cc)
ipv4_chosen false false a t s at transport found = absurd (cc)

pub record IsShown (bytes : List ℕ) (at : ℕ) : Type 0 where
  pub kind : word bytes (at - 2) ≡ 2048
  pub version : slice_index bytes at / 16 ≡ 4
  pub long : 20 ≤ header_length bytes at
  pub captured : at + header_length bytes at ≤ length bytes

-- what the test for an IPv4 header says
pub shown_header : (bytes : List ℕ) (at : ℕ) → is_ipv4 bytes at ≡ true → IsShown bytes at
unfolding is_ipv4
shown_header bytes at shown = record {
  kind = grind (arith, nat_tests);
  version = grind (arith, nat_tests);
  long = grind (arith, nat_tests);
  captured = grind (arith, nat_tests);
}

pub found_header : (bytes : List ℕ) (at transport : ℕ) → network_of bytes ≡ Ipv4 at transport → IsFound bytes at transport
unfolding network_of network_at
found_header bytes at transport found =
    let here = network_at bytes in
    let chosen = ipv4_chosen (is_ipv4 bytes here) (is_ipv6 bytes here) here (here + header_length bytes here) (here + 40) at transport found in
    let shown : is_ipv4 bytes at ≡ true = rw (← chosen.1) chosen.0 in
    let header = shown_header bytes at shown in
    let ends : at + header_length bytes at ≡ transport = rw (← chosen.1) chosen.2 in
    record {
      begins = chosen.1;
      low = omega (arith, chosen.1);
      shown = shown;
      ends = ends;
      long = omega arith;
      captured = omega arith;
      version = header.version;
    }

same_tag : (bytes others : List ℕ) (i : ℕ) → length others ≡ length bytes → word others i ≡ word bytes i → is_tag others i ≡ is_tag bytes i
unfolding is_tag
same_tag bytes others i count same = rw (count, same) refl

-- the second test counts only under the first
counted : (first second first' second' : Bool) → first' ≡ first → (first ≡ true → second' ≡ second) →
    14 + 4 * cond first' (cond second' 2 1) 0 ≡ 14 + 4 * cond first (cond second 2 1) 0
counted true second first' second' same next = rw (same, next refl) refl
counted false second first' second' same next = rw same refl

pub behind_a_tag : (first second : Bool) → first ≡ true → 18 ≤ 14 + 4 * cond first (cond second 2 1) 0
behind_a_tag true true is = omega arith
behind_a_tag true false is = omega arith
behind_a_tag false second is = absurd (cc)

pub same_network_at : (bytes others : List ℕ) → SameBefore bytes others (network_at bytes) → network_at others ≡ network_at bytes
unfolding network_at tags
same_network_at bytes others same =
    let first : is_tag others 12 ≡ is_tag bytes 12 =
    same_tag bytes others 12 same.count (word_same bytes others 12 (same.each 12 (omega arith)) (same.each 13 (omega arith))) in
    counted (is_tag bytes 12) (is_tag bytes 16) (is_tag others 12) (is_tag others 16) first (λ tagged.
    let far = behind_a_tag (is_tag bytes 12) (is_tag bytes 16) tagged in
    same_tag bytes others 16 same.count (word_same bytes others 16 (same.each 16 (omega (arith, far))) (same.each 17 (omega (arith, far)))))

pub same_network : (bytes others : List ℕ) (at transport : ℕ) → network_of bytes ≡ Ipv4 at transport → SameBefore bytes others at →
    slice_index others at ≡ slice_index bytes at → network_of others ≡ Ipv4 at transport
unfolding network_of is_ipv4 header_length
same_network bytes others at transport found same first =
    let header = found_header bytes at transport found in
    let there : network_at others ≡ at =
    same_network_at bytes others (record { count = same.count; each = λ k low. same.each k (omega (arith, header.begins)) }) ∙ header.begins in
    let kind : word others (at - 2) ≡ word bytes (at - 2) =
    word_same bytes others (at - 2) (same.each (at - 2) (omega (arith, header.low))) (same.each (at - 2 + 1) (omega (arith, header.low))) in
    rw (there, kind, first, same.count, header.shown, header.ends) refl

-- a word written at the network header or behind it, where the header's first byte stays
pub network_kept : (bytes : List ℕ) (at transport i number : ℕ) → network_of bytes ≡ Ipv4 at transport → at ≤ i →
    slice_index (with_word bytes i number) at ≡ slice_index bytes at → network_of (with_word bytes i number) ≡ Ipv4 at transport
network_kept bytes at transport i number found behind first =
    same_network bytes (with_word bytes i number) at transport found
    (record { count = length-with_word bytes i number; each = λ k before. byte_elsewhere bytes i number k (omega arith) (omega arith) }) first

-- where a transport checksum is found, it stands in the transport header
abbrev pub IsChecked : Checked → ℕ → ℕ → Type 0
IsChecked (Tcp place) transport count = (place ≡ transport + 16) × (place + 2 ≤ count)
IsChecked (Udp place) transport count = (place ≡ transport + 6) × (place + 2 ≤ count)
IsChecked Unchecked transport count = Unit {0}

checked_chosen : (tcp udp : Bool) (transport count : ℕ) → (tcp ≡ true → transport + 18 ≤ count) → (udp ≡ true → transport + 8 ≤ count) →
    IsChecked (cond tcp (Tcp (transport + 16)) (cond udp (Udp (transport + 6)) Unchecked)) transport count
checked_chosen true udp transport count far near = (refl, omega (arith, far refl))
checked_chosen false true transport count far near = (refl, omega (arith, near refl))
checked_chosen false false transport count far near = tt

pub checked_stands : (bytes : List ℕ) (at transport : ℕ) → IsChecked (checked_of bytes at transport) transport (length bytes)
unfolding checked_of
checked_stands bytes at transport =
    checked_chosen _ _ transport (length bytes) (λ tcp. grind (arith, nat_tests)) (λ udp. grind (arith, nat_tests))

-- it is found where it was, in bytes that say the same of the fragment and the protocol
pub same_checked : (bytes others : List ℕ) (at transport : ℕ) → length others ≡ length bytes →
    word others (at + 6) ≡ word bytes (at + 6) → slice_index others (at + 9) ≡ slice_index bytes (at + 9) →
    checked_of others at transport ≡ checked_of bytes at transport
unfolding checked_of is_first
same_checked bytes others at transport count fragment protocol = rw (count, fragment, protocol) refl

-- a type that is no tag's
pub not_tag : (bytes : List ℕ) (i : ℕ) → word bytes i ≡ 2048 → is_tag bytes i ≡ false
unfolding is_tag
not_tag bytes i kind = rw (kind, and-false) refl
