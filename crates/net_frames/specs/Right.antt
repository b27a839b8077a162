-- When a checksum is right: the 16-bit words that it covers, itself among them, fold to FFFF (RFC 1071, section 1).
use Rattle.std.specs.Prelude.{ℕ, ◌≡◌, ◌≢◌, ◌+◌, ◌-◌, ◌*◌, ◌%◌, ◌≤◌, ◌⊎◌, List, [], ◌∷◌, length, slice_index, slice_range}
use Rattle.net_frames.specs.Words.{word}
use Rattle.net_frames.specs.Checksums.{fold}
use Rattle.net_frames.specs.Layouts.{network_of, checked_of}
use Rattle.net_frames.specs.declared.layouts.Network.TheVariants.{Ipv4, Ipv6}
use Rattle.net_frames.specs.declared.layouts.Checked.{Checked}
use Rattle.net_frames.specs.declared.layouts.Checked.TheVariants.{Tcp, Udp, Unchecked}

-- the sum of the words of a list of bytes; an odd last byte stands with a byte 0 behind it
abbrev pub words_sum : List ℕ → ℕ
words_sum [] = 0
words_sum (high ∷ []) = 256 * high
words_sum (high ∷ low ∷ rest) = 256 * high + low + words_sum rest

-- words of this sum fold to FFFF
abbrev pub IsRight : ℕ → Type 0
IsRight sum = fold sum ≡ 65535

-- there is an IPv4 header, and its words fold to FFFF (RFC 791, section 3.1)
pub record HasRightHeader (bytes : List ℕ) : Type 0 where
  pub at : ℕ
  pub transport : ℕ
  pub found : network_of bytes ≡ Ipv4 at transport
  pub right : IsRight (words_sum (slice_range bytes at transport))

-- where a TCP or UDP segment ends: TCP's by IPv4's total length, UDP's by its own; and that its checksum stands in it.
-- A UDP checksum of 0 says that there is none
abbrev pub EndsAt : Checked → List ℕ → ℕ → ℕ → ℕ → Type 0
EndsAt (Tcp place) bytes at transport end = (end ≡ at + word bytes (at + 2)) × (place + 2 ≤ end)
EndsAt (Udp place) bytes at transport end = (end ≡ transport + word bytes (transport + 4)) × (place + 2 ≤ end) × (word bytes place ≢ 0)
EndsAt Unchecked bytes at transport end = ⊥

-- the sum of a segment's words with those of its pseudo-header: both addresses, the protocol and the segment's length
-- (RFC 9293, section 3.1; RFC 768)
unfoldable pub segment_sum : List ℕ → ℕ → ℕ → ℕ → ℕ
segment_sum bytes at transport end =
    words_sum (slice_range bytes (at + 12) (at + 20)) + slice_index bytes (at + 9) + (end - transport) + words_sum (slice_range bytes transport end)

-- an IPv4 packet that is no fragment has a TCP or UDP segment that is captured whole, and its sum folds to FFFF
pub record HasRightSegment (bytes : List ℕ) : Type 0 where
  pub at : ℕ
  pub transport : ℕ
  pub end : ℕ
  pub found : network_of bytes ≡ Ipv4 at transport
  pub unfragmented : word bytes (at + 6) % 16384 ≡ 0
  pub ends : EndsAt (checked_of bytes at transport) bytes at transport end
  pub captured : end ≤ length bytes
  pub right : IsRight (segment_sum bytes at transport end)

-- the same with IPv6's pseudo-header: both addresses, the segment's length and the next header (RFC 8200, section 8.1)
unfoldable pub ipv6_segment_sum : List ℕ → ℕ → ℕ → ℕ → ℕ
ipv6_segment_sum bytes at transport end =
    words_sum (slice_range bytes (at + 8) (at + 40)) + slice_index bytes (at + 6) + (end - transport) + words_sum (slice_range bytes transport end)

-- where a TCP segment of IPv6 ends, by the payload length, and that its checksum stands in it
pub record IsTcpOverIpv6 (bytes : List ℕ) (at transport end : ℕ) : Type 0 where
  pub protocol : slice_index bytes (at + 6) ≡ 6
  pub ends : end ≡ transport + word bytes (at + 4)
  pub long : transport + 18 ≤ end

-- where a UDP segment of IPv6 ends, by its own length, and that its checksum stands in it and is not 0
pub record IsUdpOverIpv6 (bytes : List ℕ) (at transport end : ℕ) : Type 0 where
  pub protocol : slice_index bytes (at + 6) ≡ 17
  pub ends : end ≡ transport + word bytes (transport + 4)
  pub long : transport + 8 ≤ end
  pub used : word bytes (transport + 6) ≢ 0

-- an IPv6 packet has a TCP or UDP segment behind its header that is captured whole, and its sum folds to FFFF
pub record HasRightIpv6Segment (bytes : List ℕ) : Type 0 where
  pub at : ℕ
  pub transport : ℕ
  pub end : ℕ
  pub found : network_of bytes ≡ Ipv6 at transport
  pub ends : IsTcpOverIpv6 bytes at transport end ⊎ IsUdpOverIpv6 bytes at transport end
  pub captured : end ≤ length bytes
  pub right : IsRight (ipv6_segment_sum bytes at transport end)
