-- Where the headers of a captured frame stand: up to two VLAN tags (IEEE 802.1Q, 802.1ad), then the Ethernet type, then
-- an IPv4 header (RFC 791, section 3.1) or an IPv6 header (RFC 8200, section 3).
use Rattle.std.specs.Prelude.{ℕ, ◌+◌, ◌-◌, ◌*◌, ◌/◌, ◌%◌, ◌==◌, ◌&&◌, ◌||◌, ◌≤◌, Bool, if◌then◌else◌, nat_le, List, length, slice_index, Option, Some, None}
use Rattle.net_frames.specs.Words.{word}
use Rattle.net_frames.specs.declared.layouts.Network.{Network}
use Rattle.net_frames.specs.declared.layouts.Network.TheVariants.{Ipv4, Ipv6, Other}
use Rattle.net_frames.specs.declared.layouts.Checked.{Checked}
use Rattle.net_frames.specs.declared.layouts.Checked.TheVariants.{Tcp, Udp, Unchecked}

-- a tag stands at i: 4 captured bytes, of which the first two are 81 00 or 88 A8
unfoldable pub is_tag : List ℕ → ℕ → Bool
is_tag bytes i = nat_le (i + 4) (length bytes) && (word bytes i == 33024 || word bytes i == 34984)

-- how many tags stand from byte 12 on, two at most
unfoldable pub tags : List ℕ → ℕ
tags bytes = if is_tag bytes 12 then (if is_tag bytes 16 then 2 else 1) else 0

-- where the network header begins, behind the tags and the two bytes of the Ethernet type
unfoldable pub network_at : List ℕ → ℕ
network_at bytes = 14 + 4 * tags bytes

-- the bytes of the IPv4 header at `at`: four for each word that its low half-byte counts
unfoldable pub header_length : List ℕ → ℕ → ℕ
header_length bytes at = 4 * (slice_index bytes at % 16)

-- an IPv4 header of at least 5 words is captured whole at `at`, and the type before it is 0800
unfoldable pub is_ipv4 : List ℕ → ℕ → Bool
is_ipv4 bytes at =
    (word bytes (at - 2) == 2048 && slice_index bytes at / 16 == 4)
    && (nat_le 20 (header_length bytes at) && nat_le (at + header_length bytes at) (length bytes))

-- an IPv6 header is captured whole at `at`, and the type before it is 86DD
unfoldable pub is_ipv6 : List ℕ → ℕ → Bool
is_ipv6 bytes at = word bytes (at - 2) == 34525 && slice_index bytes at / 16 == 6 && nat_le (at + 40) (length bytes)

-- the network header, with where it and the transport header begin
unfoldable pub network_of : List ℕ → Network
network_of bytes = let at = network_at bytes in
    if is_ipv4 bytes at then Ipv4 at (at + header_length bytes at)
    else if is_ipv6 bytes at then Ipv6 at (at + 40) else Other

-- both headers stand within so many bytes
abbrev pub StandsIn : Network → ℕ → Type 0
StandsIn (Ipv4 at transport) count = (14 ≤ at) × (at + 20 ≤ transport) × (transport ≤ count)
StandsIn (Ipv6 at transport) count = (14 ≤ at) × (at + 40 ≤ transport) × (transport ≤ count)
StandsIn Other count = Unit {0}

-- the IPv4 packet is whole or the first of its fragments: its fragment offset is 0
unfoldable pub is_first : List ℕ → ℕ → Bool
is_first bytes at = word bytes (at + 6) % 8192 == 0

-- the word at i, where both its bytes are captured
unfoldable pub captured_word : List ℕ → ℕ → Option ℕ
captured_word bytes i = if nat_le (i + 2) (length bytes) then Some (word bytes i) else None

-- where the transport checksum stands that covers IPv4's addresses: TCP's at 16 (RFC 9293, section 3.1) and UDP's at 6
-- (RFC 768) of the transport header, in a first fragment, where its two bytes are captured
unfoldable pub checked_of : List ℕ → ℕ → ℕ → Checked
checked_of bytes at transport =
    let protocol = slice_index bytes (at + 9) in
    if is_first bytes at && protocol == 6 && nat_le (transport + 18) (length bytes) then Tcp (transport + 16)
    else if is_first bytes at && protocol == 17 && nat_le (transport + 8) (length bytes) then Udp (transport + 6)
    else Unchecked

-- the checksum stands within so many bytes
abbrev pub ChecksIn : Checked → ℕ → Type 0
ChecksIn (Tcp place) count = place + 2 ≤ count
ChecksIn (Udp place) count = place + 2 ≤ count
ChecksIn Unchecked count = Unit {0}
