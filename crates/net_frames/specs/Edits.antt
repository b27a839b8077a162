-- The bytes that each edit of a frame leaves.
use Rattle.std.specs.Prelude.{ℕ, ◌+◌, ◌-◌, ◌*◌, ◌/◌, ◌%◌, ◌==◌, ◌≤◌, ◌<◌, ◌⊎◌, Bool, false, if◌then◌else◌, nat_le, List, [], ◌∷◌, ◌++◌, length, take, drop, slice_index}
use Rattle.net_frames.specs.Words.{word, with_word}
use Rattle.net_frames.specs.Checksums.{adjust, reworded}
use Rattle.net_frames.specs.Captured.{Captured}
use Rattle.net_frames.specs.Layouts.{is_tag, network_of, checked_of}
use Rattle.net_frames.specs.declared.contents.Side.{Side}
use Rattle.net_frames.specs.declared.contents.Side.TheVariants.{Source, Destination}
use Rattle.net_frames.specs.declared.edits.Address.{Address}
use Rattle.net_frames.specs.declared.layouts.Network.{Network}
use Rattle.net_frames.specs.declared.layouts.Network.TheVariants.{Ipv4, Ipv6, Other}
use Rattle.net_frames.specs.declared.layouts.Checked.{Checked}
use Rattle.net_frames.specs.declared.layouts.Checked.TheVariants.{Tcp, Udp, Unchecked}

-- the frame with other bytes, as many as before
abbrev pub with_bytes : Captured → List ℕ → Captured
with_bytes frame bytes = record frame { bytes = bytes }

-- the DSCP (RFC 2474, section 3): the upper 6 bits of IPv4's TOS byte, or of IPv6's traffic class, bits 4 to 11 of the header
abbrev pub marked_in : Network → List ℕ → ℕ → List ℕ
marked_in (Ipv4 at _) bytes dscp = reworded bytes (at + 10) at (word bytes at / 256 * 256 + 4 * dscp + word bytes at % 4)
marked_in (Ipv6 at _) bytes dscp = with_word bytes at (word bytes at / 4096 * 4096 + 64 * dscp + word bytes at % 64)
marked_in Other bytes dscp = bytes

abbrev pub marked : List ℕ → ℕ → List ℕ
marked bytes dscp = marked_in (network_of bytes) bytes dscp

-- where the address of one side stands in an IPv4 header
abbrev pub address_at : Side → ℕ → ℕ
address_at Source at = at + 12
address_at Destination at = at + 16

-- FFFF in place of 0
abbrev pub nonzero : ℕ → ℕ
nonzero sum = if sum == 0 then 65535 else sum

-- the two words of the address at i
abbrev pub address_in : List ℕ → ℕ → Address
address_in bytes i = record { high = word bytes i; low = word bytes (i + 2) }

-- a checksum adjusted for an address that changes: for its first word, then for its second
abbrev pub adjust_address : ℕ → Address → Address → ℕ
adjust_address checksum before after = adjust (adjust checksum before.high after.high) before.low after.low

-- the transport checksum adjusted for an address. A UDP checksum of 0 says that there is none, and one that comes out
-- as 0 is written FFFF (RFC 768)
unfoldable pub rechecked : Checked → List ℕ → Address → Address → List ℕ
rechecked (Tcp place) bytes before after = with_word bytes place (adjust_address (word bytes place) before after)
rechecked (Udp place) bytes before after =
    if word bytes place == 0 then bytes
    else with_word bytes place (nonzero (adjust_address (word bytes place) before after))
rechecked Unchecked bytes before after = bytes

-- IPv4's address of one side replaced: its two words with the header's checksum, then the transport checksum
abbrev pub readdressed_in : Network → List ℕ → Side → List ℕ → List ℕ
readdressed_in (Ipv4 at transport) bytes side to =
    let i = address_at side at in
    rechecked (checked_of bytes at transport)
    (reworded (reworded bytes (at + 10) i (word to 0)) (at + 10) (i + 2) (word to 2))
    (address_in bytes i) (address_in to 0)
readdressed_in (Ipv6 _ _) bytes side to = bytes
readdressed_in Other bytes side to = bytes

abbrev pub readdressed : List ℕ → Side → List ℕ → List ℕ
readdressed bytes side to = readdressed_in (network_of bytes) bytes side to

-- the hop limit is 0 or 1: IPv4's TTL, byte 8 of the header (RFC 1812, section 5.3.1), or IPv6's hop limit, byte 7
-- (RFC 8200, section 3)
abbrev pub expires_in : Network → List ℕ → Bool
expires_in (Ipv4 at _) bytes = nat_le (slice_index bytes (at + 8)) 1
expires_in (Ipv6 at _) bytes = nat_le (slice_index bytes (at + 7)) 1
expires_in Other bytes = false

abbrev pub expires : List ℕ → Bool
expires bytes = expires_in (network_of bytes) bytes

-- the hop limit lowered by 1: the upper byte of IPv4's word 8, or the lower byte of IPv6's word 6
abbrev pub lowered_in : Network → List ℕ → List ℕ
lowered_in (Ipv4 at _) bytes = reworded bytes (at + 10) (at + 8) (word bytes (at + 8) - 256)
lowered_in (Ipv6 at _) bytes = with_word bytes (at + 6) (word bytes (at + 6) - 1)
lowered_in Other bytes = bytes

abbrev pub lowered : List ℕ → List ℕ
lowered bytes = lowered_in (network_of bytes) bytes

-- the frame without its first tag
abbrev pub untagged : Captured → Captured
untagged frame =
    if is_tag frame.bytes 12
    then record { room = frame.room; bytes = take 12 frame.bytes ++ drop 16 frame.bytes; original = frame.original - 4 }
    else frame

-- a tag of this VLAN, with priority 0 (IEEE 802.1Q)
abbrev pub tag_of : ℕ → List ℕ
tag_of vid = 129 ∷ 0 ∷ vid / 256 ∷ vid % 256 ∷ []

-- the frame with this tag as its first; where fewer than 12 bytes are captured, the frame
abbrev pub tagged : Captured → ℕ → Captured
tagged frame vid =
    if nat_le 12 (length frame.bytes)
    then record { room = frame.room; bytes = take 12 frame.bytes ++ (tag_of vid ++ drop 12 frame.bytes); original = frame.original + 4 }
    else frame

-- a tag would take the frame past its room, or past 262,144 captured bytes
abbrev pub IsFullFor : Captured → Type 0
IsFullFor frame = (12 ≤ length frame.bytes) × ((frame.room < length frame.bytes + 4) ⊎ (262144 < length frame.bytes + 4))
