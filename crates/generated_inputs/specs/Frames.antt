-- Generated frames: TCP over IPv4 from one host to a network (RFC 791, section 3.1; RFC 9293, section 3.1).
use Rattle.std.specs.Prelude.{ℕ, ◌+◌, ◌-◌, ◌%◌, ◌==◌, if◌then◌else◌, List, [], ◌∷◌, ◌++◌, map, replicate, sum}
use Rattle.std.specs.List.{flat_map, range_with_len}
use Rattle.wire_base.specs.Numbers.{two}
use Rattle.net_frames.specs.Checksums.{fold}
use Rattle.pcap_io.specs.declared.frames.Captured.{Captured}
use Rattle.generated_inputs.specs.Draws.{drawn}

-- two Ethernet addresses and EtherType 0800
abbrev pub link_bytes : List ℕ
link_bytes = 2 ∷ 0 ∷ 0 ∷ 0 ∷ 0 ∷ 2 ∷ 2 ∷ 0 ∷ 0 ∷ 0 ∷ 0 ∷ 1 ∷ 8 ∷ 0 ∷ []

-- the ten 16-bit words of an IPv4 header of a packet of this size: a hop limit of 64, not to be fragmented, TCP, from 10.1.0.5 to the
-- address of 198.51.100.0/24 that ends in `last`, with this identification and this word as checksum
abbrev pub header_words : (size identification last checksum : ℕ) → List ℕ
header_words size identification last checksum =
    17664 ∷ size ∷ identification ∷ 16384 ∷ 16390 ∷ checksum ∷ 2561 ∷ 5 ∷ 50739 ∷ (25600 + last) ∷ []

-- the checksum over words among which its own is 0: the words and it fold to FFFF (RFC 1071, section 1)
abbrev pub checksum_over : List ℕ → ℕ
checksum_over words = 65535 - fold (sum words)

abbrev pub header_bytes : (size identification last : ℕ) → List ℕ
header_bytes size identification last = flat_map two (header_words size identification last (checksum_over (header_words size identification last 0)))

-- to telnet where the draw is a multiple of 16, else to HTTPS
abbrev pub to_port : ℕ → ℕ
to_port draw = if draw % 16 == 0 then 23 else 443

-- the frame with this number, for this draw: 60 to 1,500 bytes, of which all behind the ports are 0
abbrev pub frame_bytes : (number draw : ℕ) → List ℕ
frame_bytes number draw =
    link_bytes ++ header_bytes (46 + draw % 1441) (number % 65536) (draw % 256) ++ two 49152 ++ two (to_port draw) ++ replicate (22 + draw % 1441) 0

-- captured whole at the second of its number
abbrev pub frame_for : (number draw : ℕ) → Captured
frame_for number draw = record { seconds = number; fraction = 0; original = 60 + draw % 1441; bytes = frame_bytes number draw }

-- one draw for each frame, in order
abbrev pub generated_frames : (seed count : ℕ) → List Captured
generated_frames seed count = map (λ number. frame_for number (drawn seed number)) (range_with_len 0 count)
