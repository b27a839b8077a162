-- The fields of a frame, read from its captured bytes (IEEE 802.1Q; RFC 791, section 3.1; RFC 8200, section 3).
use Rattle.std.specs.Prelude.{ℕ, ◌+◌, ◌-◌, ◌%◌, ◌==◌, ◌||◌, ◌&&◌, Bool, if◌then◌else◌, List, slice_index, slice_range, Option, Some, None}
use Rattle.wire_base.specs.declared.next_hops.NextHop.{NextHop}
use Rattle.wire_base.specs.declared.next_hops.NextHop.TheVariants.{Four, Sixteen}
use Rattle.net_frames.specs.Words.{word}
use Rattle.net_frames.specs.Layouts.{is_tag, network_at, network_of, is_first, captured_word}
use Rattle.net_frames.specs.declared.layouts.Network.{Network}
use Rattle.net_frames.specs.declared.layouts.Network.TheVariants.{Ipv4, Ipv6, Other}
use Rattle.net_frames.specs.declared.contents.Fields.{Fields}

-- the low 12 bits of the first tag
unfoldable pub vlan_of : List ℕ → Option ℕ
vlan_of bytes = if is_tag bytes 12 then Some (word bytes 14 % 4096) else None

-- the Ethernet type: the two bytes behind the tags
unfoldable pub ether_of : List ℕ → Option ℕ
ether_of bytes = captured_word bytes (network_at bytes - 2)

-- the source address of the network header
abbrev pub source_of : List ℕ → Network → Option NextHop
source_of bytes (Ipv4 at _) = Some (Four (slice_range bytes (at + 12) (at + 16)))
source_of bytes (Ipv6 at _) = Some (Sixteen (slice_range bytes (at + 8) (at + 24)))
source_of bytes Other = None

-- its destination address
abbrev pub destination_of : List ℕ → Network → Option NextHop
destination_of bytes (Ipv4 at _) = Some (Four (slice_range bytes (at + 16) (at + 20)))
destination_of bytes (Ipv6 at _) = Some (Sixteen (slice_range bytes (at + 24) (at + 40)))
destination_of bytes Other = None

-- IPv4's protocol, or IPv6's next header
abbrev pub protocol_of : List ℕ → Network → Option ℕ
protocol_of bytes (Ipv4 at _) = Some (slice_index bytes (at + 9))
protocol_of bytes (Ipv6 at _) = Some (slice_index bytes (at + 6))
protocol_of bytes Other = None

-- TCP (RFC 9293, section 3.1) and UDP (RFC 768) have ports
abbrev pub has_ports : ℕ → Bool
has_ports protocol = protocol == 6 || protocol == 17

-- the destination port: the second word of TCP's or UDP's header, which with IPv4 stands in a first fragment
abbrev pub to_port_of : List ℕ → Network → Option ℕ
to_port_of bytes (Ipv4 at transport) =
    if is_first bytes at && has_ports (slice_index bytes (at + 9)) then captured_word bytes (transport + 2) else None
to_port_of bytes (Ipv6 at transport) =
    if has_ports (slice_index bytes (at + 6)) then captured_word bytes (transport + 2) else None
to_port_of bytes Other = None

-- all fields
abbrev pub fields_of : List ℕ → Fields
fields_of bytes = record {
  vlan = vlan_of bytes;
  ether = ether_of bytes;
  source = source_of bytes (network_of bytes);
  destination = destination_of bytes (network_of bytes);
  protocol = protocol_of bytes (network_of bytes);
  to_port = to_port_of bytes (network_of bytes);
}
