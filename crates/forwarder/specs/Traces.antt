-- The packets of a walk: those that one forwarder hands to another (RFC 7665, section 4.3).
use Rattle.std.specs.Prelude.{◌≡◌, ◌≢◌, ℕ, ◌⊎◌, Bool, true, false, if◌then◌else◌, List, [], ◌∷◌, ◌++◌}
use Rattle.wire_base.specs.declared.ids.ForwarderId.{ForwarderId}
use Rattle.net_frames.specs.Captured.{Captured}
use Rattle.nsh_metadata.specs.Header.{Header, IsNsh}
use Rattle.classifier.specs.Stations.{Station}

-- the Ethernet header of a packet from a forwarder to another: its type is 894F (RFC 8300, section 10.1), and the addresses, of this
-- project's own, have the forwarders' numbers
abbrev pub outer : ForwarderId → ForwarderId → List ℕ
outer other forwarder =
    2 ∷ 0 ∷ 0 ∷ 0 ∷ 0 ∷ other.0 ∷ 2 ∷ 0 ∷ 0 ∷ 0 ∷ 0 ∷ forwarder.0 ∷ 137 ∷ 79 ∷ []

-- a packet from a forwarder to another: the Ethernet header, the spelling of the header, the frame
pub record IsPacket (forwarder other : ForwarderId) (header : Header) (frame packet : List ℕ) : Type 0 where
  pub spelling : List ℕ
  pub spelled : IsNsh spelling header
  pub whole : packet ≡ outer other forwarder ++ (spelling ++ frame)

-- the packets from a station on over the later ones: one for each station that is at another forwarder than the one before
abbrev pub TracesFrom : Station → List Station → List (List ℕ) → Type 0
TracesFrom s [] packets = packets ≡ []
TracesFrom s (next ∷ later) packets =
    ((next.forwarder ≡ s.forwarder) × TracesFrom next later packets)
    ⊎ ((next.forwarder ≢ s.forwarder) × (packet : List ℕ) × (rest : List (List ℕ)) × (packets ≡ packet ∷ rest)
    × IsPacket s.forwarder next.forwarder next.header next.frame.bytes packet × TracesFrom next later rest)

-- the packets of a walk's stations
abbrev pub Traces : List Station → List (List ℕ) → Type 0
Traces [] packets = packets ≡ []
Traces (first ∷ later) packets = TracesFrom first later packets

-- what a workspace shows: its frame, whether it keeps packets, and those that it kept
pub record Worked : Type 0 where
  pub frame : Captured
  pub traced : Bool
  pub packets : List (List ℕ)

-- the packets kept are those of the stations, where packets are kept; else there are none
pub record KeepsTrace (kept : Bool) (stations : List Station) (packets : List (List ℕ)) : Type 0 where
  pub whole : kept ≡ true → Traces stations packets
  pub none : kept ≡ false → packets ≡ []

-- what a trace shows: whether it keeps packets, and those that it kept
pub record Traced : Type 0 where
  pub kept : Bool
  pub packets : List (List ℕ)

-- with one packet more, where they are kept
abbrev pub with_packet : Traced → List ℕ → Traced
with_packet trace packet = if trace.kept then record trace { packets = trace.packets ++ packet ∷ [] } else trace
