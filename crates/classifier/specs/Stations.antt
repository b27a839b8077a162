-- Where a frame begins on its path: the first station of its walk (RFC 7665, sections 4.3 and 4.7; RFC 8300, sections 2.2
-- and 2.3).
use Rattle.std.specs.Prelude.{ℕ, ◌+◌, ◌/◌, List, [], length, false}
use Rattle.wire_base.specs.declared.ids.ForwarderId.{ForwarderId}
use Rattle.wire_base.specs.declared.ids.InstanceId.{InstanceId}
use Rattle.net_frames.specs.Captured.{Captured}
use Rattle.nsh_metadata.specs.Header.{Header, context_bytes, md_of}
use Rattle.nsh_metadata.specs.declared.contexts.Context.{Context}

-- where a frame stands: at which forwarder, as which frame, with which header, and which instances it has visited
pub record Station : Type 0 where
  pub forwarder : ForwarderId
  pub frame : Captured
  pub header : Header
  pub visits : List InstanceId

-- the header of a rule's path: its SPI, SI, TTL and context; O and every unassigned bit are 0, and the Next Protocol is 3,
-- Ethernet
abbrev pub first_header : ℕ → ℕ → ℕ → Context → Header
first_header spi si ttl context = record {
  head = record {
    base = record { oam = false; spare1 = false; ttl = ttl; words = 2 + length (context_bytes context) / 4; spare4 = 0; md = md_of context; next = 3 };
    path = record { spi = spi; si = si };
  };
  context = context;
}

-- a frame begins at the ingress forwarder, and has visited nothing
abbrev pub first_station : ForwarderId → Captured → Header → Station
first_station ingress frame header = record { forwarder = ingress; frame = frame; header = header; visits = [] }
