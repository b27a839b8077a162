-- The messages that a session sends.
use Rattle.std.specs.Prelude.{ℕ, if◌then◌else◌, nat_lt, List, [], ◌∷◌}
use Rattle.bgp_session.specs.declared.local_sides.Local.{Local}
use Rattle.bgp_messages.specs.declared.messages.Message.{Message}
use Rattle.bgp_messages.specs.declared.messages.Message.TheVariants as messages
use Rattle.bgp_messages.specs.declared.opens.Open.{Open}
use Rattle.bgp_messages.specs.declared.opens.Capability.{Capability}
use Rattle.wire_base.specs.Numbers.{four}

-- the local AS where 2 bytes hold it, else AS_TRANS (RFC 6793, section 9)
abbrev pub short_as : ℕ → ℕ
short_as asn = if nat_lt asn 65536 then asn else 23456

-- AFI 31 and SAFI 9, service function routes (RFC 4760, section 8)
abbrev pub routes_capability : Capability
routes_capability = record { code = 1; body = 0 ∷ 31 ∷ 0 ∷ 9 ∷ [] }

-- the AS in 4 bytes (RFC 6793, section 3)
abbrev pub as_capability : ℕ → Capability
as_capability asn = record { code = 65; body = four asn }

-- the OPEN of the local side: both capabilities in one parameter (RFC 5492, section 4)
abbrev pub opening : Local → Open
opening l = record {
  my_as = short_as l.asn;
  hold = l.hold;
  id = l.id;
  params = (record { caps = routes_capability ∷ as_capability l.asn ∷ [] }) ∷ [];
}

abbrev pub open_message : Local → Message
open_message l = messages.Open (opening l)

-- a NOTIFICATION with its code, its subcode and its data (RFC 4271, section 4.5)
abbrev pub notification : ℕ → ℕ → List ℕ → Message
notification c s i = messages.Notification (record { code = c; subcode = s; info = i })
