-- The ranges of what the local side says of itself in an OPEN message (RFC 4271, section 4.2).
use Rattle.std.specs.Prelude.{◌≢◌, ℕ, ◌<◌, ◌≤◌, ◌^◌}
use Rattle.bgp_session.specs.declared.local_sides.Local.{Local}

-- the local side of three numbers
abbrev pub local_side : ℕ → ℕ → ℕ → Local
local_side a i h = record { asn = a; id = i; hold = h }

-- an AS number that is not 0, an identifier that is not 0, and a hold time of 0 or of at least 3 seconds
pub record IsLocal (l : Local) : Type 0 where
  pub asn_some : 1 ≤ l.asn
  pub asn_most : l.asn < 2 ^ 32
  pub id_some : 1 ≤ l.id
  pub id_most : l.id < 2 ^ 32
  pub hold_least : l.hold ≢ 0 → 3 ≤ l.hold
  pub hold_most : l.hold < 2 ^ 16
