-- The two sides of a session, and their ranges.
use Rattle.std.specs.Prelude.{ℕ, ◌<◌, ◌≤◌, ◌^◌}
use Rattle.bgp_session.specs.declared.local_sides.Local.{Local}
use Rattle.bgp_session.specs.LocalSide.{IsLocal}
use Rattle.session_machine.specs.declared.sides.Side.{Side}

-- the local side, the peer's number and the peer's AS
abbrev pub side_of : Local → ℕ → ℕ → Side
side_of l p a = record { local = l; peer = p; peer_as = a }

-- a peer's number and its AS are not 0
pub record IsPeer (number asn : ℕ) : Type 0 where
  pub number_some : 1 ≤ number
  pub number_most : number < 2 ^ 16
  pub asn_some : 1 ≤ asn
  pub asn_most : asn < 2 ^ 32

pub record IsSide (s : Side) : Type 0 where
  pub local : IsLocal s.local
  pub peer : IsPeer s.peer s.peer_as
