-- What is cut off the front of bytes: a route, and the head of kind 14.
use Rattle.std.specs.Prelude.{◌≡◌, ℕ, ◌^◌, ◌<◌, List, ◌++◌, length}
use Rattle.wire_base.specs.Numbers.{two}
use Rattle.bgp_update.specs.Refusals.{WrongSize}

-- the bytes are a route's type, a length, a body, and what follows
pub record SplitsNlri (bytes : List ℕ) (kind : ℕ) (body more : List ℕ) : Type 0 where
  pub parts : bytes ≡ two kind ++ two (length body) ++ body ++ more
  pub kind_fits : kind < 2 ^ 16
  pub size_fits : length body < 2 ^ 16

-- and the length is that of the type
pub record SplitsRoute (bytes : List ℕ) (kind : ℕ) (body more : List ℕ) : Type 0 where
  pub whole : SplitsNlri bytes kind body more
  pub right : ¬ WrongSize kind (length body)
