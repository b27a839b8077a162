-- Routes of the service function family and their one spelling (after RFC 9015, section 3): a route type in 2 bytes, the
-- length of a body in 2 bytes, the body.
use Rattle.std.specs.Prelude.{◌≡◌, ◌≢◌, ℕ, ◌^◌, ◌<◌, List, ◌++◌, length}
use Rattle.std.specs.List.{flat_map, AllByRecursion}
use Rattle.wire_base.specs.Numbers.{two, three}
use Rattle.bgp_update.specs.declared.routes.Nlri.{Nlri}
use Rattle.bgp_update.specs.declared.routes.Nlri.TheVariants as routes

abbrev pub kind_of : Nlri → ℕ
kind_of (routes.Sfir rd kind) = 1
kind_of (routes.Sfpr rd spi) = 2
kind_of (routes.Other kind body) = kind

-- type 1 has an RD and a service function type, type 2 an RD and an SPI
abbrev pub inside : Nlri → List ℕ
inside (routes.Sfir rd kind) = rd ++ two kind
inside (routes.Sfpr rd spi) = rd ++ three spi
inside (routes.Other kind body) = body

abbrev pub nlri_bytes : Nlri → List ℕ
nlri_bytes r = two (kind_of r) ++ two (length (inside r)) ++ inside r

abbrev pub list_bytes : List Nlri → List ℕ
list_bytes rs = flat_map nlri_bytes rs

-- each field has its size, and what is kept unread is of another type
abbrev pub NlriFits : Nlri → Type 0
NlriFits (routes.Sfir rd kind) = (length rd ≡ 8) × (kind < 2 ^ 16)
NlriFits (routes.Sfpr rd spi) = (length rd ≡ 8) × (spi < 2 ^ 24)
NlriFits (routes.Other kind body) = (kind ≢ 1) × (kind ≢ 2) × (kind < 2 ^ 16) × (length body < 2 ^ 16)

abbrev pub ListFits : List Nlri → Type 0
ListFits rs = AllByRecursion NlriFits rs
