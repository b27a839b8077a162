-- The order of routes: by peer; then SFIRs before SFPRs before all others; then SFIRs by their service function type, SFPRs by
-- their SPI, others by their route type; then by the bytes, which are the RD (this project's own).
use Rattle.std.specs.Prelude.{◌≡◌, ℕ, List, [], ◌∷◌}
use Rattle.std.specs.List.{AllByRecursion}
use Rattle.std.specs.Cmp.Lexicographic.{slice_cmp}
use Rattle.std.specs.Ordering.{nat_cmp}
use Rattle.std.specs.declared.cmp.Ordering.TheVariants.{Less}
use Rattle.bgp_update.specs.declared.routes.Nlri.{Nlri}
use Rattle.bgp_update.specs.declared.routes.Nlri.TheVariants as nlris
use Rattle.sfc_routes.specs.PeerRoutes.{PeerRoute}

-- the numbers that decide, the first place where they differ first
abbrev pub key : ℕ → Nlri → List ℕ
key peer (nlris.Sfir rd kind) = peer ∷ 0 ∷ kind ∷ rd
key peer (nlris.Sfpr rd spi) = peer ∷ 1 ∷ spi ∷ rd
key peer (nlris.Other kind body) = peer ∷ 2 ∷ kind ∷ body

abbrev pub key_of : PeerRoute → List ℕ
key_of e = key e.peer e.route.nlri

abbrev pub IsBefore : List ℕ → List ℕ → Type 0
IsBefore a b = slice_cmp nat_cmp a b ≡ Less

-- each route stands before all behind it, so there is one for a peer and an NLRI
abbrev pub InOrder : List PeerRoute → Type 0
InOrder [] = Unit {0}
InOrder (e ∷ es) = AllByRecursion (λ (f : PeerRoute). IsBefore (key_of e) (key_of f)) es × InOrder es
