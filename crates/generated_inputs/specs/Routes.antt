-- The routes of generated inputs: the three instances of the setup, and a path over them (after RFC 9015, section 3).
use Rattle.std.specs.Prelude.{ℕ, List, [], ◌∷◌, replicate, Some, None}
use Rattle.wire_base.specs.declared.next_hops.NextHop.{NextHop}
use Rattle.wire_base.specs.declared.next_hops.NextHop.TheVariants.{Four}
use Rattle.bgp_update.specs.declared.routes.Nlri.TheVariants.{Sfir, Sfpr}
use Rattle.sfp_attribute.specs.declared.sfps.Part.{Part}
use Rattle.sfp_attribute.specs.declared.sfps.Part.TheVariants.{Hop}
use Rattle.sfp_attribute.specs.declared.sfps.HopPart.TheVariants.{Sft}
use Rattle.sfc_routes.specs.declared.routes.Route.{Route}

-- the route distinguisher with this number, of type 0 and AS 65000 (RFC 4364, section 4.2)
abbrev pub rd_with : ℕ → List ℕ
rd_with number = 0 ∷ 0 ∷ 253 ∷ 232 ∷ 0 ∷ 0 ∷ 0 ∷ number ∷ []

-- the one that stands for every instance of a type
abbrev pub any_rd : List ℕ
any_rd = replicate 8 0

-- an instance of this type at the forwarder 10.0.0.`last`
abbrev pub instance_route : (number kind last : ℕ) → Route
instance_route number kind last = record { nlri = Sfir (rd_with number) kind; next_hop = Four (10 ∷ 0 ∷ 0 ∷ last ∷ []); targets = []; path = None }

-- a hop with one type and one route distinguisher
abbrev pub hop_to : (si kind : ℕ) → List ℕ → Part
hop_to si kind rd = Hop si (Sft kind (rd ∷ []) ∷ [])

-- path 42: any tag, then the address translation, then the firewall
abbrev pub path_route : Route
path_route = record {
  nlri = Sfpr (rd_with 42) 42;
  next_hop = Four (replicate 4 0);
  targets = [];
  path = Some (record { parts = hop_to 255 43 any_rd ∷ hop_to 254 42 (rd_with 2) ∷ hop_to 253 41 (rd_with 1) ∷ [] });
}

-- the firewall's route, which comes and goes
abbrev pub firewall_route : Route
firewall_route = instance_route 1 41 2

abbrev pub generated_routes : List Route
generated_routes = firewall_route ∷ instance_route 2 42 1 ∷ instance_route 3 43 1 ∷ path_route ∷ []
