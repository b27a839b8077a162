-- The routes of generated inputs may be announced.
use Rattle.std.proofs.Common.{ℕ, ◌<◌, ◌^◌, [], ◌∷◌, length, refl, ap, arith}
use Rattle.std.specs.List.{AllByRecursion}
use Rattle.sfp_attribute.specs.declared.sfps.Sfp.{Sfp}
use Rattle.sfp_attribute.specs.Sfps.{PartFits}
use Rattle.announced_files.specs.Announceable.{IsAnnounceable}
use Rattle.generated_inputs.specs.Routes.{rd_with, any_rd, instance_route, hop_to, path_route, firewall_route, generated_routes}

instance_fits : (number kind last : ℕ) → kind < 2 ^ 16 → IsAnnounceable (instance_route number kind last)
instance_fits number kind last small = record { nlri = (refl, small); next_hop = refl; octets = tt; targets = refl; path = refl; small = omega arith }

tag_fits : PartFits (hop_to 255 43 any_rd)
tag_fits = (omega arith, omega arith, ((omega arith, omega arith, (refl, tt), omega arith), tt), omega arith)

translation_fits : PartFits (hop_to 254 42 (rd_with 2))
translation_fits = (omega arith, omega arith, ((omega arith, omega arith, (refl, tt), omega arith), tt), omega arith)

filter_fits : PartFits (hop_to 253 41 (rd_with 1))
filter_fits = (omega arith, omega arith, ((omega arith, omega arith, (refl, tt), omega arith), tt), omega arith)

path_fits : IsAnnounceable path_route
path_fits =
    let path : Sfp = record { parts = hop_to 255 43 any_rd ∷ hop_to 254 42 (rd_with 2) ∷ hop_to 253 41 (rd_with 1) ∷ [] } in record {
      nlri = (refl, omega arith);
      next_hop = refl;
      octets = tt;
      targets = refl;
      path = (
        path,
        refl,
        record {
          parts = record { each = (tag_fits, (translation_fits, (filter_fits, tt))); falls = (omega arith, (omega arith, (omega arith, tt))) };
          some = λ none. omega (arith, ap length none);
        },
      );
      small = omega arith;
    }

pub firewall_fits : IsAnnounceable firewall_route
firewall_fits = instance_fits 1 41 2 (omega arith)

pub routes_fit : AllByRecursion IsAnnounceable generated_routes
routes_fit = (firewall_fits, (instance_fits 2 42 1 (omega arith), (instance_fits 3 43 1 (omega arith), (path_fits, tt))))
