-- The routes that a peer has announced and not withdrawn, by what they name.
use Rattle.std.specs.Prelude.{◌==◌, Bool, false, ◌&&◌, not, if◌then◌else◌, List, [], ◌∷◌, ◌++◌}
use Rattle.std.specs.List.{filter, list_any, fold}
use Rattle.std.specs.Str.{bytes_eq}
use Rattle.bgp_update.specs.declared.routes.Nlri.{Nlri}
use Rattle.bgp_update.specs.declared.routes.Nlri.TheVariants as routes
use Rattle.sfc_routes.specs.declared.routes.Route.{Route}
use Rattle.sfc_routes.specs.declared.route_changes.RouteChange.{RouteChange}

-- whether the two name one route
abbrev pub is_same : Nlri → Nlri → Bool
is_same (routes.Sfir rd kind) (routes.Sfir other_rd other_kind) = bytes_eq rd other_rd && (kind == other_kind)
is_same (routes.Sfpr rd spi) (routes.Sfpr other_rd other_spi) = bytes_eq rd other_rd && (spi == other_spi)
is_same (routes.Other kind body) (routes.Other other_kind other_body) = (kind == other_kind) && bytes_eq body other_body
is_same _ _ = false

unfoldable pub has : List Nlri → Nlri → Bool
has known one = list_any (λ n. is_same n one) known

-- those that are not among some
abbrev pub without : List Nlri → List Nlri → List Nlri
without known gone = filter (λ n. not (has gone n)) known

-- with one more, where it is not there
abbrev pub with_one : List Nlri → Nlri → List Nlri
with_one known one = if has known one then known else known ++ one ∷ []

-- what an announced route names comes, each once
abbrev pub with_all : List Nlri → List Route → List Nlri
with_all known announced = fold (λ k r. with_one k r.nlri) known announced

-- after a change: the withdrawn ones go, then the announced ones come
abbrev pub after_change : List Nlri → RouteChange → List Nlri
after_change known change = with_all (without known change.withdrawn) change.announced
