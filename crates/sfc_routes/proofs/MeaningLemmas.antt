-- What an update means: its routes fit, it has one change, and it has one at all.
use Rattle.std.proofs.Common.{◌≡◌, ℕ, ◌/◌, ◌++◌, Bool, true, false, not, List, [], ◌∷◌, map, filter, Option, Some, None, is_some, refl, sym, ◌∙◌, ap, inl, inr, ◌⊎◌, true≢false}
use Rattle.std.specs.List.{AllByRecursion}
use Rattle.std.specs.Option.{option_map_or}
use Rattle.std.proofs.lemmas.Bool.{and_parts, cases_eq, cond_both}
use Rattle.wire_base.specs.Numbers.{AreBytes}
use Rattle.wire_base.specs.declared.next_hops.NextHop.{NextHop}
use Rattle.bgp_update.specs.declared.attributes.Attribute.{Attribute}
use Rattle.bgp_update.specs.declared.attributes.Body.{Body}
use Rattle.bgp_update.specs.declared.attributes.Body.TheVariants as bodies
use Rattle.bgp_update.specs.declared.attributes.MpReach.{MpReach}
use Rattle.bgp_update.specs.declared.routes.Nlri.{Nlri}
use Rattle.bgp_update.specs.declared.routes.Nlri.TheVariants as nlris
use Rattle.bgp_update.specs.declared.updates.Update.{Update}
use Rattle.bgp_update.specs.Updates.{is_broken}
use Rattle.sfp_attribute.specs.declared.faults.SfpFault.{SfpFault}
use Rattle.sfp_attribute.specs.declared.sfps.Sfp.{Sfp}
use Rattle.sfp_attribute.specs.Sfps.{SfpFits, IsSfp}
use Rattle.sfp_attribute.specs.Refusals.{Refused}
use Rattle.sfc_routes.specs.declared.route_changes.RouteChange.{RouteChange}
use Rattle.sfc_routes.specs.PeerRoutes.{RouteFits}
use Rattle.sfc_routes.specs.Meanings.{first_of, reach_of, unreached, targets_of, IsPathIn, IsNoPath, PathIn, PathFrom, PathOf, is_service, is_announced, route_for, routes_for, announced_by, turned_by, ChangeOf, BytesIn}

-- ---- the path fits, and so do the routes

abbrev pub HasFit : Option Sfp → Type 0
HasFit None = Unit {0}
HasFit (Some sfp) = SfpFits sfp

fits_in : (b : Body) (sfp : Sfp) → IsPathIn b sfp → SfpFits sfp
fits_in (bodies.Reach r) sfp h = absurd h
fits_in (bodies.Unreach w) sfp h = absurd h
fits_in (bodies.Communities cs) sfp h = absurd h
fits_in (bodies.Raw value) sfp h = h.fits

fits_from : (o : Option Attribute) (path : Option Sfp) → PathFrom o path → HasFit path
fits_from o None h = tt
fits_from None (Some sfp) h = absurd (true≢false (ap is_some h))
fits_from (Some a) (Some sfp) h = fits_in a.body sfp h.1

one_fits : (hop : NextHop) (targets : List (List ℕ)) (broken : Bool) (path : Option Sfp) → HasFit path → (n : Nlri) → is_announced broken (is_some path) n ≡ true → RouteFits (route_for hop targets path n)
one_fits hop targets broken path fit (nlris.Sfir rd kind) e = refl
one_fits hop targets broken None fit (nlris.Sfpr rd spi) e = absurd (true≢false (sym (and_parts (not broken) false e).1))
one_fits hop targets broken (Some sfp) fit (nlris.Sfpr rd spi) e = (sfp, refl, fit)
one_fits hop targets broken path fit (nlris.Other kind body) e = absurd (true≢false (sym e))

list_fits : (hop : NextHop) (targets : List (List ℕ)) (broken : Bool) (path : Option Sfp) → HasFit path → (ns : List Nlri) → AllByRecursion RouteFits (map (route_for hop targets path) (filter (is_announced broken (is_some path)) ns))
list_fits hop targets broken path fit [] = tt
list_fits hop targets broken path fit (n ∷ ns) =
    let rest = filter (is_announced broken (is_some path)) ns in
    cond_both (is_announced broken (is_some path) n) (n ∷ rest) rest (λ (l : List Nlri). AllByRecursion RouteFits (map (route_for hop targets path) l))
    (λ e. (one_fits hop targets broken path fit n e, list_fits hop targets broken path fit ns))
    (λ e. list_fits hop targets broken path fit ns)

reach_fits : (o : Option MpReach) (targets : List (List ℕ)) (broken : Bool) (path : Option Sfp) → HasFit path → AllByRecursion RouteFits (option_map_or (λ (r : MpReach). routes_for r broken targets path) o [])
reach_fits None targets broken path fit = tt
reach_fits (Some r) targets broken path fit = list_fits r.next_hop targets broken path fit r.nlri

pub announced_fit : (u : Update) (path : Option Sfp) → PathOf u path → AllByRecursion RouteFits (announced_by u path)
announced_fit u path h = reach_fits (reach_of u) (targets_of u) (is_broken u) path (fits_from (first_of 37 u) path h)

-- ---- where a value has one reading, an update has one change

abbrev pub OneValue : Type 0
OneValue = (value : List ℕ) (s t : Sfp) → IsSfp value s → IsSfp value t → s ≡ t

abbrev pub NeverBoth : Type 0
NeverBoth = (value : List ℕ) (s : Sfp) (fault : SfpFault) → IsSfp value s → Refused value fault → ⊥

same_sfp : OneValue → (b : Body) (s t : Sfp) → IsPathIn b s → IsPathIn b t → s ≡ t
same_sfp one (bodies.Reach r) s t h g = absurd h
same_sfp one (bodies.Unreach w) s t h g = absurd h
same_sfp one (bodies.Communities cs) s t h g = absurd h
same_sfp one (bodies.Raw value) s t h g = one value s t h g

clash : NeverBoth → (b : Body) (s : Sfp) → IsPathIn b s → IsNoPath b → ⊥
clash never (bodies.Reach r) s h g = absurd h
clash never (bodies.Unreach w) s h g = absurd h
clash never (bodies.Communities cs) s h g = absurd h
clash never (bodies.Raw value) s h g = never value s g.0 h g.1

bad : NeverBoth → (a : Attribute) (s : Sfp) → PathIn a (Some s) → PathIn a None → ⊥
bad never a s h g = elim g [
  | inl unshared ↦ unshared h.0
  | inr none ↦ clash never a.body s h.1 none
]

one_in : OneValue → NeverBoth → (a : Attribute) (p q : Option Sfp) → PathIn a p → PathIn a q → p ≡ q
one_in one never a None None h g = refl
one_in one never a None (Some t) h g = absurd (bad never a t g h)
one_in one never a (Some s) None h g = absurd (bad never a s h g)
one_in one never a (Some s) (Some t) h g = ap (λ (x : Sfp). Some x) (same_sfp one a.body s t h.1 g.1)

one_from : OneValue → NeverBoth → (o : Option Attribute) (p q : Option Sfp) → PathFrom o p → PathFrom o q → p ≡ q
one_from one never None p q h g = h ∙ sym g
one_from one never (Some a) p q h g = one_in one never a p q h g

pub one_change : OneValue → NeverBoth → (peer : ℕ) (u : Update) (a b : RouteChange) → ChangeOf peer u a → ChangeOf peer u b → a ≡ b
one_change one never peer u a b h g =
    let path = one_from one never (first_of 37 u) h.path g.path h.path_is g.path_is in
    let of_peer = h.of_peer ∙ sym g.of_peer in
    let all = h.not_all ∙ sym g.not_all in
    let withdrawn = h.withdrawn ∙ (ap (λ (p : Option Sfp). filter is_service (unreached u) ++ turned_by u p) path ∙ sym g.withdrawn) in
    let announced = h.announced ∙ (ap (λ (p : Option Sfp). announced_by u p) path ∙ sym g.announced) in
    λ i. record { peer = of_peer i; all = all i; withdrawn = withdrawn i; announced = announced i }

-- ---- where every value has a reading, every update has a change

abbrev pub SomeValue : Type 0
SomeValue = (value : List ℕ) → AreBytes value → ((s : Sfp) × IsSfp value s) ⊎ ((fault : SfpFault) × Refused value fault)

shared_path : SomeValue → (flags kind : ℕ) (b : Body) → BytesIn b → flags / 64 ≡ 3 → (path : Option Sfp) × PathIn (record { flags = flags; kind = kind; body = b }) path
shared_path some flags kind (bodies.Reach r) bytes shared = (None, inr tt)
shared_path some flags kind (bodies.Unreach w) bytes shared = (None, inr tt)
shared_path some flags kind (bodies.Communities cs) bytes shared = (None, inr tt)
shared_path some flags kind (bodies.Raw value) bytes shared = elim (some value bytes) [
  | inl read ↦ (Some read.0, (shared, read.1))
  | inr refused ↦ (None, inr refused)
]

some_path : SomeValue → (a : Attribute) → BytesIn a.body → (path : Option Sfp) × PathIn a path
some_path some a bytes = elim (cases_eq (a.flags / 64) 3) [
  | inl shared ↦ shared_path some a.flags a.kind a.body bytes shared
  | inr unshared ↦ (None, inl unshared)
]

some_from : SomeValue → (o : Option Attribute) → ((a : Attribute) → o ≡ Some a → BytesIn a.body) → (path : Option Sfp) × PathFrom o path
some_from some None bytes = (None, refl)
some_from some (Some a) bytes = some_path some a (bytes a refl)

pub some_change : SomeValue → (peer : ℕ) (u : Update) → ((a : Attribute) → first_of 37 u ≡ Some a → BytesIn a.body) → (change : RouteChange) × ChangeOf peer u change
some_change some peer u bytes =
    let path = some_from some (first_of 37 u) bytes in (
      record { peer = peer; all = false; withdrawn = filter is_service (unreached u) ++ turned_by u path.0; announced = announced_by u path.0 },
      record { path = path.0; path_is = path.1; of_peer = refl; not_all = refl; withdrawn = refl; announced = refl },
    )
