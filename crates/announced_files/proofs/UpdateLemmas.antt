-- The UPDATE of a route: it has a spelling of at most 4,096 bytes, and means that this route is announced.
use Rattle.std.proofs.Common.{◌≡◌, ℕ, ◌+◌, ◌*◌, ◌/◌, ◌%◌, ◌<◌, ◌≤◌, Bool, true, false, cond, ltb, eqb, List, [], ◌∷◌, ◌++◌, length, filter, Option, Some, None, is_some, refl, sym, ap, subst, ◌∙◌, inl, inr, append_assoc, arith, true≢false}
use Rattle.std.specs.Prelude.{◌≢◌}
use Rattle.std.specs.List.{flat_map, fold, AllByRecursion, find}
use Rattle.std.specs.Option.{option_map_or, IfSome}
use Rattle.std.proofs.lemmas.Bool.{cases_lt, lt-ltb, le-ltb, eq-eqb, cond_both, cond-true, ne_eqb}
use Rattle.std.proofs.lemmas.List.{length-append}
use Rattle.wire_base.specs.Numbers.{four}
use Rattle.wire_base.specs.declared.next_hops.NextHop.{NextHop}
use Rattle.wire_base.specs.declared.next_hops.NextHop.TheVariants.{Four, Sixteen}
use Rattle.bgp_messages.specs.declared.messages.Message.TheVariants as messages
use Rattle.bgp_messages.specs.Messages.{Fits}
use Rattle.bgp_update.specs.declared.attributes.Attribute.{Attribute}
use Rattle.bgp_update.specs.declared.attributes.Body.{Body}
use Rattle.bgp_update.specs.declared.attributes.Body.TheVariants as bodies
use Rattle.bgp_update.specs.declared.attributes.MpReach.{MpReach}
use Rattle.bgp_update.specs.declared.updates.Update.{Update}
use Rattle.bgp_update.specs.declared.routes.Nlri.{Nlri}
use Rattle.bgp_update.specs.declared.routes.Nlri.TheVariants as nlris
use Rattle.bgp_update.specs.Nlris.{nlri_bytes, NlriFits}
use Rattle.bgp_update.specs.Attributes.{hop_bytes, HopFits, body_bytes, size_bytes, size_limit, attribute_bytes, attributes_bytes, IsReachability, RawFits, BodyFits, AttributeFits}
use Rattle.bgp_update.specs.Updates.{count_of, update_bytes, UpdateFits, is_raw, is_broken}
use Rattle.sfp_attribute.specs.declared.sfps.Sfp.{Sfp}
use Rattle.sfp_attribute.specs.Sfps.{sfp_bytes, SfpFits}
use Rattle.sfc_routes.specs.declared.routes.Route.{Route}
use Rattle.sfc_routes.specs.PeerRoutes.{PathFits}
use Rattle.sfc_routes.specs.Meanings.{reach_in, reach_of, reached, unreach_in, unreached, communities_in, targets_of, is_target, PathFrom, is_service, is_turned, routes_for, announced_by, turned_by, ChangeOf}
use Rattle.sfc_routes.proofs.MeaningLemmas.{HasFit}
use Rattle.route_texts.specs.RouteTexts.{attribute_size, reach_size, targets_size, path_size}
use Rattle.announced_files.specs.Announceable.{IsAnnounceable}
use Rattle.announced_files.specs.Announcements.{flags_for, attribute_of, origin, ways, reach_for, communities_for, sfp_for, attributes_for, announcement, unreach_for, withdrawal}
use Rattle.announced_files.specs.Announced.{change_for}

-- ---- one attribute

-- the flags leave the bit of a long length to the size
abbrev IsShort : ℕ → Type 0
IsShort flags = (flags / 16) % 2 ≡ 0

pub record Sized (flags size : ℕ) : Type 0 where
  pub fits : size < size_limit (flags_for flags size)
  pub count : length (size_bytes (flags_for flags size) size) + 2 + size ≡ attribute_size size

long_sized : (flags size : ℕ) → IsShort flags → 255 < size → size < 65536 → Sized flags size
long_sized flags size short long small =
    let tells : ltb 255 size ≡ true = lt-ltb 255 size long in
    let odd : eqb (((flags + 16) / 16) % 2) 1 ≡ true = eq-eqb (((flags + 16) / 16) % 2) 1 (omega (arith, short)) in
    record {
      fits = subst (λ (b : Bool). size < size_limit (cond b (flags + 16) flags)) (sym tells) (subst (λ (b : Bool). size < cond b 65536 256) (sym odd) small);
      count = subst (λ (b : Bool). length (size_bytes (cond b (flags + 16) flags) size) + 2 + size ≡ cond b 4 3 + size) (sym tells)
          (subst (λ (b : Bool). length (cond b (size / 256 ∷ size % 256 ∷ []) (size ∷ [])) + 2 + size ≡ 4 + size) (sym odd) (omega arith));
    }

short_sized : (flags size : ℕ) → IsShort flags → size ≤ 255 → Sized flags size
short_sized flags size short small =
    let tells : ltb 255 size ≡ false = le-ltb 255 size small in
    let even : eqb ((flags / 16) % 2) 1 ≡ false = ne_eqb ((flags / 16) % 2) 1 (λ e. omega (arith, short, e)) in
    record {
      fits = subst (λ (b : Bool). size < size_limit (cond b (flags + 16) flags)) (sym tells) (subst (λ (b : Bool). size < cond b 65536 256) (sym even) (omega (arith, small)));
      count = subst (λ (b : Bool). length (size_bytes (cond b (flags + 16) flags) size) + 2 + size ≡ cond b 4 3 + size) (sym tells)
          (subst (λ (b : Bool). length (cond b (size / 256 ∷ size % 256 ∷ []) (size ∷ [])) + 2 + size ≡ 3 + size) (sym even) (omega arith));
    }

sized : (flags size : ℕ) → IsShort flags → size < 65536 → Sized flags size
sized flags size short small =
    elim (cases_lt 255 size) [
      | inl long ↦ long_sized flags size short long small
      | inr few ↦ short_sized flags size short few
    ]

length_attribute : (flags kind : ℕ) (b : Body) → IsShort flags → length (body_bytes b) < 65536 → length (attribute_bytes (attribute_of flags kind b)) ≡ attribute_size (length (body_bytes b))
length_attribute flags kind b short small =
    let size : ℕ = length (body_bytes b) in
    omega (arith, length-append (size_bytes (flags_for flags size) size) (body_bytes b), (sized flags size short small).count)

attribute_fits : (flags kind : ℕ) (b : Body) → IsShort flags → flags ≤ 192 → kind < 256 → length (body_bytes b) < 65536 → BodyFits (flags_for flags (length (body_bytes b))) kind b → AttributeFits (attribute_of flags kind b)
attribute_fits flags kind b short most known small fits =
    let size : ℕ = length (body_bytes b) in
    record {
      flags = cond_both (ltb 255 size) (flags + 16) flags (λ f. f < 256) (λ e. omega (arith, most)) (λ e. omega (arith, most));
      kind = known;
      body = fits;
      size = (sized flags size short small).fits;
    }

-- a kind that none but unread values have
raw_fits : (flags kind : ℕ) (value : List ℕ) → kind ≢ 14 → kind ≢ 15 → kind ≢ 16 → RawFits flags kind value
raw_fits flags kind value not_reach not_unreach not_communities =
    let neither : IsReachability kind → ⊥ = λ is. elim is [ inl reach ↦ not_reach reach | inr unreach ↦ not_unreach unreach ] in
    record { family_there = λ is. absurd (neither is); other_family = λ is. absurd (neither is); no_communities = λ is. absurd (not_communities is) }

shared : (size : ℕ) → flags_for 192 size / 64 ≡ 3
shared size = cond_both (ltb 255 size) 208 192 (λ f. f / 64 ≡ 3) (λ e. refl) (λ e. refl)

-- ---- the attributes of a route, each known by its parts

pub length_octets : (ts : List (List ℕ)) → AllByRecursion (λ (t : List ℕ). length t ≡ 8) ts → length (flat_map (λ (t : List ℕ). t) ts) ≡ 8 * length ts
length_octets [] h = refl
length_octets (t ∷ ts) h = omega (arith, length-append t (flat_map (λ (u : List ℕ). u) ts), length_octets ts h.1, h.0)

length_hop : (a : NextHop) → HopFits a → length (hop_bytes a) ≤ 16
length_hop (Four octets) h = omega (arith, h)
length_hop (Sixteen octets) h = omega (arith, h)

length_nlri : (n : Nlri) (p : Option Sfp) → NlriFits n → PathFits n p → length (nlri_bytes n) ≤ 15
length_nlri (nlris.Sfir rd kind) p h fits = omega (arith, length-append rd (kind / 256 ∷ kind % 256 ∷ []), h.0)
length_nlri (nlris.Sfpr rd spi) p h fits = omega (arith, length-append rd (spi / 65536 ∷ (spi % 65536) / 256 ∷ (spi % 65536) % 256 ∷ []), h.0)
length_nlri (nlris.Other kind body) p h fits = absurd fits

length_reach : (r : Route) → length (body_bytes (reach_for r).body) ≡ 5 + length (hop_bytes r.next_hop) + length (nlri_bytes r.nlri)
length_reach r = omega (arith, length-append (hop_bytes r.next_hop) (0 ∷ nlri_bytes r.nlri ++ []), length-append (nlri_bytes r.nlri) [])

pub short_reach : (r : Route) → IsAnnounceable r → length (body_bytes (reach_for r).body) ≤ 255
short_reach r a = omega (arith, length_reach r, length_hop r.next_hop a.next_hop, length_nlri r.nlri r.path a.nlri a.path)

-- the sizes of a route's attributes leave room for none of them to be too large
few_targets : (count : ℕ) → 8 * count ≤ targets_size count
few_targets count =
    elim (cases_lt 0 count) [
      | inl some ↦ subst (λ (b : Bool). 8 * count ≤ cond b (attribute_size (8 * count)) 0) (sym (lt-ltb 0 count some)) (omega arith)
      | inr none ↦ omega (arith, none)
    ]

some_targets : (count : ℕ) → 0 < count → targets_size count ≡ attribute_size (8 * count)
some_targets count some = cond-true (ltb 0 count) (attribute_size (8 * count)) 0 (lt-ltb 0 count some)

pub targets_small : (r : Route) → IsAnnounceable r → 8 * length r.targets ≤ 4096
targets_small r a = omega (arith, a.small, few_targets (length r.targets))

pub path_some : (n : Nlri) (p : Option Sfp) → PathFits n p → IfSome p SfpFits
path_some n None fits = tt
path_some (nlris.Sfir rd kind) (Some s) fits = absurd (true≢false (ap is_some fits))
path_some (nlris.Sfpr rd spi) (Some s) fits = subst HasFit (sym fits.1) fits.2
path_some (nlris.Other kind body) (Some s) fits = absurd fits

-- ---- the lists that are joined

pub some_communities : (ts : List (List ℕ)) → ts ≢ [] → communities_for ts ≡ attribute_of 192 16 (bodies.Communities ts) ∷ []
some_communities [] some = absurd (some refl)
some_communities (t ∷ ts) some = refl

pub five_joined : {X : Type 0} (o r : X) (w c s l0 l1 l2 l3 l4 l5 : List X) → l0 ≡ [] → l1 ≡ l0 ++ o ∷ [] → l2 ≡ l1 ++ w → l3 ≡ l2 ++ r ∷ [] → l4 ≡ l3 ++ c → l5 ≡ l4 ++ s
    → l5 ≡ o ∷ (w ++ (r ∷ (c ++ s)))
five_joined {X} o r w c s l0 l1 l2 l3 l4 l5 e0 e1 e2 e3 e4 e5 =
    e5 ∙ ap (λ (l : List X). l ++ s) (e4 ∙ ap (λ (l : List X). l ++ c) (e3 ∙ ap (λ (l : List X). l ++ r ∷ []) (e2 ∙ ap (λ (l : List X). l ++ w) (e1 ∙ ap (λ (l : List X). l ++ o ∷ []) e0))))
    ∙ ap (λ (l : List X). l ++ s) (append_assoc (o ∷ w) (r ∷ []) c) ∙ append_assoc (o ∷ w) (r ∷ c) s

-- ---- what stands behind MP_REACH_NLRI

abbrev sfp_found : Option Sfp → Option Attribute
sfp_found None = None
sfp_found (Some s) = Some (attribute_of 192 37 (bodies.Raw (sfp_bytes s)))

abbrev is_kind : ℕ → Attribute → Bool
is_kind kind a = eqb a.kind kind

record Finds (list : List Attribute) (ts : List (List ℕ)) (p : Option Sfp) : Type 0 where
  unreach : find (is_kind 15) list ≡ None
  whole : option_map_or (λ (a : Attribute). is_raw a.body) (find (is_kind 16) list) false ≡ false
  targets : option_map_or (λ (a : Attribute). communities_in a.body) (find (is_kind 16) list) [] ≡ ts
  sfp : find (is_kind 37) list ≡ sfp_found p
  unreaches : count_of 15 list ≡ 0

finds : (ts : List (List ℕ)) (p : Option Sfp) → Finds (communities_for ts ++ sfp_for p) ts p
finds [] None = record { unreach = refl; whole = refl; targets = refl; sfp = refl; unreaches = refl }
finds [] (Some s) = record { unreach = refl; whole = refl; targets = refl; sfp = refl; unreaches = refl }
finds (t ∷ ts) None = record { unreach = refl; whole = refl; targets = refl; sfp = refl; unreaches = refl }
finds (t ∷ ts) (Some s) = record { unreach = refl; whole = refl; targets = refl; sfp = refl; unreaches = refl }

abbrev IsSmall : Option Sfp → Type 0
IsSmall None = Unit {0}
IsSmall (Some s) = length (sfp_bytes s) < 65536

-- behind the one MP_REACH_NLRI there is no other
one_reach_stays : (ts : List (List ℕ)) (p : Option Sfp) → fold (λ (n : ℕ) (a : Attribute). n + cond (is_kind 14 a) 1 0) 1 (communities_for ts ++ sfp_for p) ≡ 1
one_reach_stays [] None = refl
one_reach_stays [] (Some s) = refl
one_reach_stays (t ∷ ts) None = refl
one_reach_stays (t ∷ ts) (Some s) = refl

-- they have a spelling, and so many bytes
record Behind (list : List Attribute) (size : ℕ) : Type 0 where
  fit : AllByRecursion AttributeFits list
  count : length (attributes_bytes list) ≡ size

sfp_behind : (p : Option Sfp) → IsSmall p → Behind (sfp_for p) (path_size p)
sfp_behind None small = record { fit = tt; count = refl }
sfp_behind (Some s) small = record {
  fit = (attribute_fits 192 37 (bodies.Raw (sfp_bytes s)) refl (omega arith) (omega arith) small (raw_fits _ 37 (sfp_bytes s) (λ e. omega (arith, e)) (λ e. omega (arith, e)) (λ e. omega (arith, e))), tt);
  count = omega (arith, length-append (attribute_bytes (attribute_of 192 37 (bodies.Raw (sfp_bytes s)))) [], length_attribute 192 37 (bodies.Raw (sfp_bytes s)) refl small);
}

both_behind : (ts : List (List ℕ)) (p : Option Sfp) → AllByRecursion (λ (t : List ℕ). length t ≡ 8) ts → 8 * length ts ≤ 4096 → IsSmall p
    → Behind (communities_for ts ++ sfp_for p) (targets_size (length ts) + path_size p)
both_behind [] p octets few small = let rest = sfp_behind p small in record { fit = rest.fit; count = omega (arith, rest.count) }
both_behind (t ∷ ts) p octets few small =
    let rest = sfp_behind p small in
    let body : Body = bodies.Communities (t ∷ ts) in
    let size : length (body_bytes body) ≡ 8 * length (t ∷ ts) = length_octets (t ∷ ts) octets in
    let within : length (body_bytes body) < 65536 = omega (arith, size, few) in
    record {
      fit = (attribute_fits 192 16 body refl (omega arith) (omega arith) within (refl, shared (length (body_bytes body)), (λ e. absurd (omega (arith, ap length e))), octets), rest.fit);
      count = length-append (attribute_bytes (attribute_of 192 16 body)) (attributes_bytes (sfp_for p))
          ∙ ap (λ (n : ℕ). n + length (attributes_bytes (sfp_for p))) (length_attribute 192 16 body refl within ∙ ap attribute_size size)
          ∙ ap (λ (n : ℕ). attribute_size (8 * length (t ∷ ts)) + n) rest.count
          ∙ ap (λ (n : ℕ). n + path_size p) (sym (some_targets (length (t ∷ ts)) (omega arith)));
    }

small_path : (p : Option Sfp) → path_size p ≤ 4096 → IsSmall p
small_path None h = tt
small_path (Some s) h = omega (arith, h)

-- ---- all of them

first_three : (inside : Bool) (asn : ℕ) (list : List Attribute) → AllByRecursion AttributeFits list → AllByRecursion AttributeFits (origin ∷ (ways inside asn ++ list))
first_three true asn list fit = (
  attribute_fits 64 1 (bodies.Raw (0 ∷ [])) refl (omega arith) (omega arith) (omega arith) (raw_fits _ 1 _ (λ e. omega (arith, e)) (λ e. omega (arith, e)) (λ e. omega (arith, e))),
  (
    attribute_fits 64 2 (bodies.Raw []) refl (omega arith) (omega arith) (omega arith) (raw_fits _ 2 _ (λ e. omega (arith, e)) (λ e. omega (arith, e)) (λ e. omega (arith, e))),
    (attribute_fits 64 5 (bodies.Raw (0 ∷ 0 ∷ 0 ∷ 100 ∷ [])) refl (omega arith) (omega arith) (omega arith) (raw_fits _ 5 _ (λ e. omega (arith, e)) (λ e. omega (arith, e)) (λ e. omega (arith, e))), fit),
  ),
)
first_three false asn list fit = (
  attribute_fits 64 1 (bodies.Raw (0 ∷ [])) refl (omega arith) (omega arith) (omega arith) (raw_fits _ 1 _ (λ e. omega (arith, e)) (λ e. omega (arith, e)) (λ e. omega (arith, e))),
  (attribute_fits 64 2 (bodies.Raw (2 ∷ 1 ∷ four asn)) refl (omega arith) (omega arith) (omega arith) (raw_fits _ 2 _ (λ e. omega (arith, e)) (λ e. omega (arith, e)) (λ e. omega (arith, e))), fit),
)

first_sized : (inside : Bool) (asn : ℕ) (list : List Attribute) → length (attributes_bytes (origin ∷ (ways inside asn ++ list))) ≤ 14 + length (attributes_bytes list)
first_sized true asn list = omega arith
first_sized false asn list = omega arith

-- what an update finds in its attributes
record FindsAll (list : List Attribute) (r : Route) : Type 0 where
  reach : find (is_kind 14) list ≡ Some (reach_for r)
  one_reach : count_of 14 list ≡ 1
  behind : Finds list r.targets r.path

finds_all : (inside : Bool) (asn : ℕ) (r : Route) → FindsAll (attributes_for inside asn r) r
finds_all true asn r = let rest = finds r.targets r.path in record {
  reach = refl;
  one_reach = one_reach_stays r.targets r.path;
  behind = record { unreach = rest.unreach; whole = rest.whole; targets = rest.targets; sfp = rest.sfp; unreaches = rest.unreaches };
}
finds_all false asn r = let rest = finds r.targets r.path in record {
  reach = refl;
  one_reach = one_reach_stays r.targets r.path;
  behind = record { unreach = rest.unreach; whole = rest.whole; targets = rest.targets; sfp = rest.sfp; unreaches = rest.unreaches };
}

-- the UPDATE has a spelling, of at most 4,096 bytes with its header
pub record IsSpelled (u : Update) : Type 0 where
  pub fits : UpdateFits u
  pub message : Fits (messages.Update (update_bytes u))

pub spelled : (own asn : ℕ) (r : Route) → IsAnnounceable r → IsSpelled (announcement own asn r)
spelled own asn r a =
    let inside : Bool = eqb own asn in
    let reach : Body = (reach_for r).body in
    let short : length (body_bytes reach) ≤ 255 = short_reach r a in
    let few : 8 * length r.targets ≤ 4096 = targets_small r a in
    let rest = both_behind r.targets r.path a.octets few (small_path r.path (omega (arith, a.small))) in
    let tail : List Attribute = communities_for r.targets ++ sfp_for r.path in
    let list : List Attribute = attributes_for inside asn r in
    let found = finds_all inside asn r in
    let reach_fit : AttributeFits (reach_for r) = attribute_fits 128 14 reach refl (omega arith) (omega arith) (omega (arith, short)) (refl, a.next_hop, (a.nlri, tt)) in
    let reach_is : length (attribute_bytes (reach_for r)) ≡ reach_size r = length_attribute 128 14 reach refl (omega (arith, short)) ∙ ap attribute_size (length_reach r) in
    let whole : length (attributes_bytes list) ≤ 14 + (reach_size r + (targets_size (length r.targets) + path_size r.path)) =
    omega (arith, first_sized inside asn (reach_for r ∷ tail), length-append (attribute_bytes (reach_for r)) (attributes_bytes tail), reach_is, rest.count) in
    let size : length (update_bytes (announcement own asn r)) ≡ 4 + length (attributes_bytes list) = omega (arith, length-append (attributes_bytes list) []) in
    record {
      fits = record {
        withdrawn = omega arith;
        attributes = record {
          each = first_three inside asn (reach_for r ∷ tail) (reach_fit, rest.fit);
          one_reach = omega (arith, found.one_reach);
          one_unreach = omega (arith, found.behind.unreaches);
        };
        size = omega (arith, whole, a.small);
      };
      message = record { parts = omega (arith, size); size = omega (arith, size, whole, a.small) };
    }

-- ---- withdrawing

pub short_unreach : (r : Route) → IsAnnounceable r → length (body_bytes (unreach_for r).body) ≤ 255
short_unreach r a = omega (arith, length-append (nlri_bytes r.nlri) [], length_nlri r.nlri r.path a.nlri a.path)

size_at_most : (size : ℕ) → attribute_size size ≤ 4 + size
size_at_most size = cond_both (ltb 255 size) 4 3 (λ n. n + size ≤ 4 + size) (λ e. omega arith) (λ e. omega arith)

pub withdrawn_spelled : (r : Route) → IsAnnounceable r → IsSpelled (withdrawal r)
withdrawn_spelled r a =
    let body : Body = (unreach_for r).body in
    let short : length (body_bytes body) ≤ 255 = short_unreach r a in
    let fit : AttributeFits (unreach_for r) = attribute_fits 128 15 body refl (omega arith) (omega arith) (omega (arith, short)) (refl, (a.nlri, tt)) in
    let few : length (attribute_bytes (unreach_for r)) ≤ 259 =
    omega (arith, length_attribute 128 15 body refl (omega (arith, short)), size_at_most (length (body_bytes body)), short) in
    let one : length (attributes_bytes (unreach_for r ∷ [])) ≤ 259 = omega (arith, length-append (attribute_bytes (unreach_for r)) [], few) in
    let size : length (update_bytes (withdrawal r)) ≡ 4 + length (attributes_bytes (unreach_for r ∷ [])) = omega (arith, length-append (attributes_bytes (unreach_for r ∷ [])) []) in
    record {
      fits = record {
        withdrawn = omega arith;
        attributes = record { each = (fit, tt); one_reach = omega arith; one_unreach = omega arith };
        size = omega (arith, one);
      };
      message = record { parts = omega (arith, size); size = omega (arith, size, one) };
    }

-- ---- what it means

path_in : (n : Nlri) (p : Option Sfp) → PathFits n p → PathFrom (sfp_found p) p
path_in n None fits = refl
path_in (nlris.Sfir rd kind) (Some s) fits = absurd (true≢false (ap is_some fits))
path_in (nlris.Sfpr rd spi) (Some s) fits = (shared (length (sfp_bytes s)), record { spelled = refl; fits = subst HasFit (sym fits.1) fits.2 })
path_in (nlris.Other kind body) (Some s) fits = absurd fits

-- of the route's one NLRI nothing is withdrawn
none_turned : (n : Nlri) (p : Option Sfp) → PathFits n p → filter (is_turned false (is_some p)) (n ∷ []) ≡ []
none_turned (nlris.Sfir rd kind) p fits = refl
none_turned (nlris.Sfpr rd spi) None fits = absurd (true≢false (sym (ap is_some fits.1)))
none_turned (nlris.Sfpr rd spi) (Some s) fits = refl
none_turned (nlris.Other kind body) p fits = absurd fits

-- and it is announced as it is
all_announced : (n : Nlri) (hop : NextHop) (ts : List (List ℕ)) (p : Option Sfp) → PathFits n p
    → routes_for (record { next_hop = hop; reserved = 0; nlri = n ∷ [] }) false ts p ≡ record { nlri = n; next_hop = hop; targets = ts; path = p } ∷ []
all_announced (nlris.Sfir rd kind) hop ts None fits = refl
all_announced (nlris.Sfir rd kind) hop ts (Some s) fits = absurd (true≢false (ap is_some fits))
all_announced (nlris.Sfpr rd spi) hop ts None fits = absurd (true≢false (sym (ap is_some fits.1)))
all_announced (nlris.Sfpr rd spi) hop ts (Some s) fits = refl
all_announced (nlris.Other kind body) hop ts p fits = absurd fits

pub means : (peer own asn : ℕ) (r : Route) → IsAnnounceable r → ChangeOf peer (announcement own asn r) (change_for peer r)
means peer own asn r a =
    let u : Update = announcement own asn r in
    let found = finds_all (eqb own asn) asn r in
    let reach : MpReach = record { next_hop = r.next_hop; reserved = 0; nlri = r.nlri ∷ [] } in
    let reach_is : reach_of u ≡ Some reach = ap (λ (o : Option Attribute). option_map_or (λ (b : Attribute). reach_in b.body) o None) found.reach in
    let unreached_is : unreached u ≡ [] = ap (λ (o : Option Attribute). option_map_or (λ (b : Attribute). unreach_in b.body) o []) found.behind.unreach in
    let targets_is : targets_of u ≡ r.targets = ap (filter is_target) found.behind.targets ∙ a.targets in
    let turned_is : turned_by u r.path ≡ [] =
    ap (λ (b : Bool). filter (is_turned b (is_some r.path)) (reached u)) found.behind.whole
    ∙ ap (λ (o : Option MpReach). filter (is_turned false (is_some r.path)) (option_map_or (λ (m : MpReach). m.nlri) o [])) reach_is
    ∙ none_turned r.nlri r.path a.path in
    let announced_is : announced_by u r.path ≡ r ∷ [] =
    ap (λ (o : Option MpReach). option_map_or (λ (m : MpReach). routes_for m (is_broken u) (targets_of u) r.path) o []) reach_is
    ∙ ap (λ (b : Bool). routes_for reach b (targets_of u) r.path) found.behind.whole
    ∙ ap (λ (ts : List (List ℕ)). routes_for reach false ts r.path) targets_is
    ∙ all_announced r.nlri r.next_hop r.targets r.path a.path in
    record {
      path = r.path;
      path_is = subst (λ (o : Option Attribute). PathFrom o r.path) (sym found.behind.sfp) (path_in r.nlri r.path a.path);
      of_peer = refl;
      not_all = refl;
      withdrawn = sym (ap (λ (ns : List Nlri). filter is_service ns ++ turned_by u r.path) unreached_is ∙ turned_is);
      announced = sym announced_is;
    }
