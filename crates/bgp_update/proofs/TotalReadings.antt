-- Every list of bytes is the content of an update, or it is refused at a place.
use Rattle.std.proofs.Common.{◌≡◌, ℕ, zero, suc, ◌+◌, ◌*◌, ◌/◌, ◌%◌, ◌^◌, ◌==◌, ◌<◌, ◌≤◌, Bool, true, false, List, [], ◌∷◌, ◌++◌, length, get_or, take, drop, refl, sym, ap, subst, ◌∙◌, inl, inr, ◌⊎◌, append_assoc, arith}
use Rattle.std.specs.List.{flat_map}
use Rattle.std.proofs.lemmas.List.{take-append-drop, append-nil, length-append, length-take, length-drop, get_or-take, get_or-drop, get_or_past}
use Rattle.std.proofs.lemmas.List.Elements.{All-get_or}
use Rattle.std.proofs.lemmas.Bool.{cases_lt, cases_eq}
use Rattle.wire_base.specs.Numbers.{AreBytes, big_endian, two}
use Rattle.wire_base.specs.declared.next_hops.NextHop.{NextHop}
use Rattle.wire_base.specs.declared.next_hops.NextHop.TheVariants as hops
use Rattle.bgp_update.specs.declared.routes.Nlri.{Nlri}
use Rattle.bgp_update.specs.declared.routes.Nlri.TheVariants as routes
use Rattle.bgp_update.specs.declared.attributes.Attribute.{Attribute}
use Rattle.bgp_update.specs.declared.attributes.Body.{Body}
use Rattle.bgp_update.specs.declared.attributes.Body.TheVariants as bodies
use Rattle.bgp_update.specs.declared.updates.Update.{Update}
use Rattle.bgp_update.specs.Nlris.{inside, nlri_bytes, list_bytes, NlriFits}
use Rattle.bgp_update.specs.Attributes.{family, HasFamily, hop_bytes, attributes_bytes, IsReachability, HasCommunities}
use Rattle.bgp_update.specs.Updates.{count_of, AttributesFit, IsUpdate}
use Rattle.bgp_update.specs.Refusals.{number_at, ShortNlri, WrongSize, BadNlri, RefusedList, header_size, RunsPast, Splits, Repeats, BadReach, SplitsReach, RefusedValue, RefusedAttributes, Opens, OpensNot, Refused}
use Rattle.bgp_update.specs.Pieces.{SplitsNlri}
use Rattle.bgp_update.specs.Steps.{ReadsNlri, ReadsList, ReadsPieces, ReadsBody, ReadsAttributes}
use Rattle.bgp_update.proofs.CellLemmas.{Small, small_behind, cut_spelled, long_spelled, opening_spelled, sfir_spelled, sfpr_spelled}
use Rattle.bgp_update.proofs.AttributeLemmas.{step}

-- ---- bytes

small_take : (n : ℕ) (bytes : List ℕ) → Small bytes → Small (take n bytes)
small_take n bytes small i =
    elim (cases_lt i n) [
      | inl there ↦ omega (arith, get_or-take n bytes i 0 there, small i)
      | inr past ↦ omega (arith, get_or_past (take n bytes) i 0 (omega (arith, length-take n bytes, past)))
    ]

small_drop : (n : ℕ) (bytes : List ℕ) → Small bytes → Small (drop n bytes)
small_drop n bytes small i = omega (arith, get_or-drop n bytes i 0, small (n + i))

each_small : (bytes : List ℕ) → AreBytes bytes → Small bytes
each_small bytes all i =
    elim (cases_lt i (length bytes)) [
      | inl there ↦ All-get_or (λ b. b < 256) bytes i 0 there all
      | inr past ↦ omega (arith, get_or_past bytes i 0 past)
    ]

-- ---- a route

-- a whole route at the front of the bytes
record Cut (bytes : List ℕ) : Type 0 where
  kind : ℕ
  body : List ℕ
  more : List ℕ
  whole : SplitsNlri bytes kind body more
  kind_is : number_at 0 bytes ≡ kind
  size_is : number_at 2 bytes ≡ length body
  small_body : Small body
  small_more : Small more
  shorter : length more < length bytes

cut_or_not : (bytes : List ℕ) → Small bytes → ShortNlri bytes ⊎ Cut bytes
cut_or_not bytes small =
    elim (cases_lt (length bytes) 4) [
      | inl short ↦ inl (inl short)
      | inr there ↦ elim (cases_lt (length bytes) (4 + number_at 2 bytes)) [
        | inl short ↦ inl (inr short)
        | inr room ↦
            let size : length (take (number_at 2 bytes) (drop 4 bytes)) ≡ number_at 2 bytes = omega (arith, length-take (number_at 2 bytes) (drop 4 bytes), length-drop 4 bytes, room) in
            inr (record {
              kind = number_at 0 bytes;
              body = take (number_at 2 bytes) (drop 4 bytes);
              more = drop (number_at 2 bytes) (drop 4 bytes);
              whole = cut_spelled bytes (take (number_at 2 bytes) (drop 4 bytes)) (drop (number_at 2 bytes) (drop 4 bytes)) (number_at 0 bytes) small there refl size (sym (take-append-drop (number_at 2 bytes) (drop 4 bytes)));
              kind_is = refl;
              size_is = sym size;
              small_body = small_take (number_at 2 bytes) (drop 4 bytes) (small_drop 4 bytes small);
              small_more = small_drop (number_at 2 bytes) (drop 4 bytes) (small_drop 4 bytes small);
              shorter = omega (arith, length-drop (number_at 2 bytes) (drop 4 bytes), length-drop 4 bytes, there);
            })
      ]
    ]

spi_small : (body : List ℕ) → Small body → length body ≡ 11 → big_endian (take 3 (drop 8 body)) < 2 ^ 24
spi_small (a ∷ b ∷ c ∷ d ∷ e ∷ f ∷ g ∷ h ∷ i ∷ j ∷ k ∷ []) small size = omega (arith, small 8, small 9, small 10)
spi_small _ small size = absurd (omega (arith, size))

sfir_read : (kind : ℕ) (body : List ℕ) → Small body → kind ≡ 1 → length body ≡ 10 → (r : Nlri) × ReadsNlri kind body r
sfir_read kind body small one size = (
  routes.Sfir (take 8 body) (256 * get_or body 8 0 + get_or body 9 0),
  record {
    kind_is = sym one;
    body_is = sfir_spelled body (take 8 body) (256 * get_or body 8 0 + get_or body 9 0) small size refl refl;
    fits = (omega (arith, length-take 8 body, size), omega (arith, small 8, small 9));
  },
)

sfpr_read : (kind : ℕ) (body : List ℕ) → Small body → kind ≡ 2 → length body ≡ 11 → (r : Nlri) × ReadsNlri kind body r
sfpr_read kind body small is_two size = (
  routes.Sfpr (take 8 body) (big_endian (take 3 (drop 8 body))),
  record {
    kind_is = sym is_two;
    body_is = sfpr_spelled body (take 8 body) (big_endian (take 3 (drop 8 body))) small size refl refl;
    fits = (omega (arith, length-take 8 body, size), spi_small body small size);
  },
)

pub route_or_not : (kind : ℕ) (body : List ℕ) → Small body → kind < 2 ^ 16 → length body < 2 ^ 16 → WrongSize kind (length body) ⊎ ((r : Nlri) × ReadsNlri kind body r)
route_or_not kind body small kind_fits size_fits =
    elim (cases_eq kind 1) [
      | inl one ↦ elim (cases_eq (length body) 10) [
        | inl size ↦ inr (sfir_read kind body small one size)
        | inr other ↦ inl (inl (one, other))
      ]
      | inr not_one ↦ elim (cases_eq kind 2) [
        | inl is_two ↦ elim (cases_eq (length body) 11) [
          | inl size ↦ inr (sfpr_read kind body small is_two size)
          | inr other ↦ inl (inr (is_two, other))
        ]
        | inr not_two ↦ inr (routes.Other kind body, record { kind_is = refl; body_is = refl; fits = (not_one, not_two, kind_fits, size_fits) })
      ]
    ]

-- ---- a list of routes

abbrev ListOrNot : ℕ → List ℕ → Type 0
ListOrNot start bytes = ((rs : List Nlri) × ReadsList bytes rs) ⊎ ((place : ℕ) × RefusedList start bytes place)

first_bad : (start : ℕ) (bytes : List ℕ) → 0 < length bytes → BadNlri bytes → ListOrNot start bytes
first_bad start bytes some bad = inr (start + 0, record { good = []; fit = tt; bad = bytes; split = refl; some = some; first = bad; told = refl })

one_route : (start : ℕ) (r : Nlri) (more bytes : List ℕ) → NlriFits r → bytes ≡ nlri_bytes r ++ more → ListOrNot (start + length (nlri_bytes r)) more → ListOrNot start bytes
one_route start r more bytes fits e (inl rest) =
    let reads : ReadsList more rest.0 = rest.1 in
    inl (r ∷ rest.0, record { spelled = e ∙ ap (λ (b : List ℕ). nlri_bytes r ++ b) reads.spelled; fits = (fits, reads.fits) })
one_route start r more bytes fits e (inr rest) =
    let row : RefusedList (start + length (nlri_bytes r)) more rest.0 = rest.1 in
    inr (
      rest.0,
      record {
        good = r ∷ row.good;
        fit = (fits, row.fit);
        bad = row.bad;
        split = e ∙ ap (λ (b : List ℕ). nlri_bytes r ++ b) row.split ∙ sym (append_assoc (nlri_bytes r) (list_bytes row.good) row.bad);
        some = row.some;
        first = row.first;
        told = omega (arith, row.told, length-append (nlri_bytes r) (list_bytes row.good));
      },
    )

pub cut_route : (bytes : List ℕ) (kind : ℕ) (body more : List ℕ) (r : Nlri) → SplitsNlri bytes kind body more → ReadsNlri kind body r → bytes ≡ nlri_bytes r ++ more
cut_route bytes kind body more r s reads =
    subst (λ (k : ℕ). bytes ≡ two k ++ two (length (inside r)) ++ inside r ++ more) (sym reads.kind_is)
    (subst (λ (b : List ℕ). bytes ≡ two kind ++ two (length b) ++ b ++ more) (sym reads.body_is) s.parts)

list_or_not : (n start : ℕ) (bytes : List ℕ) → length bytes < n → Small bytes → ListOrNot start bytes
list_or_not zero start bytes less small = absurd (omega (arith, less))
list_or_not (suc n) start [] less small = inl ([], record { spelled = refl; fits = tt })
list_or_not (suc n) start (b ∷ bytes) less small =
    elim (cut_or_not (b ∷ bytes) small) [
      | inl short ↦ first_bad start (b ∷ bytes) (omega arith) (inl short)
      | inr c ↦ elim (route_or_not c.kind c.body c.small_body c.whole.kind_fits c.whole.size_fits) [
        | inl wrong ↦ first_bad start (b ∷ bytes) (omega arith)
            (inr (subst (λ (k : ℕ). WrongSize k (number_at 2 (b ∷ bytes))) (sym c.kind_is) (subst (λ (s : ℕ). WrongSize c.kind s) (sym c.size_is) wrong)))
        | inr r ↦
            let reads : ReadsNlri c.kind c.body r.0 = r.1 in
            one_route start r.0 c.more (b ∷ bytes) reads.fits (cut_route (b ∷ bytes) c.kind c.body c.more r.0 c.whole reads)
            (list_or_not n (start + length (nlri_bytes r.0)) c.more (omega (arith, less, c.shorter)) c.small_more)
      ]
    ]

-- ---- a value

abbrev BodyOrNot : ℕ → ℕ → ℕ → List ℕ → Type 0
BodyOrNot start flags kind value = ((b : Body) × ReadsBody flags kind value b) ⊎ ((place : ℕ) × RefusedValue start (header_size flags) kind value place)

family_or_not : (value : List ℕ) → 3 ≤ length value → ((behind : List ℕ) × (value ≡ family ++ behind)) ⊎ (¬ HasFamily value)
family_or_not (a ∷ b ∷ c ∷ rest) there =
    elim (cases_eq a 0) [
      | inr other ↦ inr (λ has. other (ap (λ (l : List ℕ). get_or l 0 0) has.1))
      | inl is_a ↦ elim (cases_eq b 31) [
        | inr other ↦ inr (λ has. other (ap (λ (l : List ℕ). get_or l 1 0) has.1))
        | inl is_b ↦ elim (cases_eq c 9) [
          | inr other ↦ inr (λ has. other (ap (λ (l : List ℕ). get_or l 2 0) has.1))
          | inl is_c ↦ inl (rest, cc)
        ]
      ]
    ]
family_or_not _ there = absurd (omega (arith, there))

-- a value of kind 14 or 15 of another family is kept unread
other_family : (start flags kind : ℕ) (value : List ℕ) → IsReachability kind → 3 ≤ length value → ¬ HasFamily value → BodyOrNot start flags kind value
other_family start flags kind value is there other =
    inl (
      bodies.Raw value,
      record {
        spelled = refl;
        fits = record {
          family_there = λ e. there;
          other_family = λ e. other;
          no_communities = λ sixteen. absurd (elim is [ inl e ↦ omega (arith, e, sixteen) | inr e ↦ omega (arith, e, sixteen) ]);
        };
      },
    )

headed : (xs : List ℕ) → 1 ≤ length xs → xs ≡ get_or xs 0 0 ∷ drop 1 xs
headed (x ∷ xs) there = refl
headed [] there = absurd (omega (arith, there))

-- a next hop of n bytes, a reserved byte, and the routes
record Head (behind : List ℕ) : Type 0 where
  hop : NextHop
  reserved : ℕ
  list : List ℕ
  whole : SplitsReach behind hop reserved list
  small_list : Small list

hop_of : (n size : ℕ) (rest : List ℕ) (hop : NextHop) → hop_bytes hop ≡ take n rest → size ≡ n → n < length rest → size ∷ rest ≡ length (hop_bytes hop) ∷ hop_bytes hop ++ get_or (drop n rest) 0 0 ∷ drop 1 (drop n rest)
hop_of n size rest hop bytes_are size_is room =
    let long : length (take n rest) ≡ size = omega (arith, length-take n rest, size_is, room) in
    let tail : drop n rest ≡ get_or (drop n rest) 0 0 ∷ drop 1 (drop n rest) = headed (drop n rest) (omega (arith, length-drop n rest, room)) in
    let parts : rest ≡ take n rest ++ get_or (drop n rest) 0 0 ∷ drop 1 (drop n rest) = sym (take-append-drop n rest) ∙ ap (λ (l : List ℕ). take n rest ++ l) tail in
    subst (λ (h : List ℕ). size ∷ rest ≡ length h ∷ h ++ get_or (drop n rest) 0 0 ∷ drop 1 (drop n rest)) (sym bytes_are)
    (ap (λ (s : ℕ). s ∷ rest) (sym long) ∙ ap (λ (l : List ℕ). length (take n rest) ∷ l) parts)

head_or_not : (behind : List ℕ) → Small behind → BadReach behind ⊎ Head behind
head_or_not [] small = inl (inl (omega arith))
head_or_not (size ∷ rest) small =
    elim (cases_lt (length (size ∷ rest)) 2) [
      | inl short ↦ inl (inl short)
      | inr there ↦ elim (cases_lt (length (size ∷ rest)) (2 + size)) [
        | inl short ↦ inl (inr (inr short))
        | inr room ↦ elim (cases_eq size 4) [
          | inl four ↦ inr (record {
            hop = hops.Four (take 4 rest);
            reserved = get_or (drop 4 rest) 0 0;
            list = drop 1 (drop 4 rest);
            whole = record { parts = hop_of 4 size rest (hops.Four (take 4 rest)) refl four (omega (arith, room, four)); fits = omega (arith, length-take 4 rest, room, four) };
            small_list = small_drop 1 (drop 4 rest) (small_drop 4 rest (small_drop 1 (size ∷ rest) small));
          })
          | inr not_four ↦ elim (cases_eq size 16) [
            | inl sixteen ↦ inr (record {
              hop = hops.Sixteen (take 16 rest);
              reserved = get_or (drop 16 rest) 0 0;
              list = drop 1 (drop 16 rest);
              whole = record { parts = hop_of 16 size rest (hops.Sixteen (take 16 rest)) refl sixteen (omega (arith, room, sixteen)); fits = omega (arith, length-take 16 rest, room, sixteen) };
              small_list = small_drop 1 (drop 16 rest) (small_drop 16 rest (small_drop 1 (size ∷ rest) small));
            })
            | inr not_sixteen ↦ inl (inr (inl (not_four, not_sixteen)))
          ]
        ]
      ]
    ]

reach_or_not : (start flags kind : ℕ) (value behind : List ℕ) → kind ≡ 14 → value ≡ family ++ behind → Small behind → BodyOrNot start flags kind value
reach_or_not start flags kind value behind is e small =
    elim (head_or_not behind small) [
      | inl bad ↦ inr (start, inr (inl (is, behind, e, inl (bad, refl))))
      | inr h ↦ elim (list_or_not (suc (length h.list)) (start + header_size flags + 5 + length (hop_bytes h.hop)) h.list (omega arith) h.small_list) [
        | inl rs ↦
            let reads : ReadsList h.list rs.0 = rs.1 in
            let behind_is : behind ≡ length (hop_bytes h.hop) ∷ hop_bytes h.hop ++ h.reserved ∷ list_bytes rs.0 = h.whole.parts ∙ ap (λ (l : List ℕ). length (hop_bytes h.hop) ∷ hop_bytes h.hop ++ h.reserved ∷ l) reads.spelled in
            inl (bodies.Reach (record { next_hop = h.hop; reserved = h.reserved; nlri = rs.0 }), record { spelled = e ∙ ap (λ (l : List ℕ). family ++ l) behind_is; fits = (is, h.whole.fits, reads.fits) })
        | inr bad ↦ inr (bad.0, inr (inl (is, behind, e, inr (h.hop, h.reserved, h.list, h.whole, bad.1))))
      ]
    ]

unreach_or_not : (start flags kind : ℕ) (value behind : List ℕ) → kind ≡ 15 → value ≡ family ++ behind → Small behind → BodyOrNot start flags kind value
unreach_or_not start flags kind value behind is e small =
    elim (list_or_not (suc (length behind)) (start + header_size flags + 3) behind (omega arith) small) [
      | inl rs ↦
          let reads : ReadsList behind rs.0 = rs.1 in
          inl (bodies.Unreach (record { nlri = rs.0 }), record { spelled = e ∙ ap (λ (l : List ℕ). family ++ l) reads.spelled; fits = (is, reads.fits) })
      | inr bad ↦ inr (bad.0, inr (inr (is, behind, e, bad.1)))
    ]

small_behind_family : (value behind : List ℕ) → value ≡ family ++ behind → Small value → Small behind
small_behind_family value behind e small = small_drop 3 (family ++ behind) (subst Small e small)

reachability_or_not : (start flags kind : ℕ) (value : List ℕ) → Small value → IsReachability kind → BodyOrNot start flags kind value
reachability_or_not start flags kind value small is =
    elim (cases_lt (length value) 3) [
      | inl short ↦ inr (start, inl (is, short, refl))
      | inr there ↦ elim (family_or_not value there) [
        | inr other ↦ other_family start flags kind value is there other
        | inl has ↦ elim is [
          | inl reach ↦ reach_or_not start flags kind value has.0 reach has.1 (small_behind_family value has.0 has.1 small)
          | inr unreach ↦ unreach_or_not start flags kind value has.0 unreach has.1 (small_behind_family value has.0 has.1 small)
        ]
      ]
    ]

communities_or_not : (flags : ℕ) (value : List ℕ) → HasCommunities flags value ⊎ (¬ HasCommunities flags value)
communities_or_not flags value =
    elim (cases_eq (flags / 64) 3) [
      | inr other ↦ inr (λ has. other has.shared)
      | inl shared ↦ elim (cases_eq (length value % 8) 0) [
        | inr other ↦ inr (λ has. other has.pieces)
        | inl pieces ↦ elim (cases_lt 0 (length value)) [
          | inl some ↦ inl (record { shared = shared; pieces = pieces; some = some })
          | inr none ↦ inr (λ has. omega (arith, has.some, none))
        ]
      ]
    ]

pieces_of : (n : ℕ) (value : List ℕ) → length value < n → length value % 8 ≡ 0 → (ps : List (List ℕ)) × ReadsPieces value ps
pieces_of zero value less whole = absurd (omega (arith, less))
pieces_of (suc n) [] less whole = ([], record { spelled = refl; fit = tt })
pieces_of (suc n) (b ∷ bytes) less whole =
    let there : 8 ≤ length (b ∷ bytes) = omega (arith, whole) in
    let rest = pieces_of n (drop 8 (b ∷ bytes)) (omega (arith, length-drop 8 (b ∷ bytes), less)) (omega (arith, length-drop 8 (b ∷ bytes), whole, there)) in
    let reads : ReadsPieces (drop 8 (b ∷ bytes)) rest.0 = rest.1 in (
      take 8 (b ∷ bytes) ∷ rest.0,
      record {
        spelled = sym (take-append-drop 8 (b ∷ bytes)) ∙ ap (λ (l : List ℕ). take 8 (b ∷ bytes) ++ l) reads.spelled;
        fit = (omega (arith, length-take 8 (b ∷ bytes), there), reads.fit);
      },
    )

pub extended_read : (start flags kind : ℕ) (value : List ℕ) → kind ≡ 16 → BodyOrNot start flags kind value
extended_read start flags kind value sixteen =
    elim (communities_or_not flags value) [
      | inl has ↦
          let found = pieces_of (suc (length value)) value (omega arith) has.pieces in
          let reads : ReadsPieces value found.0 = found.1 in
          inl (
            bodies.Communities found.0,
            record {
              spelled = reads.spelled;
              fits = (sixteen, has.shared, (λ none. omega (arith, ap length reads.spelled, ap (λ (ps : List (List ℕ)). length (flat_map (λ (c : List ℕ). c) ps)) none, has.some)), reads.fit);
            },
          )
      | inr none ↦ inl (
        bodies.Raw value,
        record {
          spelled = refl;
          fits = record {
            family_there = λ is. absurd (elim is [ inl e ↦ omega (arith, e, sixteen) | inr e ↦ omega (arith, e, sixteen) ]);
            other_family = λ is. absurd (elim is [ inl e ↦ omega (arith, e, sixteen) | inr e ↦ omega (arith, e, sixteen) ]);
            no_communities = λ e. none;
          };
        },
      )
    ]

body_or_not : (start flags kind : ℕ) (value : List ℕ) → Small value → BodyOrNot start flags kind value
body_or_not start flags kind value small =
    elim (cases_eq kind 14) [
      | inl reach ↦ reachability_or_not start flags kind value small (inl reach)
      | inr not_reach ↦ elim (cases_eq kind 15) [
        | inl unreach ↦ reachability_or_not start flags kind value small (inr unreach)
        | inr not_unreach ↦ elim (cases_eq kind 16) [
          | inl sixteen ↦ extended_read start flags kind value sixteen
          | inr other ↦ inl (
            bodies.Raw value,
            record {
              spelled = refl;
              fits = record {
                family_there = λ is. absurd (elim is [ inl e ↦ not_reach e | inr e ↦ not_unreach e ]);
                other_family = λ is. absurd (elim is [ inl e ↦ not_reach e | inr e ↦ not_unreach e ]);
                no_communities = λ e. absurd (other e);
              };
            },
          )
        ]
      ]
    ]

-- ---- an attribute

-- a whole attribute at the front of the bytes
record Piece (bytes : List ℕ) : Type 0 where
  flags : ℕ
  kind : ℕ
  value : List ℕ
  more : List ℕ
  whole : Splits bytes flags kind value more
  small_value : Small value
  shorter : length more < length bytes

short_spelled : (bytes value more : List ℕ) → Small bytes → 3 ≤ length bytes → ((get_or bytes 0 0 / 16) % 2 == 1) ≡ false
    → length value ≡ get_or bytes 2 0 → drop 3 bytes ≡ value ++ more → Splits bytes (get_or bytes 0 0) (get_or bytes 1 0) value more
short_spelled (a ∷ b ∷ s ∷ rest) value more small there short size_is behind =
    let fits_s : s < 256 = small 2 in
    let is_s : s ≡ length value = sym size_is in
    let is_rest : rest ≡ value ++ more = behind in
    let whole : a ∷ b ∷ s ∷ rest ≡ a ∷ b ∷ (length value ∷ []) ++ value ++ more = cc in
    record { parts = rw short whole; size = rw short (omega (arith, size_is)) }
short_spelled _ value more small there short size_is behind = absurd (omega (arith, there))

piece_by : (bytes : List ℕ) (long : Bool) → Small bytes → 0 < length bytes → ((get_or bytes 0 0 / 16) % 2 == 1) ≡ long → RunsPast bytes ⊎ Piece bytes
piece_by bytes true small some long =
    elim (cases_lt (length bytes) 4) [
      | inl short ↦ inl (inl (rw long short))
      | inr there ↦ elim (cases_lt (length bytes) (4 + number_at 2 bytes)) [
        | inl short ↦ inl (inr (rw long short))
        | inr room ↦
            let size : length (take (number_at 2 bytes) (drop 4 bytes)) ≡ number_at 2 bytes = omega (arith, length-take (number_at 2 bytes) (drop 4 bytes), length-drop 4 bytes, room) in
            inr (record {
              flags = get_or bytes 0 0;
              kind = get_or bytes 1 0;
              value = take (number_at 2 bytes) (drop 4 bytes);
              more = drop (number_at 2 bytes) (drop 4 bytes);
              whole = long_spelled bytes (take (number_at 2 bytes) (drop 4 bytes)) (drop (number_at 2 bytes) (drop 4 bytes)) small there long size (sym (take-append-drop (number_at 2 bytes) (drop 4 bytes)));
              small_value = small_take (number_at 2 bytes) (drop 4 bytes) (small_drop 4 bytes small);
              shorter = omega (arith, length-drop (number_at 2 bytes) (drop 4 bytes), length-drop 4 bytes, there);
            })
      ]
    ]
piece_by bytes false small some short =
    elim (cases_lt (length bytes) 3) [
      | inl past ↦ inl (inl (rw short past))
      | inr there ↦ elim (cases_lt (length bytes) (3 + get_or bytes 2 0)) [
        | inl past ↦ inl (inr (rw short past))
        | inr room ↦
            let size : length (take (get_or bytes 2 0) (drop 3 bytes)) ≡ get_or bytes 2 0 = omega (arith, length-take (get_or bytes 2 0) (drop 3 bytes), length-drop 3 bytes, room) in
            inr (record {
              flags = get_or bytes 0 0;
              kind = get_or bytes 1 0;
              value = take (get_or bytes 2 0) (drop 3 bytes);
              more = drop (get_or bytes 2 0) (drop 3 bytes);
              whole = short_spelled bytes (take (get_or bytes 2 0) (drop 3 bytes)) (drop (get_or bytes 2 0) (drop 3 bytes)) small there short size (sym (take-append-drop (get_or bytes 2 0) (drop 3 bytes)));
              small_value = small_take (get_or bytes 2 0) (drop 3 bytes) (small_drop 3 bytes small);
              shorter = omega (arith, length-drop (get_or bytes 2 0) (drop 3 bytes), length-drop 3 bytes, there);
            })
      ]
    ]

piece_or_not : (bytes : List ℕ) → Small bytes → 0 < length bytes → RunsPast bytes ⊎ Piece bytes
piece_or_not bytes small some = piece_by bytes ((get_or bytes 0 0 / 16) % 2 == 1) small some refl

-- ---- a list of attributes

again_or_not : (kind : ℕ) (before : List Attribute) → IsReachability kind → Repeats kind before ⊎ (¬ Repeats kind before)
again_or_not kind before is =
    elim (cases_lt 0 (count_of kind before)) [
      | inl again ↦ inl (record { reachability = is; again = again })
      | inr first ↦ inr (λ repeats. omega (arith, repeats.again, first))
    ]

repeats_or_not : (kind : ℕ) (before : List Attribute) → Repeats kind before ⊎ (¬ Repeats kind before)
repeats_or_not kind before =
    elim (cases_eq kind 14) [
      | inl reach ↦ again_or_not kind before (inl reach)
      | inr not_reach ↦ elim (cases_eq kind 15) [
        | inl unreach ↦ again_or_not kind before (inr unreach)
        | inr not_unreach ↦ inr (λ repeats. elim repeats.reachability [ inl e ↦ not_reach e | inr e ↦ not_unreach e ])
      ]
    ]

abbrev AttributesOrNot : ℕ → List ℕ → Type 0
AttributesOrNot start bytes = ((list : List Attribute) × ReadsAttributes bytes list) ⊎ ((place : ℕ) × RefusedAttributes start bytes place)

attributes_or_not : (n start : ℕ) (bytes : List ℕ) (before : List Attribute) (rest : List ℕ) → length rest < n → Small bytes → Small rest → bytes ≡ attributes_bytes before ++ rest
    → AttributesFit before → AttributesOrNot start bytes
attributes_or_not zero start bytes before rest less small within split fit = absurd (omega (arith, less))
attributes_or_not (suc n) start bytes before [] less small within split fit =
    inl (before, record { spelled = split ∙ append-nil (attributes_bytes before); fits = fit })
attributes_or_not (suc n) start bytes before (c ∷ cs) less small within split fit =
    elim (piece_or_not (c ∷ cs) within (omega arith)) [
      | inl past ↦ inr (start + length (attributes_bytes before), record { good = before; fit = fit; bad = c ∷ cs; split = split; some = omega arith; first = inl (past, refl) })
      | inr p ↦ elim (repeats_or_not p.kind before) [
        | inl again ↦ inr (
          start + length (attributes_bytes before),
          record {
            good = before;
            fit = fit;
            bad = c ∷ cs;
            split = split;
            some = omega arith;
            first = inr (record { flags = p.flags; kind = p.kind; value = p.value; more = p.more; whole = p.whole; row = inl (again, refl) });
          },
        )
        | inr first ↦ elim (body_or_not (start + length (attributes_bytes before)) p.flags p.kind p.value p.small_value) [
          | inr bad ↦ inr (
            bad.0,
            record {
              good = before;
              fit = fit;
              bad = c ∷ cs;
              split = split;
              some = omega arith;
              first = inr (record { flags = p.flags; kind = p.kind; value = p.value; more = p.more; whole = p.whole; row = inr (first, bad.1) });
            },
          )
          | inl body ↦
              let a : Attribute = record { flags = p.flags; kind = p.kind; body = body.0 } in
              let next = step bytes before (c ∷ cs) a p.value p.more small split fit p.whole first body.1 in
              attributes_or_not n start bytes (before ++ a ∷ []) p.more (omega (arith, less, p.shorter)) small (small_behind (attributes_bytes (before ++ a ∷ [])) p.more (subst Small next.0 small)) next.0 next.1
        ]
      ]
    ]

-- ---- a content

-- what stands before the attributes, and what follows
record Opening (bytes : List ℕ) : Type 0 where
  withdrawn : List ℕ
  size : ℕ
  more : List ℕ
  whole : Opens bytes withdrawn size more
  small_more : Small more

opening_or_not : (bytes : List ℕ) → Small bytes → OpensNot bytes ⊎ Opening bytes
opening_or_not bytes small =
    elim (cases_lt (length bytes) 4) [
      | inl short ↦ inl (inl short)
      | inr there ↦ elim (cases_lt (length bytes) (4 + number_at 0 bytes)) [
        | inl short ↦ inl (inr short)
        | inr room ↦
            let withdrawn : List ℕ = take (number_at 0 bytes) (drop 2 bytes) in
            let behind : List ℕ = drop (number_at 0 bytes) (drop 2 bytes) in
            let size : length withdrawn ≡ number_at 0 bytes = omega (arith, length-take (number_at 0 bytes) (drop 2 bytes), length-drop 2 bytes, room) in
            let left : 2 ≤ length behind = omega (arith, length-drop (number_at 0 bytes) (drop 2 bytes), length-drop 2 bytes, room) in
            inr (record {
              withdrawn = withdrawn;
              size = number_at 0 behind;
              more = drop 2 behind;
              whole = opening_spelled bytes withdrawn behind (number_at 0 behind) small (omega (arith, there)) left size (sym (take-append-drop (number_at 0 bytes) (drop 2 bytes))) refl;
              small_more = small_drop 2 behind (small_drop (number_at 0 bytes) (drop 2 bytes) (small_drop 2 bytes small));
            })
      ]
    ]

abbrev OneOfTwo : List ℕ → Type 0
OneOfTwo bytes = ((u : Update) × IsUpdate bytes u) ⊎ ((place : ℕ) × Refused bytes place)

-- the attributes that their length gives, and the rest
filled_or_not : (bytes withdrawn attributes nlri : List ℕ) → Small attributes → Opens bytes withdrawn (length attributes) (attributes ++ nlri) → OneOfTwo bytes
filled_or_not bytes withdrawn attributes nlri small o =
    elim (attributes_or_not (suc (length attributes)) (4 + length withdrawn) attributes [] attributes (omega arith) small small refl (record { each = tt; one_reach = omega arith; one_unreach = omega arith })) [
      | inl found ↦
          let reads : ReadsAttributes attributes found.0 = found.1 in
          inl (
            record { withdrawn = withdrawn; attributes = found.0; nlri = nlri },
            record {
              spelled = subst (λ (l : List ℕ). bytes ≡ two (length withdrawn) ++ withdrawn ++ two (length l) ++ l ++ nlri) reads.spelled (o.parts ∙ sym (append_assoc (two (length withdrawn) ++ withdrawn ++ two (length attributes)) attributes nlri));
              fits = record { withdrawn = o.withdrawn_fits; attributes = reads.fits; size = subst (λ (l : List ℕ). length l < 2 ^ 16) reads.spelled o.size_fits };
            },
          )
      | inr bad ↦ inr (bad.0, inr (inr (record { withdrawn = withdrawn; attributes = attributes; nlri = nlri; opens = o; one = bad.1 })))
    ]

opened_or_not : (bytes : List ℕ) → Opening bytes → OneOfTwo bytes
opened_or_not bytes o =
    elim (cases_lt (length o.more) o.size) [
      | inl past ↦ inr (2 + length o.withdrawn, inr (inl (record { withdrawn = o.withdrawn; size = o.size; more = o.more; opens = o.whole; runs_past = past; told = refl })))
      | inr room ↦
          let size : o.size ≡ length (take o.size o.more) = omega (arith, length-take o.size o.more, room) in
          filled_or_not bytes o.withdrawn (take o.size o.more) (drop o.size o.more) (small_take o.size o.more o.small_more)
          (subst (λ (l : List ℕ). Opens bytes o.withdrawn (length (take o.size o.more)) l) (sym (take-append-drop o.size o.more)) (subst (λ (n : ℕ). Opens bytes o.withdrawn n o.more) size o.whole))
    ]

-- bytes are an update, or are refused
pub one_of_two : (bytes : List ℕ) → AreBytes bytes → OneOfTwo bytes
one_of_two bytes all =
    elim (opening_or_not bytes (each_small bytes all)) [
      | inl not ↦ inr (0, inl (not, refl))
      | inr o ↦ opened_or_not bytes o
    ]
