-- What a check has found so far, and what it finds at the end.
use Rattle.std.proofs.Common.{◌≡◌, ◌≢◌, ℕ, suc, zero, ◌+◌, ◌-◌, ◌^◌, ◌<◌, ◌≤◌, Bool, true, false, List, [], ◌∷◌, ◌++◌, length, Result, Ok, Err, refl, sym, ap, subst, ◌∙◌, append_assoc, inl, inr, arith}
use Rattle.std.specs.Prelude.{MatchBool, MatchResult}
use Rattle.std.proofs.lemmas.List.{length-append, append-nil}
use Rattle.std.proofs.lemmas.Bool.{cases_eq}
use Rattle.wire_base.specs.declared.next_hops.NextHop.{NextHop}
use Rattle.bgp_update.specs.declared.routes.Nlri.{Nlri}
use Rattle.bgp_update.specs.declared.attributes.Attribute.{Attribute}
use Rattle.bgp_update.specs.declared.attributes.Body.TheVariants as bodies
use Rattle.bgp_update.specs.declared.checking.Seen.{Seen}
use Rattle.wire_base.specs.Numbers.{two}
use Rattle.bgp_update.specs.Nlris.{nlri_bytes, list_bytes, NlriFits, ListFits}
use Rattle.bgp_update.specs.Attributes.{family, HasFamily, hop_bytes, attributes_bytes, IsReachability}
use Rattle.bgp_update.specs.Updates.{count_of, AttributesFit}
use Rattle.bgp_update.specs.Refusals.{BadNlri, RefusedList, header_size, RunsPast, Splits, Repeats, SplitsReach, RefusedValue, RefusedAttributes, Opens, Refused}
use Rattle.bgp_update.specs.Pieces.{SplitsRoute}
use Rattle.bgp_update.specs.Steps.{ReadsNlri}
use Rattle.bgp_update.specs.Checks.{HasList, HasBody, HasAttributes, HasUpdate, Sees}
use Rattle.bgp_update.proofs.CellLemmas.{Small, small_behind}
use Rattle.bgp_update.proofs.AttributeLemmas.{all_with, spelled_with, step}
use Rattle.bgp_update.proofs.TotalReadings.{route_or_not, cut_route, extended_read}

-- ---- a list of routes

small_front : (front behind : List ℕ) → Small (front ++ behind) → Small front
small_front [] behind small i = omega arith
small_front (x ∷ front) behind small zero = small 0
small_front (x ∷ front) behind small (suc i) = small_front front behind (λ j. small (suc j)) i

-- the bytes are those of some routes, and what is still to check
pub record RoutesSoFar (bytes rest : List ℕ) : Type 0 where
  pub good : List Nlri
  pub fit : ListFits good
  pub split : bytes ≡ list_bytes good ++ rest

pub no_route : (bytes : List ℕ) → RoutesSoFar bytes bytes
no_route bytes = record { good = []; fit = tt; split = refl }

pub one_more_route : (bytes rest : List ℕ) (kind : ℕ) (body more : List ℕ) → Small bytes → RoutesSoFar bytes rest → SplitsRoute rest kind body more → RoutesSoFar bytes more
one_more_route bytes rest kind body more small so_far cut =
    let within : Small rest = small_behind (list_bytes so_far.good) rest (subst Small so_far.split small) in
    let behind : Small (body ++ more) = small_behind (two kind ++ two (length body)) (body ++ more) (subst Small cut.whole.parts within) in
    elim (route_or_not kind body (small_front body more behind) cut.whole.kind_fits cut.whole.size_fits) [
      | inl wrong ↦ absurd (cut.right wrong)
      | inr r ↦
          let reads : ReadsNlri kind body r.0 = r.1 in
          record {
            good = so_far.good ++ r.0 ∷ [];
            fit = all_with NlriFits so_far.good r.0 so_far.fit reads.fits;
            split = so_far.split ∙ ap (λ (l : List ℕ). list_bytes so_far.good ++ l) (cut_route rest kind body more r.0 cut.whole reads) ∙ spelled_with nlri_bytes so_far.good r.0 more;
          }
    ]

pub routes_found : (bytes rest : List ℕ) → RoutesSoFar bytes rest → rest ≡ [] → HasList bytes
routes_found bytes rest so_far e = record {
  routes = so_far.good;
  reads = record { spelled = so_far.split ∙ ap (λ (l : List ℕ). list_bytes so_far.good ++ l) e ∙ append-nil (list_bytes so_far.good); fits = so_far.fit };
}

pub route_refused : (start : ℕ) (bytes rest : List ℕ) → RoutesSoFar bytes rest → 0 < length rest → BadNlri rest → RefusedList start bytes (start + (length bytes - length rest))
route_refused start bytes rest so_far some bad = record {
  good = so_far.good;
  fit = so_far.fit;
  bad = rest;
  split = so_far.split;
  some = some;
  first = bad;
  told = omega (arith, ap length so_far.split, length-append (list_bytes so_far.good) rest);
}

-- ---- a value

-- a value of kind 14 or 15 of another family is kept unread
pub other_has_body : (flags kind : ℕ) (value : List ℕ) → IsReachability kind → 3 ≤ length value → ¬ HasFamily value → HasBody flags kind value
other_has_body flags kind value is there other = record {
  body = bodies.Raw value;
  reads = record {
    spelled = refl;
    fits = record {
      family_there = λ e. there;
      other_family = λ e. other;
      no_communities = λ sixteen. absurd (elim is [ inl e ↦ omega (arith, e, sixteen) | inr e ↦ omega (arith, e, sixteen) ]);
    };
  };
}

-- so is a value of any other kind, unless it holds communities
pub unread_has_body : (flags kind : ℕ) (value : List ℕ) → kind ≢ 14 → kind ≢ 15 → HasBody flags kind value
unread_has_body flags kind value not_reach not_unreach =
    elim (cases_eq kind 16) [
      | inl sixteen ↦ elim (extended_read 0 flags kind value sixteen) [
        | inl found ↦ record { body = found.0; reads = found.1 }
        | inr bad ↦ absurd (elim bad.1 [
          | inl row ↦ elim row.0 [ inl e ↦ not_reach e | inr e ↦ not_unreach e ]
          | inr (inl row) ↦ not_reach row.0
          | inr (inr row) ↦ not_unreach row.0
        ])
      ]
      | inr other ↦ record {
        body = bodies.Raw value;
        reads = record {
          spelled = refl;
          fits = record {
            family_there = λ is. absurd (elim is [ inl e ↦ not_reach e | inr e ↦ not_unreach e ]);
            other_family = λ is. absurd (elim is [ inl e ↦ not_reach e | inr e ↦ not_unreach e ]);
            no_communities = λ e. absurd (other e);
          };
        };
      }
    ]

pub reach_checked : {A : Type 0} (start flags kind : ℕ) (value behind : List ℕ) (hop : NextHop) (reserved : ℕ) (list : List ℕ) (r : Result A ℕ) → kind ≡ 14 → value ≡ family ++ behind
    → SplitsReach behind hop reserved list → MatchResult r (λ _. HasList list) (λ place. RefusedList (start + (header_size flags + (length value - length list))) list place)
    → MatchResult r (λ _. HasBody flags kind value) (λ place. RefusedValue start (header_size flags) kind value place)
reach_checked start flags kind value behind hop reserved list (Ok x) is e head has =
    let behind_is : behind ≡ length (hop_bytes hop) ∷ hop_bytes hop ++ reserved ∷ list_bytes has.routes = head.parts ∙ ap (λ (l : List ℕ). length (hop_bytes hop) ∷ hop_bytes hop ++ reserved ∷ l) has.reads.spelled in
    record {
      body = bodies.Reach (record { next_hop = hop; reserved = reserved; nlri = has.routes });
      reads = record { spelled = e ∙ ap (λ (l : List ℕ). family ++ l) behind_is; fits = (is, head.fits, has.reads.fits) };
    }
reach_checked start flags kind value behind hop reserved list (Err place) is e head row =
    let at : start + (header_size flags + (length value - length list)) ≡ start + header_size flags + 5 + length (hop_bytes hop) =
    omega (arith, ap length e, ap length head.parts, length-append (hop_bytes hop) (reserved ∷ list)) in
    inr (inl (is, behind, e, inr (hop, reserved, list, head, subst (λ (s : ℕ). RefusedList s list place) at row)))

pub unreach_checked : {A : Type 0} (start flags kind : ℕ) (value behind : List ℕ) (r : Result A ℕ) → kind ≡ 15 → value ≡ family ++ behind
    → MatchResult r (λ _. HasList behind) (λ place. RefusedList (start + header_size flags + 3) behind place)
    → MatchResult r (λ _. HasBody flags kind value) (λ place. RefusedValue start (header_size flags) kind value place)
unreach_checked start flags kind value behind (Ok x) is e has = record {
  body = bodies.Unreach (record { nlri = has.routes });
  reads = record { spelled = e ∙ ap (λ (l : List ℕ). family ++ l) has.reads.spelled; fits = (is, has.reads.fits) };
}
unreach_checked start flags kind value behind (Err place) is e row = inr (inr (is, behind, e, row))

-- ---- a list of attributes

pub repeats_where_seen : (kind : ℕ) (before : List Attribute) (seen : Bool) → IsReachability kind → MatchBool seen (0 < count_of kind before) (¬ 0 < count_of kind before)
    → MatchBool seen (Repeats kind before) (¬ Repeats kind before)
repeats_where_seen kind before true is again = record { reachability = is; again = again }
repeats_where_seen kind before false is first = λ repeats. first repeats.again

-- the bytes are those of some attributes, and what is still to check
pub record AttributesSoFar (bytes rest : List ℕ) (seen : Seen) : Type 0 where
  pub good : List Attribute
  pub fit : AttributesFit good
  pub split : bytes ≡ attributes_bytes good ++ rest
  pub sees : Sees seen good

pub no_attribute : (bytes : List ℕ) (seen : Seen) → seen.reach ≡ false → seen.unreach ≡ false → AttributesSoFar bytes bytes seen
no_attribute bytes seen reach unreach = record {
  good = [];
  fit = record { each = tt; one_reach = omega arith; one_unreach = omega arith };
  split = refl;
  sees = record { reach = rw reach (λ some. omega (arith, some)); unreach = rw unreach (λ some. omega (arith, some)) };
}

pub one_more_attribute : (bytes rest : List ℕ) (seen after : Seen) (flags kind : ℕ) (value more : List ℕ) → Small bytes → (so_far : AttributesSoFar bytes rest seen) → Splits rest flags kind value more
    → ¬ Repeats kind so_far.good → HasBody flags kind value
    → ((before : List Attribute) (a : Attribute) → Sees seen before → a.kind ≡ kind → Sees after (before ++ a ∷ [])) → AttributesSoFar bytes more after
one_more_attribute bytes rest seen after flags kind value more small so_far cut first has sees =
    let a : Attribute = record { flags = flags; kind = kind; body = has.body } in
    let next = step bytes so_far.good rest a value more small so_far.split so_far.fit cut first has.reads in
    record { good = so_far.good ++ a ∷ []; fit = next.1; split = next.0; sees = sees so_far.good a so_far.sees refl }

pub attributes_found : (bytes rest : List ℕ) (seen : Seen) → AttributesSoFar bytes rest seen → rest ≡ [] → HasAttributes bytes
attributes_found bytes rest seen so_far e = record {
  attributes = so_far.good;
  reads = record { spelled = so_far.split ∙ ap (λ (l : List ℕ). attributes_bytes so_far.good ++ l) e ∙ append-nil (attributes_bytes so_far.good); fits = so_far.fit };
}

-- where the rest begins
stands_at : (start : ℕ) (bytes rest : List ℕ) (good : List Attribute) → bytes ≡ attributes_bytes good ++ rest → start + (length bytes - length rest) ≡ start + length (attributes_bytes good)
stands_at start bytes rest good split = omega (arith, ap length split, length-append (attributes_bytes good) rest)

pub attribute_past : (start : ℕ) (bytes rest : List ℕ) (seen : Seen) → AttributesSoFar bytes rest seen → 0 < length rest → RunsPast rest → RefusedAttributes start bytes (start + (length bytes - length rest))
attribute_past start bytes rest seen so_far some past = record {
  good = so_far.good;
  fit = so_far.fit;
  bad = rest;
  split = so_far.split;
  some = some;
  first = inl (past, stands_at start bytes rest so_far.good so_far.split);
}

pub attribute_again : (start : ℕ) (bytes rest : List ℕ) (seen : Seen) (flags kind : ℕ) (value more : List ℕ) → (so_far : AttributesSoFar bytes rest seen)
    → Splits rest flags kind value more → Repeats kind so_far.good → RefusedAttributes start bytes (start + (length bytes - length rest))
attribute_again start bytes rest seen flags kind value more so_far cut again = record {
  good = so_far.good;
  fit = so_far.fit;
  bad = rest;
  split = so_far.split;
  some = omega (arith, ap length cut.parts);
  first = inr (record { flags = flags; kind = kind; value = value; more = more; whole = cut; row = inl (again, stands_at start bytes rest so_far.good so_far.split) });
}

pub attribute_refused : (start : ℕ) (bytes rest : List ℕ) (seen : Seen) (flags kind : ℕ) (value more : List ℕ) (place : ℕ) → (so_far : AttributesSoFar bytes rest seen)
    → Splits rest flags kind value more → ¬ Repeats kind so_far.good → RefusedValue (start + (length bytes - length rest)) (header_size flags) kind value place → RefusedAttributes start bytes place
attribute_refused start bytes rest seen flags kind value more place so_far cut first row = record {
  good = so_far.good;
  fit = so_far.fit;
  bad = rest;
  split = so_far.split;
  some = omega (arith, ap length cut.parts);
  first = inr (record {
    flags = flags;
    kind = kind;
    value = value;
    more = more;
    whole = cut;
    row = inr (first, subst (λ (at : ℕ). RefusedValue at (header_size flags) kind value place) (stands_at start bytes rest so_far.good so_far.split) row);
  });
}

-- ---- a content

pub update_found : (content withdrawn attributes nlri : List ℕ) → Opens content withdrawn (length attributes) (attributes ++ nlri) → HasAttributes attributes → HasUpdate content attributes
update_found content withdrawn attributes nlri o has = record {
  update = record { withdrawn = withdrawn; attributes = has.attributes; nlri = nlri };
  is_update = record {
    spelled = subst (λ (l : List ℕ). content ≡ two (length withdrawn) ++ withdrawn ++ two (length l) ++ l ++ nlri) has.reads.spelled
        (o.parts ∙ sym (append_assoc (two (length withdrawn) ++ withdrawn ++ two (length attributes)) attributes nlri));
    fits = record { withdrawn = o.withdrawn_fits; attributes = has.reads.fits; size = subst (λ (l : List ℕ). length l < 2 ^ 16) has.reads.spelled o.size_fits };
  };
  attributes = has.reads.spelled;
}

pub one_refused : (content withdrawn attributes nlri : List ℕ) (place : ℕ) → Opens content withdrawn (length attributes) (attributes ++ nlri) → RefusedAttributes (4 + length withdrawn) attributes place → Refused content place
one_refused content withdrawn attributes nlri place o row = inr (inr (record { withdrawn = withdrawn; attributes = attributes; nlri = nlri; opens = o; one = row }))
