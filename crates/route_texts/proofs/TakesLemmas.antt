-- Behind any routes a line is taken, or is not; so every text spells routes, or a line of it is refused.
use Rattle.std.proofs.Common.{◌≡◌, ◌≢◌, ◌⊎◌, ℕ, ◌+◌, ◌<◌, ◌≤◌, List, [], ◌∷◌, ◌++◌, length, refl, sym, ap, subst, ◌∙◌, append_assoc, arith, inl, inr}
use Rattle.std.specs.List.{flat_map, AllByRecursion}
use Rattle.std.proofs.lemmas.Bool.{cases_order}
use Rattle.bgp_update.specs.declared.routes.Nlri.{Nlri}
use Rattle.bgp_update.specs.declared.routes.Nlri.TheVariants as nlris
use Rattle.sfc_routes.specs.declared.routes.Route.{Route}
use Rattle.route_texts.specs.RouteLines.{SpellsRoute}
use Rattle.route_texts.specs.RouteTexts.{update_size, Takes, IsUnbroken, ended}
use Rattle.route_texts.specs.Decisions.{Decided, AllTaken, OneRefused, Readable, HasReading}
use Rattle.route_texts.proofs.OneRoute.{one_route}
use Rattle.route_texts.proofs.LineLemmas.{not_new}
use Rattle.route_texts.proofs.DecisionLemmas.{not_or, same_or_not}

at_most_or_not : (a b : ℕ) → (a ≤ b) ⊎ (a ≤ b → ⊥)
at_most_or_not a b = elim (cases_order a b) [
  | inl same ↦ inl (omega (arith, same))
  | inr (inl less) ↦ inl (omega (arith, less))
  | inr (inr more) ↦ inr (λ h. omega (arith, more, h))
]

-- two NLRI of one type are the same where their two parts are
both_or_not : {X Y : Type 0} (x y : X) (v w : Y) (same : Type 0) → (x ≡ y → v ≡ w → same) → (same → x ≡ y) → (same → v ≡ w) → (x ≡ y) ⊎ (x ≢ y) → (v ≡ w) ⊎ (v ≢ w)
    → same ⊎ (same → ⊥)
both_or_not x y v w same make first second (inl a) (inl b) = inl (make a b)
both_or_not x y v w same make first second (inl a) (inr b) = inr (λ s. b (second s))
both_or_not x y v w same make first second (inr a) other = inr (λ s. a (first s))

nlri_or_not : (m n : Nlri) → (m ≡ n) ⊎ (m ≢ n)
nlri_or_not (nlris.Sfir rd kind) (nlris.Sfir rd' kind') =
    both_or_not rd rd' kind kind' (nlris.Sfir rd kind ≡ nlris.Sfir rd' kind') (λ a b. cc) (λ e. cc) (λ e. cc) (same_or_not rd rd') (not_or kind kind')
nlri_or_not (nlris.Sfir rd kind) (nlris.Sfpr rd' spi') = inr (λ e. cc)
nlri_or_not (nlris.Sfir rd kind) (nlris.Other kind' body') = inr (λ e. cc)
nlri_or_not (nlris.Sfpr rd spi) (nlris.Sfir rd' kind') = inr (λ e. cc)
nlri_or_not (nlris.Sfpr rd spi) (nlris.Sfpr rd' spi') =
    both_or_not rd rd' spi spi' (nlris.Sfpr rd spi ≡ nlris.Sfpr rd' spi') (λ a b. cc) (λ e. cc) (λ e. cc) (same_or_not rd rd') (not_or spi spi')
nlri_or_not (nlris.Sfpr rd spi) (nlris.Other kind' body') = inr (λ e. cc)
nlri_or_not (nlris.Other kind body) (nlris.Sfir rd' kind') = inr (λ e. cc)
nlri_or_not (nlris.Other kind body) (nlris.Sfpr rd' spi') = inr (λ e. cc)
nlri_or_not (nlris.Other kind body) (nlris.Other kind' body') =
    both_or_not kind kind' body body' (nlris.Other kind body ≡ nlris.Other kind' body') (λ a b. cc) (λ e. cc) (λ e. cc) (not_or kind kind') (same_or_not body body')

new_or_not : (before : List Route) (n : Nlri) → AllByRecursion (λ (q : Route). q.nlri ≢ n) before ⊎ (AllByRecursion (λ (q : Route). q.nlri ≢ n) before → ⊥)
new_or_not [] n = inl tt
new_or_not (q ∷ qs) n = elim (nlri_or_not q.nlri n) [
  | inl same ↦ inr (λ h. h.0 same)
  | inr other ↦ elim (new_or_not qs n) [
    | inl all ↦ inl (other, all)
    | inr some ↦ inr (λ h. some h.1)
  ]
]

-- a line whose route has too large an UPDATE
not_small : (before : List Route) (line : List ℕ) (r : Route) → SpellsRoute line r → (update_size r ≤ 4096 → ⊥) → (q : Route) → Takes before line q → ⊥
not_small before line r spells large q takes = large (subst (λ (p : Route). update_size p ≤ 4096) (one_route line q r takes.spelled spells) takes.small)

spelled_decided : (before : List Route) (line : List ℕ) (r : Route) → SpellsRoute line r → Decided (Takes before) line
spelled_decided before line r spells = elim (new_or_not before r.nlri) [
  | inr old ↦ inr (not_new before line r spells old)
  | inl new ↦ elim (at_most_or_not (update_size r) 4096) [
    | inr large ↦ inr (not_small before line r spells large)
    | inl small ↦ elim (cases_order (length before) 1024) [
      | inr (inl room) ↦ inl (r, record { spelled = spells; small = small; room = room; new = new })
      | inl full ↦ inr (λ q takes. omega (arith, full, takes.room))
      | inr (inr full) ↦ inr (λ q takes. omega (arith, full, takes.room))
    ]
  ]
]

takes_decided : (before : List Route) (line : List ℕ) → Decided SpellsRoute line → Decided (Takes before) line
takes_decided before line (inl one) = spelled_decided before line one.0 one.1
takes_decided before line (inr none) = inr (λ q takes. none q takes.spelled)

pub readable_none : (text : List ℕ) → text ≡ [] → Readable text
readable_none text none = record { behind = λ before. inl (record { lines = []; after = before; split = none; unbroken = tt; runs = refl }) }

pub readable_last : (text : List ℕ) → IsUnbroken text → 0 < length text → Readable text
readable_last text unbroken some = record {
  behind = λ before. inr (record {
    good = [];
    routes = before;
    bad = text;
    split = refl;
    unbroken = tt;
    runs = refl;
    first = record { line = text; unbroken = unbroken; why = inl (refl, some) };
  });
}

-- a line that is taken, and what can be read behind it
taken_behind : (before : List Route) (text line behind : List ℕ) (r : Route) → IsUnbroken line → text ≡ ended line ++ behind → Takes before line r
    → AllTaken (before ++ r ∷ []) behind ⊎ OneRefused (before ++ r ∷ []) behind → AllTaken before text ⊎ OneRefused before text
taken_behind before text line behind r unbroken cut takes (inl all) = inl (record {
  lines = line ∷ all.lines;
  after = all.after;
  split = cut ∙ ap (λ (l : List ℕ). ended line ++ l) all.split;
  unbroken = (unbroken, all.unbroken);
  runs = (r, takes, all.runs);
})
taken_behind before text line behind r unbroken cut takes (inr one) = inr (record {
  good = line ∷ one.good;
  routes = one.routes;
  bad = one.bad;
  split = cut ∙ ap (λ (l : List ℕ). ended line ++ l) one.split ∙ sym (append_assoc (ended line) (flat_map ended one.good) one.bad);
  unbroken = (unbroken, one.unbroken);
  runs = (r, takes, one.runs);
  first = one.first;
})

line_behind : (before : List Route) (text line behind : List ℕ) → IsUnbroken line → text ≡ ended line ++ behind → Decided (Takes before) line → Readable behind
    → AllTaken before text ⊎ OneRefused before text
line_behind before text line behind unbroken cut (inl one) rest = taken_behind before text line behind one.0 unbroken cut one.1 (rest.behind (before ++ one.0 ∷ []))
line_behind before text line behind unbroken cut (inr none) rest = inr (record {
  good = [];
  routes = before;
  bad = text;
  split = refl;
  unbroken = tt;
  runs = refl;
  first = record { line = line; unbroken = unbroken; why = inr (behind, cut, none) };
})

pub readable_more : (text line behind : List ℕ) → IsUnbroken line → text ≡ ended line ++ behind → Decided SpellsRoute line → Readable behind → Readable text
readable_more text line behind unbroken cut one rest = record { behind = λ before. line_behind before text line behind unbroken cut (takes_decided before line one) rest }

pub reading_of : (text : List ℕ) → Readable text → HasReading text
reading_of text readable = elim (readable.behind []) [
  | inl all ↦ inl (all.after, record { lines = all.lines; split = all.split; unbroken = all.unbroken; runs = all.runs })
  | inr one ↦ inr (
    length one.good + 1,
    record {
      good = one.good;
      routes = one.routes;
      bad = one.bad;
      split = one.split;
      unbroken = one.unbroken;
      runs = one.runs;
      first = one.first;
      number = refl;
    },
  )
]
