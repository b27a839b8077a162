-- The routes of a routes text may be announced, differ in their NLRI, and are at most 1,024.
use Rattle.std.proofs.Common.{◌≡◌, ℕ, ◌<◌, ◌≤◌, ◌^◌, Bool, true, cond, List, [], ◌∷◌, ◌++◌, length, filter, refl, sym, ap, subst, ◌∙◌, inl, inr, arith}
use Rattle.std.specs.Prelude.{◌≢◌, slice_index}
use Rattle.std.specs.List.{AllByRecursion, AllPairs}
use Rattle.std.proofs.lemmas.Bool.{and_from, le-leb, eq-eqb}
use Rattle.std.proofs.lemmas.List.{length-append}
use Rattle.std.proofs.lemmas.List.Elements.{All-from_recursion}
use Rattle.std.proofs.lemmas.List.Quantifiers.{all_pairs_push}
use Rattle.wire_base.specs.declared.next_hops.NextHop.{NextHop}
use Rattle.wire_base.specs.declared.next_hops.NextHop.TheVariants.{Four, Sixteen}
use Rattle.wire_base.specs.Addresses.{IsAddress}
use Rattle.text_words.specs.Pieces.{pieces_of, words_of}
use Rattle.bgp_update.specs.Attributes.{HopFits}
use Rattle.sfp_attribute.specs.declared.sfps.HopPart.{HopPart}
use Rattle.sfp_attribute.specs.declared.sfps.Part.{Part}
use Rattle.sfp_attribute.specs.Sfps.{hop_part_bytes, hop_part_value, hop_parts_bytes, HopPartFits, HopPartsFit, part_bytes, part_value, parts_bytes, PartFits, si_of, sis, RdsFit}
use Rattle.sfc_routes.specs.declared.routes.Route.{Route}
use Rattle.sfc_routes.specs.Meanings.{is_target}
use Rattle.sfc_routes.proofs.MemberLemmas.{all_join}
use Rattle.route_texts.specs.RouteLines.{Each, SpellsRd, SpellsRds, SpellsTarget, SpellsTargets, SpellsSft, SpellsHop, SpellsSfir, SpellsSfpr, SpellsRoute}
use Rattle.route_texts.specs.RouteTexts.{update_size, Takes, Runs, IsRoutes}
use Rattle.announced_files.specs.Announceable.{IsAnnounceable}

-- ---- RDs, targets, addresses

each_rd : (ws rds : List (List ℕ)) → Each SpellsRd ws rds → RdsFit rds
each_rd [] [] h = tt
each_rd [] (rd ∷ rds) h = absurd h
each_rd (w ∷ ws) [] h = absurd h
each_rd (w ∷ ws) (rd ∷ rds) h = (h.0.0.0, each_rd ws rds h.1)

rds_fit : (word : List ℕ) (rds : List (List ℕ)) → SpellsRds word rds → RdsFit rds
rds_fit word rds (inl none) = subst RdsFit (sym none.1) tt
rds_fit word rds (inr some) = each_rd (pieces_of 44 word) rds some.1

each_target : (ws ts : List (List ℕ)) → Each SpellsTarget ws ts → RdsFit ts
each_target [] [] h = tt
each_target [] (t ∷ ts) h = absurd h
each_target (w ∷ ws) [] h = absurd h
each_target (w ∷ ws) (t ∷ ts) h = (h.0.octets.0, each_target ws ts h.1)

targets_fit : (word : List ℕ) (ts : List (List ℕ)) → SpellsTargets word ts → RdsFit ts
targets_fit word ts (inl none) = subst RdsFit (sym none.1) tt
targets_fit word ts (inr some) = each_target (pieces_of 44 word) ts some.1

each_kept : (ws ts : List (List ℕ)) → Each SpellsTarget ws ts → filter is_target ts ≡ ts
each_kept [] [] h = refl
each_kept [] (t ∷ ts) h = absurd h
each_kept (w ∷ ws) [] h = absurd h
each_kept (w ∷ ws) (t ∷ ts) h =
    let is : is_target t ≡ true = and_from _ _ (le-leb (slice_index t 0) 2 h.0.form) (eq-eqb (slice_index t 1) 2 h.0.route) in
    ap (λ (b : Bool). cond b (t ∷ filter is_target ts) (filter is_target ts)) is ∙ ap (λ (l : List (List ℕ)). t ∷ l) (each_kept ws ts h.1)

targets_kept : (word : List ℕ) (ts : List (List ℕ)) → SpellsTargets word ts → filter is_target ts ≡ ts
targets_kept word ts (inl none) = subst (λ (l : List (List ℕ)). filter is_target l ≡ l) (sym none.1) refl
targets_kept word ts (inr some) = each_kept (pieces_of 44 word) ts some.1

hop_fits : (a : NextHop) → IsAddress a → HopFits a
hop_fits (Four octets) h = h.0
hop_fits (Sixteen octets) h = h.0

-- ---- paths

sft_fits : (word : List ℕ) (p : HopPart) → SpellsSft word p → length (hop_part_value p) < 2 ^ 16 → HopPartFits p
sft_fits word p s small =
    subst HopPartFits (sym s.is)
    (s.range.0, omega (arith, s.range.1), rds_fit s.list s.rds s.listed, subst (λ (q : HopPart). length (hop_part_value q) < 2 ^ 16) s.is small)

inside_fit : (ws : List (List ℕ)) (ps : List HopPart) → Each SpellsSft ws ps → length (hop_parts_bytes ps) < 2 ^ 16 → HopPartsFit ps
inside_fit [] [] h small = tt
inside_fit [] (p ∷ ps) h small = absurd h
inside_fit (w ∷ ws) [] h small = absurd h
inside_fit (w ∷ ws) (p ∷ ps) h small =
    let both = length-append (hop_part_bytes p) (hop_parts_bytes ps) in
    (sft_fits w p h.0 (omega (arith, small, both)), inside_fit ws ps h.1 (omega (arith, small, both)))

one_part_fits : (word : List ℕ) (p : Part) → SpellsHop word p → length (part_value p) < 2 ^ 16 → PartFits p
one_part_fits word p s small =
    let inside : length (s.si ∷ hop_parts_bytes s.inside) < 2 ^ 16 = subst (λ (q : Part). length (part_value q) < 2 ^ 16) s.is small in
    subst PartFits (sym s.is) (s.range.0, omega (arith, s.range.1), inside_fit (pieces_of 59 s.list) s.inside s.listed (omega (arith, inside)), inside)

parts_fit : (ws : List (List ℕ)) (ps : List Part) → Each SpellsHop ws ps → length (parts_bytes ps) < 2 ^ 16 → AllByRecursion PartFits ps
parts_fit [] [] h small = tt
parts_fit [] (p ∷ ps) h small = absurd h
parts_fit (w ∷ ws) [] h small = absurd h
parts_fit (w ∷ ws) (p ∷ ps) h small =
    let both = length-append (part_bytes p) (parts_bytes ps) in
    (one_part_fits w p h.0 (omega (arith, small, both)), parts_fit ws ps h.1 (omega (arith, small, both)))

some_hop : (ws : List (List ℕ)) (ps : List Part) → ws ≢ [] → Each SpellsHop ws ps → sis ps ≢ []
some_hop [] ps some h e = some refl
some_hop (w ∷ ws) [] some h e = absurd h
some_hop (w ∷ ws) (p ∷ ps) some h e =
    let here : (h.0.si ∷ []) ++ sis ps ≡ [] = subst (λ (q : Part). si_of q ++ sis ps ≡ []) h.0.is e in
    omega (arith, ap length here)

-- ---- routes

of_sfir : (ws : List (List ℕ)) (r : Route) → SpellsSfir ws r → update_size r ≤ 4096 → IsAnnounceable r
of_sfir ws r s small =
    subst IsAnnounceable (sym s.is) (record {
      nlri = (s.rd_fits.0, omega (arith, s.kind_fits.1));
      next_hop = hop_fits s.address s.address_fits;
      octets = targets_fit s.list s.targets s.listed;
      targets = targets_kept s.list s.targets s.listed;
      path = refl;
      small = subst (λ (q : Route). update_size q ≤ 4096) s.is small;
    })

of_sfpr : (ws : List (List ℕ)) (r : Route) → SpellsSfpr ws r → update_size r ≤ 4096 → IsAnnounceable r
of_sfpr ws r s small =
    let here = subst (λ (q : Route). update_size q ≤ 4096) s.is small in
    let within : length (parts_bytes s.path) < 2 ^ 16 = omega (arith, here) in
    subst IsAnnounceable (sym s.is) (record {
      nlri = (s.rd_fits.0, omega (arith, s.spi_fits.1));
      next_hop = refl;
      octets = targets_fit s.list s.targets s.listed;
      targets = targets_kept s.list s.targets s.listed;
      path = (record { parts = s.path }, refl, record { parts = record { each = parts_fit s.behind s.path s.hops within; falls = s.falls }; some = some_hop s.behind s.path s.some s.hops });
      small = here;
    })

of_line : (line : List ℕ) (r : Route) → SpellsRoute line r → update_size r ≤ 4096 → IsAnnounceable r
of_line line r (inl s) small = of_sfir (words_of line) r s small
of_line line r (inr s) small = of_sfpr (words_of line) r s small

-- ---- texts

-- what holds of routes that lines spell
pub record AreTaken (routes : List Route) : Type 0 where
  pub each : AllByRecursion IsAnnounceable routes
  pub differ : AllPairs (λ (q r : Route). q.nlri ≢ r.nlri) routes
  pub few : length routes ≤ 1024

one_taken : (before : List Route) (line : List ℕ) (r : Route) → AreTaken before → Takes before line r → AreTaken (before ++ r ∷ [])
one_taken before line r a takes = record {
  each = all_join IsAnnounceable before (r ∷ []) a.each (of_line line r takes.spelled takes.small, tt);
  differ = all_pairs_push (λ (q s : Route). q.nlri ≢ s.nlri) before r a.differ (All-from_recursion (λ (q : Route). q.nlri ≢ r.nlri) before takes.new);
  few = omega (arith, takes.room, length-append before (r ∷ []));
}

all_taken : (before : List Route) (lines : List (List ℕ)) (after : List Route) → AreTaken before → Runs before lines after → AreTaken after
all_taken before [] after a runs = subst AreTaken (sym runs) a
all_taken before (line ∷ lines) after a runs = all_taken (before ++ runs.0 ∷ []) lines after (one_taken before line runs.0 a runs.1) runs.2

pub of_text : (text : List ℕ) (routes : List Route) → IsRoutes text routes → AreTaken routes
of_text text routes is = all_taken [] is.lines routes (record { each = tt; differ = λ i j d below there. absurd (omega (arith, there)); few = omega arith }) is.runs
