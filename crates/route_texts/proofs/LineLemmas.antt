-- Lines that spell no route, and what the first word says.
use Rattle.std.proofs.Common.{◌≡◌, ◌≢◌, ℕ, suc, ◌+◌, List, [], ◌∷◌, get_or, sym, ◌∙◌, ap, subst, arith, inl, inr, Option, Some, None, Ok, Err, min}
use Rattle.std.specs.Prelude.{codes, Result}
use Rattle.std.specs.Fmt.{decimal}
use Rattle.std.specs.List.{AllByRecursion}
use Rattle.wire_base.specs.declared.faults.OutOfMemory.{OutOfMemory}
use Rattle.wire_base.specs.declared.next_hops.NextHop.{NextHop}
use Rattle.text_words.specs.Pieces.{words_of}
use Rattle.text_words.specs.Hexadecimal.{hexadecimal}
use Rattle.text_words.specs.Addresses.{address_text}
use Rattle.sfp_attribute.specs.declared.sfps.Part.{Part}
use Rattle.sfp_attribute.specs.Sfps.{sis, FallFrom}
use Rattle.sfc_routes.specs.declared.routes.Route.{Route}
use Rattle.route_texts.specs.RouteLines.{Each, SpellsTargets, SpellsHop, SpellsSfir, SpellsSfpr, SpellsRoute}
use Rattle.route_texts.specs.RouteTexts.{Takes}
use Rattle.route_texts.specs.Steps.{Found}
use Rattle.route_texts.proofs.EachLemmas.{each_one}
use Rattle.route_texts.proofs.OneRoute.{heads_are, tails_are, one_hop, one_route}

-- the list at its place spells no targets
pub no_sfir : (ws : List (List ℕ)) (rd : List ℕ) (kind : ℕ) (address : NextHop) (list : List ℕ) → ws ≡ hexadecimal rd ∷ decimal kind ∷ address_text address ∷ list ∷ []
    → ((ts : List (List ℕ)) → SpellsTargets list ts → ⊥) → (v : Route) → SpellsSfir (codes "sfir" ∷ ws) v → ⊥
no_sfir ws rd kind address list cut none v s =
    let all = tails_are _ _ _ _ (sym s.words_are ∙ ap (λ (r : List (List ℕ)). codes "sfir" ∷ r) cut) in
    let lists : s.list ≡ list = heads_are _ _ _ _ (tails_are _ _ _ _ (tails_are _ _ _ _ (tails_are _ _ _ _ all))) in
    none s.targets (subst (λ (l : List ℕ). SpellsTargets l s.targets) lists s.listed)

pub no_sfpr_targets : (ws : List (List ℕ)) (rd : List ℕ) (spi : ℕ) (list : List ℕ) (behind : List (List ℕ)) → ws ≡ hexadecimal rd ∷ decimal spi ∷ list ∷ behind
    → ((ts : List (List ℕ)) → SpellsTargets list ts → ⊥) → (v : Route) → SpellsSfpr (codes "sfpr" ∷ ws) v → ⊥
no_sfpr_targets ws rd spi list behind cut none v s =
    let all = tails_are _ _ _ _ (sym s.words_are ∙ ap (λ (r : List (List ℕ)). codes "sfpr" ∷ r) cut) in
    let lists : s.list ≡ list = heads_are _ _ _ _ (tails_are _ _ _ _ (tails_are _ _ _ _ all)) in
    none s.targets (subst (λ (l : List ℕ). SpellsTargets l s.targets) lists s.listed)

-- the hops that the words spell do not fall
pub no_sfpr_fall : (ws : List (List ℕ)) (rd : List ℕ) (spi : ℕ) (list : List ℕ) (behind : List (List ℕ)) (path : List Part) → ws ≡ hexadecimal rd ∷ decimal spi ∷ list ∷ behind
    → Each SpellsHop behind path → (FallFrom 256 (sis path) → ⊥) → (v : Route) → SpellsSfpr (codes "sfpr" ∷ ws) v → ⊥
no_sfpr_fall ws rd spi list behind path cut each rises v s =
    let all = tails_are _ _ _ _ (sym s.words_are ∙ ap (λ (r : List (List ℕ)). codes "sfpr" ∷ r) cut) in
    let behinds : s.behind ≡ behind = tails_are _ _ _ _ (tails_are _ _ _ _ (tails_are _ _ _ _ all)) in
    let paths : s.path ≡ path = each_one SpellsHop one_hop behind s.path path (subst (λ (l : List (List ℕ)). Each SpellsHop l s.path) behinds s.hops) each in
    rises (subst (λ (l : List Part). FallFrom 256 (sis l)) paths s.falls)

pub words_differ : codes "sfir" ≡ codes "sfpr" → ⊥
words_differ e = omega (arith, ap (λ (l : List ℕ). get_or l 2 0) e)

-- the first word decides
pub found_sfir : (line : List ℕ) (word : List ℕ) (ws : List (List ℕ)) (result : Result (Option Route) OutOfMemory) → words_of line ≡ word ∷ ws → word ≡ codes "sfir"
    → Found (λ l r. SpellsSfir (codes "sfir" ∷ l) r) ws result → Found SpellsRoute line result
found_sfir line word ws (Ok (Some r)) cut is found = inl (subst (λ (l : List (List ℕ)). SpellsSfir l r) (sym (cut ∙ ap (λ (w : List ℕ). w ∷ ws) is)) found)
found_sfir line word ws (Ok None) cut is found = λ r spells. elim spells [
  | inl s ↦ found r (subst (λ (l : List (List ℕ)). SpellsSfir l r) (cut ∙ ap (λ (w : List ℕ). w ∷ ws) is) s)
  | inr s ↦ words_differ (sym is ∙ heads_are _ _ _ _ (sym cut ∙ s.words_are))
]
found_sfir line word ws (Err fault) cut is found = tt

pub found_sfpr : (line : List ℕ) (word : List ℕ) (ws : List (List ℕ)) (result : Result (Option Route) OutOfMemory) → words_of line ≡ word ∷ ws → word ≡ codes "sfpr"
    → Found (λ l r. SpellsSfpr (codes "sfpr" ∷ l) r) ws result → Found SpellsRoute line result
found_sfpr line word ws (Ok (Some r)) cut is found = inr (subst (λ (l : List (List ℕ)). SpellsSfpr l r) (sym (cut ∙ ap (λ (w : List ℕ). w ∷ ws) is)) found)
found_sfpr line word ws (Ok None) cut is found = λ r spells. elim spells [
  | inl s ↦ words_differ (sym (heads_are _ _ _ _ (sym cut ∙ s.words_are)) ∙ is)
  | inr s ↦ found r (subst (λ (l : List (List ℕ)). SpellsSfpr l r) (cut ∙ ap (λ (w : List ℕ). w ∷ ws) is) s)
]
found_sfpr line word ws (Err fault) cut is found = tt

-- a line whose route has an NLRI that was there
pub not_new : (before : List Route) (line : List ℕ) (r : Route) → SpellsRoute line r → (AllByRecursion (λ (q : Route). q.nlri ≢ r.nlri) before → ⊥) → (q : Route) → Takes before line q → ⊥
not_new before line r spells old q takes =
    old (subst (λ (p : Route). AllByRecursion (λ (x : Route). x.nlri ≢ p.nlri) before) (one_route line q r takes.spelled spells) takes.new)

pub five_more : (total part n : ℕ) → part ≡ min 65536 n → total ≡ min 65536 (5 + part) → total ≡ min 65536 (suc (suc (suc (suc (suc n)))))
five_more total part n p t = grind arith
