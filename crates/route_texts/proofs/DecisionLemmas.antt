-- Each part of a line spells a value, or none.
use Rattle.std.proofs.Common.{◌≡◌, ◌≢◌, ◌⊎◌, ℕ, List, [], ◌∷◌, length, refl, sym, ap, subst, ◌∙◌, arith, inl, inr, Option, Some, None}
use Rattle.std.specs.Prelude.{codes, MatchOption}
use Rattle.std.specs.Fmt.{decimal}
use Rattle.std.proofs.lemmas.Bool.{cases_order}
use Rattle.text_words.specs.Numbers.{IsWithin}
use Rattle.text_words.specs.Reading.{Reads}
use Rattle.text_words.specs.Hexadecimal.{hexadecimal, IsOctets}
use Rattle.text_words.specs.Pieces.{pieces_of, words_of}
use Rattle.sfp_attribute.specs.declared.sfps.HopPart.{HopPart}
use Rattle.sfp_attribute.specs.declared.sfps.HopPart.TheVariants as hop_part
use Rattle.sfp_attribute.specs.declared.sfps.Part.{Part}
use Rattle.sfp_attribute.specs.declared.sfps.Part.TheVariants as part
use Rattle.sfp_attribute.specs.Sfps.{sis, FallFrom}
use Rattle.bgp_update.specs.declared.routes.Nlri.TheVariants as nlris
use Rattle.sfc_routes.specs.declared.routes.Route.{Route}
use Rattle.route_texts.specs.RouteLines.{Each, SpellsRd, SpellsRds, SpellsTarget, SpellsTargets, SpellsSft, SpellsHop, SpellsSfir, SpellsSfpr, SpellsRoute, no_address}
use Rattle.route_texts.specs.Decisions.{Decided, SfirBehind, SfprBehind}
use Rattle.route_texts.proofs.OneRoute.{heads_are, tails_are, no_sft}
use Rattle.route_texts.proofs.LineLemmas.{words_differ, no_sfir, no_sfpr_targets, no_sfpr_fall}

pub not_empty : {X : Type 0} (x : X) (xs : List X) → x ∷ xs ≡ [] → ⊥
not_empty x xs e = omega (arith, ap length e)

pub not_or : (b c : ℕ) → (b ≡ c) ⊎ (b ≢ c)
not_or b c = elim (cases_order b c) [
  | inl same ↦ inl same
  | inr (inl less) ↦ inr (λ e. omega (arith, less, e))
  | inr (inr more) ↦ inr (λ e. omega (arith, more, e))
]

pub same_or_not : (xs ys : List ℕ) → (xs ≡ ys) ⊎ (xs ≢ ys)
same_or_not [] [] = inl refl
same_or_not [] (y ∷ ys) = inr (λ e. not_empty y ys (sym e))
same_or_not (x ∷ xs) [] = inr (λ e. not_empty x xs e)
same_or_not (x ∷ xs) (y ∷ ys) = elim (not_or x y) [
  | inl head ↦ elim (same_or_not xs ys) [
    | inl tail ↦ inl (ap (λ (z : ℕ). z ∷ xs) head ∙ ap (λ (zs : List ℕ). y ∷ zs) tail)
    | inr other ↦ inr (λ e. other (tails_are x y xs ys e))
  ]
  | inr other ↦ inr (λ e. other (heads_are x y xs ys e))
]

-- ---- pieces

pub each_none : {V : Type 0} (Spells : List ℕ → V → Type 0) → Decided (Each Spells) []
each_none Spells = inl ([], tt)

no_head : {V : Type 0} (Spells : List ℕ → V → Type 0) (p : List ℕ) (ps : List (List ℕ)) → ((v : V) → Spells p v → ⊥) → (vs : List V) → Each Spells (p ∷ ps) vs → ⊥
no_head Spells p ps none [] each = each
no_head Spells p ps none (v ∷ vs) each = none v each.0

no_tail : {V : Type 0} (Spells : List ℕ → V → Type 0) (p : List ℕ) (ps : List (List ℕ)) → ((vs : List V) → Each Spells ps vs → ⊥) → (vs : List V) → Each Spells (p ∷ ps) vs → ⊥
no_tail Spells p ps none [] each = each
no_tail Spells p ps none (v ∷ vs) each = none vs each.1

each_next : {V : Type 0} (Spells : List ℕ → V → Type 0) (p : List ℕ) (ps : List (List ℕ)) → Decided Spells p → Decided (Each Spells) ps → Decided (Each Spells) (p ∷ ps)
each_next Spells p ps (inr none) more = inr (no_head Spells p ps none)
each_next Spells p ps (inl one) (inr none) = inr (no_tail Spells p ps none)
each_next Spells p ps (inl one) (inl more) = inl (one.0 ∷ more.0, (one.1, more.1))

-- where what is left is decided, all is
abbrev pub Leads : {V : Type 0} → (List ℕ → V → Type 0) → List (List ℕ) → List (List ℕ) → Type 0
Leads Spells left all = Decided (Each Spells) left → Decided (Each Spells) all

pub leads_same : {V : Type 0} (Spells : List ℕ → V → Type 0) (left all : List (List ℕ)) → left ≡ all → Leads Spells left all
leads_same Spells left all same = subst (Decided (Each Spells)) same

pub leads_next : {V : Type 0} (Spells : List ℕ → V → Type 0) (left all : List (List ℕ)) (p : List ℕ) (rest : List (List ℕ)) → Leads Spells left all → left ≡ p ∷ rest → Decided Spells p
    → Leads Spells rest all
leads_next Spells left all p rest leads next one = λ more. leads (subst (Decided (Each Spells)) (sym next) (each_next Spells p rest one more))

pub leads_end : {V : Type 0} (Spells : List ℕ → V → Type 0) (left all : List (List ℕ)) → Leads Spells left all → left ≡ [] → Decided (Each Spells) all
leads_end Spells left all leads none = leads (subst (Decided (Each Spells)) (sym none) (each_none Spells))

-- ---- words

pub rd_decided : (word : List ℕ) (r : Option (List ℕ)) → Reads (IsOctets 8) hexadecimal word r → Decided SpellsRd word
rd_decided word (Some v) h = inl (v, h)
rd_decided word None h = inr (λ v s. h v s.0 s.1)

pub rds_decided : (word : List ℕ) → Decided (Each SpellsRd) (pieces_of 44 word) → Decided SpellsRds word
rds_decided [] each = inl ([], inl (refl, refl))
rds_decided (b ∷ w) (inl some) = inl (some.0, inr (not_empty b w, some.1))
rds_decided (b ∷ w) (inr none) = inr (λ rds s. elim s [
  | inl empty ↦ not_empty b w empty.0
  | inr some ↦ none rds some.1
])

pub target_decided : (word : List ℕ) (r : Option (List ℕ)) → MatchOption r ((t : List ℕ) → SpellsTarget word t → ⊥) (λ t. SpellsTarget word t) → Decided SpellsTarget word
target_decided word (Some v) h = inl (v, h)
target_decided word None h = inr h

some_targets_decided : (word : List ℕ) → word ≢ 45 ∷ [] → Decided (Each SpellsTarget) (pieces_of 44 word) → Decided SpellsTargets word
some_targets_decided word other (inl some) = inl (some.0, inr (other, some.1))
some_targets_decided word other (inr none) = inr (λ ts s. elim s [
  | inl dash ↦ other dash.0
  | inr some ↦ none ts some.1
])

pub targets_decided : (word : List ℕ) → Decided (Each SpellsTarget) (pieces_of 44 word) → Decided SpellsTargets word
targets_decided word each = elim (same_or_not word (45 ∷ [])) [
  | inl dash ↦ inl ([], inl (dash, refl))
  | inr other ↦ some_targets_decided word other each
]

pub sft_decided : (word : List ℕ) (kind : ℕ) (list : List ℕ) → IsWithin 32 65535 kind → pieces_of 58 word ≡ decimal kind ∷ list ∷ [] → Decided SpellsRds list → Decided SpellsSft word
sft_decided word kind list range cut (inl some) =
    inl (hop_part.Sft kind some.0, record { kind = kind; list = list; rds = some.0; range = range; cut = cut; listed = some.1; is = refl })
sft_decided word kind list range cut (inr none) = inr (no_sft word kind list cut none)

no_hop : (word : List ℕ) (si : ℕ) (list : List ℕ) → pieces_of 61 word ≡ decimal si ∷ list ∷ [] → ((inside : List HopPart) → Each SpellsSft (pieces_of 59 list) inside → ⊥) → (v : Part)
    → SpellsHop word v → ⊥
no_hop word si list cut none v s =
    let lists : s.list ≡ list = heads_are _ _ _ _ (tails_are _ _ _ _ (sym s.cut ∙ cut)) in
    none s.inside (subst (λ (l : List ℕ). Each SpellsSft (pieces_of 59 l) s.inside) lists s.listed)

pub hop_decided : (word : List ℕ) (si : ℕ) (list : List ℕ) → IsWithin 1 255 si → pieces_of 61 word ≡ decimal si ∷ list ∷ [] → Decided (Each SpellsSft) (pieces_of 59 list) → Decided SpellsHop word
hop_decided word si list range cut (inl some) =
    inl (part.Hop si some.0, record { si = si; list = list; inside = some.0; range = range; cut = cut; listed = some.1; is = refl })
hop_decided word si list range cut (inr none) = inr (no_hop word si list cut none)

-- ---- lines

pub sfir_decided : (ws : List (List ℕ)) (list : List ℕ) → SfirBehind ws list → Decided SpellsTargets list → Decided SpellsSfir (codes "sfir" ∷ ws)
sfir_decided ws list b (inl some) =
    inl (
      record { nlri = nlris.Sfir b.rd b.kind; next_hop = b.address; targets = some.0; path = None },
      record {
        rd = b.rd;
        kind = b.kind;
        address = b.address;
        list = list;
        targets = some.0;
        rd_fits = b.rd_fits;
        kind_fits = b.kind_fits;
        address_fits = b.address_fits;
        words_are = ap (λ (l : List (List ℕ)). codes "sfir" ∷ l) b.words_are;
        listed = some.1;
        is = refl;
      },
    )
sfir_decided ws list b (inr none) = inr (no_sfir ws b.rd b.kind b.address list b.words_are none)

fall_or_not : (bound : ℕ) (ns : List ℕ) → FallFrom bound ns ⊎ (FallFrom bound ns → ⊥)
fall_or_not bound [] = inl tt
fall_or_not bound (n ∷ ns) = elim (fall_or_not n ns) [
  | inr rises ↦ inr (λ h. rises h.1)
  | inl falls ↦ elim (cases_order n bound) [
    | inl same ↦ inr (λ h. omega (arith, h.0, same))
    | inr (inl less) ↦ inl (less, falls)
    | inr (inr more) ↦ inr (λ h. omega (arith, h.0, more))
  ]
]

no_sfpr_hops : (ws : List (List ℕ)) (rd : List ℕ) (spi : ℕ) (list : List ℕ) (behind : List (List ℕ)) → ws ≡ hexadecimal rd ∷ decimal spi ∷ list ∷ behind
    → ((path : List Part) → Each SpellsHop behind path → ⊥) → (v : Route) → SpellsSfpr (codes "sfpr" ∷ ws) v → ⊥
no_sfpr_hops ws rd spi list behind cut none v s =
    let all = tails_are _ _ _ _ (sym s.words_are ∙ ap (λ (r : List (List ℕ)). codes "sfpr" ∷ r) cut) in
    let behinds : s.behind ≡ behind = tails_are _ _ _ _ (tails_are _ _ _ _ (tails_are _ _ _ _ all)) in
    none s.path (subst (λ (l : List (List ℕ)). Each SpellsHop l s.path) behinds s.hops)

pub sfpr_decided : (ws : List (List ℕ)) (list : List ℕ) (behind : List (List ℕ)) → SfprBehind ws list behind → Decided SpellsTargets list → Decided (Each SpellsHop) behind
    → Decided SpellsSfpr (codes "sfpr" ∷ ws)
sfpr_decided ws list behind b (inr none) hops = inr (no_sfpr_targets ws b.rd b.spi list behind b.words_are none)
sfpr_decided ws list behind b (inl some) (inr none) = inr (no_sfpr_hops ws b.rd b.spi list behind b.words_are none)
sfpr_decided ws list behind b (inl some) (inl hops) = elim (fall_or_not 256 (sis hops.0)) [
  | inr rises ↦ inr (no_sfpr_fall ws b.rd b.spi list behind hops.0 b.words_are hops.1 rises)
  | inl falls ↦ inl (
    record { nlri = nlris.Sfpr b.rd b.spi; next_hop = no_address; targets = some.0; path = Some (record { parts = hops.0 }) },
    record {
      rd = b.rd;
      spi = b.spi;
      list = list;
      targets = some.0;
      behind = behind;
      path = hops.0;
      rd_fits = b.rd_fits;
      spi_fits = b.spi_fits;
      words_are = ap (λ (l : List (List ℕ)). codes "sfpr" ∷ l) b.words_are;
      listed = some.1;
      some = b.some;
      hops = hops.1;
      falls = falls;
      is = refl;
    },
  )
]

first_word : (line word : List ℕ) (ws : List (List ℕ)) → words_of line ≡ word ∷ ws → (w : List ℕ) → word ≡ w → words_of line ≡ w ∷ ws
first_word line word ws cut w is = cut ∙ ap (λ (v : List ℕ). v ∷ ws) is

-- the first word decides which of the two a line may be
pub line_sfir : (line word : List ℕ) (ws : List (List ℕ)) → words_of line ≡ word ∷ ws → word ≡ codes "sfir" → Decided (λ (l : List (List ℕ)) (r : Route). SpellsSfir (codes "sfir" ∷ l) r) ws
    → Decided SpellsRoute line
line_sfir line word ws cut is (inl some) = inl (some.0, inl (subst (λ (l : List (List ℕ)). SpellsSfir l some.0) (sym (first_word line word ws cut (codes "sfir") is)) some.1))
line_sfir line word ws cut is (inr none) = inr (λ r spells. elim spells [
  | inl s ↦ none r (subst (λ (l : List (List ℕ)). SpellsSfir l r) (first_word line word ws cut (codes "sfir") is) s)
  | inr s ↦ words_differ (sym is ∙ heads_are _ _ _ _ (sym cut ∙ s.words_are))
])

pub line_sfpr : (line word : List ℕ) (ws : List (List ℕ)) → words_of line ≡ word ∷ ws → word ≡ codes "sfpr" → Decided (λ (l : List (List ℕ)) (r : Route). SpellsSfpr (codes "sfpr" ∷ l) r) ws
    → Decided SpellsRoute line
line_sfpr line word ws cut is (inl some) = inl (some.0, inr (subst (λ (l : List (List ℕ)). SpellsSfpr l some.0) (sym (first_word line word ws cut (codes "sfpr") is)) some.1))
line_sfpr line word ws cut is (inr none) = inr (λ r spells. elim spells [
  | inl s ↦ words_differ (sym (heads_are _ _ _ _ (sym cut ∙ s.words_are)) ∙ is)
  | inr s ↦ none r (subst (λ (l : List (List ℕ)). SpellsSfpr l r) (first_word line word ws cut (codes "sfpr") is) s)
])

pub line_other : (line word : List ℕ) (ws : List (List ℕ)) → words_of line ≡ word ∷ ws → word ≢ codes "sfir" → word ≢ codes "sfpr" → Decided SpellsRoute line
line_other line word ws cut no_sfir no_sfpr = inr (λ r spells. elim spells [
  | inl s ↦ no_sfir (heads_are _ _ _ _ (sym cut ∙ s.words_are))
  | inr s ↦ no_sfpr (heads_are _ _ _ _ (sym cut ∙ s.words_are))
])

pub line_none : (line : List ℕ) → words_of line ≡ [] → Decided SpellsRoute line
line_none line none = inr (λ r spells. elim spells [
  | inl s ↦ not_empty _ _ (sym s.words_are ∙ none)
  | inr s ↦ not_empty _ _ (sym s.words_are ∙ none)
])
