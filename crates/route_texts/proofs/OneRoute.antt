-- A line spells at most one route.
use Rattle.std.proofs.Common.{◌≡◌, ℕ, ◌<◌, ◌^◌, List, [], ◌∷◌, get_or, sym, ◌∙◌, ap, subst, arith, inl, inr, Some, None}
use Rattle.std.specs.Prelude.{codes}
use Rattle.std.specs.Fmt.{decimal}
use Rattle.std.proofs.lemmas.Fmt.{decimal_injective}
use Rattle.text_words.specs.Pieces.{pieces_of, words_of}
use Rattle.wire_base.specs.declared.next_hops.NextHop.{NextHop}
use Rattle.bgp_update.specs.declared.routes.Nlri.TheVariants as nlris
use Rattle.sfp_attribute.specs.declared.sfps.HopPart.{HopPart}
use Rattle.sfp_attribute.specs.declared.sfps.HopPart.TheVariants as hop_part
use Rattle.sfp_attribute.specs.declared.sfps.Part.{Part}
use Rattle.sfp_attribute.specs.declared.sfps.Part.TheVariants as part
use Rattle.sfc_routes.specs.declared.routes.Route.{Route}
use Rattle.route_texts.specs.RouteLines.{Each, SpellsRd, SpellsRds, SpellsTarget, SpellsTargets, SpellsSft, SpellsHop, SpellsSfir, SpellsSfpr, SpellsRoute, no_address}
use Rattle.route_texts.proofs.EachLemmas.{each_one}
use Rattle.route_texts.proofs.OneLemmas.{one_hexadecimal, one_address}

one_rd : (p v w : List ℕ) → SpellsRd p v → SpellsRd p w → v ≡ w
one_rd p v w a b = one_hexadecimal 8 v w a.0 b.0 (sym a.1 ∙ b.1)

one_rds : (p : List ℕ) (v w : List (List ℕ)) → SpellsRds p v → SpellsRds p w → v ≡ w
one_rds p v w (inl a) (inl b) = a.1 ∙ sym b.1
one_rds p v w (inl a) (inr b) = absurd (b.0 a.0)
one_rds p v w (inr a) (inl b) = absurd (a.0 b.0)
one_rds p v w (inr a) (inr b) = each_one SpellsRd one_rd (pieces_of 44 p) v w a.1 b.1

one_target : (p v w : List ℕ) → SpellsTarget p v → SpellsTarget p w → v ≡ w
one_target p v w a b = one_hexadecimal 8 v w a.octets b.octets (sym a.spelled ∙ b.spelled)

one_targets : (p : List ℕ) (v w : List (List ℕ)) → SpellsTargets p v → SpellsTargets p w → v ≡ w
one_targets p v w (inl a) (inl b) = a.1 ∙ sym b.1
one_targets p v w (inl a) (inr b) = absurd (b.0 a.0)
one_targets p v w (inr a) (inl b) = absurd (a.0 b.0)
one_targets p v w (inr a) (inr b) = each_one SpellsTarget one_target (pieces_of 44 p) v w a.1 b.1

pub heads_are : {X : Type 0} (x y : X) (xs ys : List X) → x ∷ xs ≡ y ∷ ys → x ≡ y
heads_are x y xs ys e = cc

pub tails_are : {X : Type 0} (x y : X) (xs ys : List X) → x ∷ xs ≡ y ∷ ys → xs ≡ ys
tails_are x y xs ys e = cc

number_is : (m n : ℕ) → m < 2 ^ 32 → n < 2 ^ 32 → decimal m ≡ decimal n → m ≡ n
number_is m n hm hn e = decimal_injective m n (omega (arith, hm)) (omega (arith, hn)) e

one_sft : (p : List ℕ) (v w : HopPart) → SpellsSft p v → SpellsSft p w → v ≡ w
one_sft p v w a b =
    let all = sym a.cut ∙ b.cut in
    let kinds : a.kind ≡ b.kind = number_is a.kind b.kind (omega (arith, a.range.1)) (omega (arith, b.range.1)) (heads_are _ _ _ _ all) in
    let lists : a.list ≡ b.list = heads_are _ _ _ _ (tails_are _ _ _ _ all) in
    let rds : a.rds ≡ b.rds = one_rds b.list a.rds b.rds (subst (λ (l : List ℕ). SpellsRds l a.rds) lists a.listed) b.listed in
    let made : hop_part.Sft a.kind a.rds ≡ hop_part.Sft b.kind b.rds = cc in
    a.is ∙ made ∙ sym b.is

pub one_hop : (p : List ℕ) (v w : Part) → SpellsHop p v → SpellsHop p w → v ≡ w
one_hop p v w a b =
    let all = sym a.cut ∙ b.cut in
    let indexes : a.si ≡ b.si = number_is a.si b.si (omega (arith, a.range.1)) (omega (arith, b.range.1)) (heads_are _ _ _ _ all) in
    let lists : a.list ≡ b.list = heads_are _ _ _ _ (tails_are _ _ _ _ all) in
    let insides : a.inside ≡ b.inside = each_one SpellsSft one_sft (pieces_of 59 b.list) a.inside b.inside (subst (λ (l : List ℕ). Each SpellsSft (pieces_of 59 l) a.inside) lists a.listed) b.listed in
    let made : part.Hop a.si a.inside ≡ part.Hop b.si b.inside = cc in
    a.is ∙ made ∙ sym b.is

one_sfir : (words : List (List ℕ)) (r q : Route) → SpellsSfir words r → SpellsSfir words q → r ≡ q
one_sfir words r q a b =
    let all = tails_are _ _ _ _ (sym a.words_are ∙ b.words_are) in
    let rds : a.rd ≡ b.rd = one_hexadecimal 8 a.rd b.rd a.rd_fits b.rd_fits (heads_are _ _ _ _ all) in
    let second = tails_are _ _ _ _ all in
    let kinds : a.kind ≡ b.kind = number_is a.kind b.kind (omega (arith, a.kind_fits.1)) (omega (arith, b.kind_fits.1)) (heads_are _ _ _ _ second) in
    let third = tails_are _ _ _ _ second in
    let addresses : a.address ≡ b.address = one_address a.address b.address a.address_fits b.address_fits (heads_are _ _ _ _ third) in
    let lists : a.list ≡ b.list = heads_are _ _ _ _ (tails_are _ _ _ _ third) in
    let targets : a.targets ≡ b.targets = one_targets b.list a.targets b.targets (subst (λ (l : List ℕ). SpellsTargets l a.targets) lists a.listed) b.listed in
    let made : (rd : List ℕ) (kind : ℕ) (address : NextHop) (ts : List (List ℕ)) → Route = λ rd kind address ts. record { nlri = nlris.Sfir rd kind; next_hop = address; targets = ts; path = None } in
    let whole : made a.rd a.kind a.address a.targets ≡ made b.rd b.kind b.address b.targets = cc in
    a.is ∙ whole ∙ sym b.is

one_sfpr : (words : List (List ℕ)) (r q : Route) → SpellsSfpr words r → SpellsSfpr words q → r ≡ q
one_sfpr words r q a b =
    let all = tails_are _ _ _ _ (sym a.words_are ∙ b.words_are) in
    let rds : a.rd ≡ b.rd = one_hexadecimal 8 a.rd b.rd a.rd_fits b.rd_fits (heads_are _ _ _ _ all) in
    let second = tails_are _ _ _ _ all in
    let spis : a.spi ≡ b.spi = number_is a.spi b.spi (omega (arith, a.spi_fits.1)) (omega (arith, b.spi_fits.1)) (heads_are _ _ _ _ second) in
    let third = tails_are _ _ _ _ second in
    let lists : a.list ≡ b.list = heads_are _ _ _ _ third in
    let behinds : a.behind ≡ b.behind = tails_are _ _ _ _ third in
    let targets : a.targets ≡ b.targets = one_targets b.list a.targets b.targets (subst (λ (l : List ℕ). SpellsTargets l a.targets) lists a.listed) b.listed in
    let paths : a.path ≡ b.path = each_one SpellsHop one_hop b.behind a.path b.path (subst (λ (l : List (List ℕ)). Each SpellsHop l a.path) behinds a.hops) b.hops in
    let made : (rd : List ℕ) (spi : ℕ) (ts : List (List ℕ)) (ps : List Part) → Route = λ rd spi ts ps. record { nlri = nlris.Sfpr rd spi; next_hop = no_address; targets = ts; path = Some (record { parts = ps }) } in
    let whole : made a.rd a.spi a.targets a.path ≡ made b.rd b.spi b.targets b.path = cc in
    a.is ∙ whole ∙ sym b.is

first_words_differ : codes "sfir" ≡ codes "sfpr" → ⊥
first_words_differ e =
    let third = ap (λ (l : List ℕ). get_or l 2 0) e in
    omega (arith, third)

not_both : (words : List (List ℕ)) (r q : Route) → SpellsSfir words r → SpellsSfpr words q → ⊥
not_both words r q a b = first_words_differ (heads_are _ _ _ _ (sym a.words_are ∙ b.words_are))

pub one_route : (line : List ℕ) (r q : Route) → SpellsRoute line r → SpellsRoute line q → r ≡ q
one_route line r q (inl a) (inl b) = one_sfir (words_of line) r q a b
one_route line r q (inl a) (inr b) = absurd (not_both (words_of line) r q a b)
one_route line r q (inr a) (inl b) = absurd (not_both (words_of line) q r b a)
one_route line r q (inr a) (inr b) = one_sfpr (words_of line) r q a b

-- a list that spells no RDs stands behind no type
pub no_sft : (word : List ℕ) (kind : ℕ) (list : List ℕ) → pieces_of 58 word ≡ decimal kind ∷ list ∷ [] → ((rds : List (List ℕ)) → SpellsRds list rds → ⊥) → (v : HopPart) → SpellsSft word v → ⊥
no_sft word kind list cut none v s =
    let lists : s.list ≡ list = heads_are _ _ _ _ (tails_are _ _ _ _ (sym s.cut ∙ cut)) in
    none s.rds (subst (λ (l : List ℕ). SpellsRds l s.rds) lists s.listed)
