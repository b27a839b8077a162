-- The first capability that carries an AS, parameter by parameter.
use Rattle.std.proofs.Common.{◌≡◌, ℕ, ◌+◌, ◌<◌, List, ◌∷◌, length, get_or, drop, Option, Some, None, refl, sym, ap, subst, ◌∙◌}
use Rattle.std.specs.Prelude.{find}
use Rattle.std.specs.Option.{option_map, option_map_or, option_or}
use Rattle.std.proofs.lemmas.List.{drop_more}
use Rattle.std.proofs.lemmas.List.Folds.{find-append}
use Rattle.wire_base.specs.Numbers.{big_endian}
use Rattle.bgp_messages.specs.declared.opens.Capability.{Capability}
use Rattle.bgp_messages.specs.declared.opens.Param.{Param}
use Rattle.bgp_messages.specs.Opens.{carries_as, capabilities_of}

-- the search over a parameter and those behind it
as_step : (ps : List Param) (i : ℕ) (p : Param) → i < length ps → p ≡ get_or ps i p
    → find carries_as (capabilities_of (drop i ps)) ≡ option_or (find carries_as p.caps) (find carries_as (capabilities_of (drop (i + 1) ps)))
as_step ps i p lt e =
    ap (λ (qs : List Param). find carries_as (capabilities_of qs)) (drop_more ps i p lt)
    ∙ ap (λ (q : Param). find carries_as (capabilities_of (q ∷ drop (i + 1) ps))) (sym e)
    ∙ find-append carries_as p.caps (capabilities_of (drop (i + 1) ps))

abbrev as_number : Capability → ℕ
as_number c = big_endian c.body

first_found : (o later : Option Capability) (n other : ℕ) → Some n ≡ option_map as_number o → n ≡ option_map_or as_number (option_or o later) other
first_found None later n other e = absurd cc
first_found (Some c) later n other e = cc

pub found : (ps : List Param) (i : ℕ) (p : Param) (n other : ℕ) → i < length ps → p ≡ get_or ps i p → Some n ≡ option_map as_number (find carries_as p.caps)
    → find carries_as (capabilities_of (drop i ps)) ≡ find carries_as (capabilities_of ps)
    → n ≡ option_map_or as_number (find carries_as (capabilities_of ps)) other
found ps i p n other lt e is so_far =
    subst (λ (o : Option Capability). n ≡ option_map_or as_number o other) (sym (as_step ps i p lt e) ∙ so_far)
    (first_found (find carries_as p.caps) (find carries_as (capabilities_of (drop (i + 1) ps))) n other is)

none_found : (o later : Option Capability) → None ≡ option_map as_number o → option_or o later ≡ later
none_found None later e = refl
none_found (Some c) later e = absurd cc

pub not_here : (ps : List Param) (i : ℕ) (p : Param) → i < length ps → p ≡ get_or ps i p → None ≡ option_map as_number (find carries_as p.caps)
    → find carries_as (capabilities_of (drop i ps)) ≡ find carries_as (capabilities_of ps)
    → find carries_as (capabilities_of (drop (i + 1) ps)) ≡ find carries_as (capabilities_of ps)
not_here ps i p lt e is so_far =
    sym (none_found (find carries_as p.caps) (find carries_as (capabilities_of (drop (i + 1) ps))) is) ∙ sym (as_step ps i p lt e) ∙ so_far
