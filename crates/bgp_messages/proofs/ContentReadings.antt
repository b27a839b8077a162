-- Two readings of one content are one: its items, its parameters, and what is refused in it.
use Rattle.std.proofs.Common.{◌≡◌, ℕ, ◌+◌, ◌<◌, List, [], ◌∷◌, ◌++◌, length, get_or, drop, refl, sym, ap, subst, ◌∙◌, inl, inr, ◌⊎◌, arith}
use Rattle.std.specs.List.{flat_map, AllByRecursion}
use Rattle.std.proofs.lemmas.List.{append-nil, length-append}
use Rattle.bgp_messages.specs.declared.opens.Open.{Open}
use Rattle.bgp_messages.specs.declared.opens.Param.{Param}
use Rattle.bgp_messages.specs.declared.opens.Capability.{Capability}
use Rattle.bgp_messages.specs.Opens.{capability_bytes, value_bytes, parameter_bytes, parameters_bytes, open_bytes, OpenFits}
use Rattle.bgp_messages.specs.Refusals.{Told, RunsPast, RefusedCapability, RefusedParameter, RefusedParameters, BadHold, NoIdentifier, hold_in, RefusedHold, RefusedIdentifier, RefusedSize, RefusedList, RefusedContent}
use Rattle.wire_base.proofs.SplitLemmas.{Reads, same_parts, one_split}

-- every value fits
abbrev Any : {X : Type 0} → X → Type 0
Any x = Unit {0}

all_any : {X : Type 0} (xs : List X) → AllByRecursion (Any {X = X}) xs
all_any [] = tt
all_any (x ∷ xs) = (tt, all_any xs)

-- ---- items: a code, a length, a value

-- an item that is whole does not run past
whole_not_past : (code : ℕ) (value more bytes : List ℕ) → bytes ≡ code ∷ length value ∷ value ++ more → RunsPast bytes → ⊥
whole_not_past code value more bytes e (inl short) = omega (arith, ap length e, short)
whole_not_past code value more bytes e (inr short) = omega (arith, ap length e, ap (λ (b : List ℕ). get_or b 1 0) e, length-append value more, short)

record SameItem (code code' : ℕ) (value value' more more' : List ℕ) : Type 0 where
  code_is : code ≡ code'
  value_is : value ≡ value'
  more_is : more ≡ more'

same_item : (code code' : ℕ) (value value' more more' bytes : List ℕ) → bytes ≡ code ∷ length value ∷ value ++ more → bytes ≡ code' ∷ length value' ∷ value' ++ more'
    → SameItem code code' value value' more more'
same_item code code' value value' more more' bytes e e' =
    let codes : code ≡ code' = cc in
    let sizes : length value ≡ length value' = cc in
    let tails : value ++ more ≡ value' ++ more' = cc in
    let parts = same_parts value value' more more' sizes tails in
    record { code_is = codes; value_is = parts.0; more_is = parts.1 }

-- ---- capabilities

-- no further capability, or one that is refused
abbrev CapabilityEnd : List ℕ → Type 0
CapabilityEnd bytes = (bytes ≡ []) ⊎ ((0 < length bytes) × RunsPast bytes)

same_capability : (c d : Capability) (r s : List ℕ) → Any c → Any d → capability_bytes c ++ r ≡ capability_bytes d ++ s → (c ≡ d) × (r ≡ s)
same_capability c d r s fc fd e =
    let one = same_item c.code d.code c.body d.body r s (capability_bytes d ++ s) (sym e) refl in
    let made : (code : ℕ) (body : List ℕ) → Capability = λ code body. record { code = code; body = body } in
    let whole : made c.code c.body ≡ made d.code d.body = ap (λ (n : ℕ). made n c.body) one.code_is ∙ ap (λ (b : List ℕ). made d.code b) one.value_is in
    (whole, one.more_is)

capability_ended : (c : Capability) (r : List ℕ) → Any c → CapabilityEnd (capability_bytes c ++ r) → ⊥
capability_ended c r f (inl e) = cc
capability_ended c r f (inr past) = whole_not_past c.code c.body r (capability_bytes c ++ r) refl past.1

capabilities_read : Reads capability_bytes (Any {X = Capability}) CapabilityEnd
capabilities_read = record { same = same_capability; ended = capability_ended }

one_capabilities : (cs ds : List Capability) (r s : List ℕ) → CapabilityEnd r → CapabilityEnd s
    → flat_map capability_bytes cs ++ r ≡ flat_map capability_bytes ds ++ s → (cs ≡ ds) × (r ≡ s)
one_capabilities cs ds r s er es e = one_split capability_bytes Any CapabilityEnd capabilities_read cs ds r s (all_any cs) (all_any ds) er es e

-- ---- parameters

abbrev ParameterEnd : List ℕ → Type 0
ParameterEnd bytes = (bytes ≡ []) ⊎ ((place : ℕ) × (t : Told) × RefusedParameter place bytes t)

-- good capabilities hold none that is refused
good_capabilities : (place : ℕ) (cs : List Capability) (t : Told) → RefusedCapability place (flat_map capability_bytes cs) t → ⊥
good_capabilities place cs t row =
    let one = one_capabilities cs row.good [] row.bad (inl refl) (inr (row.some, row.runs_past)) (append-nil (flat_map capability_bytes cs) ∙ row.split) in
    omega (arith, ap length one.1, row.some)

same_parameter : (p q : Param) (r s : List ℕ) → Any p → Any q → parameter_bytes p ++ r ≡ parameter_bytes q ++ s → (p ≡ q) × (r ≡ s)
same_parameter p q r s fp fq e =
    let one = same_item 2 2 (value_bytes p) (value_bytes q) r s (parameter_bytes q ++ s) (sym e) refl in
    let values : flat_map capability_bytes p.caps ++ [] ≡ flat_map capability_bytes q.caps ++ [] = append-nil (value_bytes p) ∙ one.value_is ∙ sym (append-nil (value_bytes q)) in
    let caps = one_capabilities p.caps q.caps [] [] (inl refl) (inl refl) values in
    let made : (cs : List Capability) → Param = λ cs. record { caps = cs } in
    let whole : made p.caps ≡ made q.caps = ap made caps.0 in
    (whole, one.more_is)

-- a good parameter is not refused
good_parameter : (p : Param) (r : List ℕ) (place : ℕ) (t : Told) → RefusedParameter place (parameter_bytes p ++ r) t → ⊥
good_parameter p r place t (inl row) = whole_not_past 2 (value_bytes p) r (parameter_bytes p ++ r) refl row.runs_past
good_parameter p r place t (inr (inl row)) =
    let one = same_item row.kind 2 row.value (value_bytes p) row.more r (parameter_bytes p ++ r) row.whole refl in
    row.other one.code_is
good_parameter p r place t (inr (inr row)) =
    let one = same_item 2 2 row.value (value_bytes p) row.more r (parameter_bytes p ++ r) row.whole refl in
    good_capabilities (place + 2) p.caps t (subst (λ (v : List ℕ). RefusedCapability (place + 2) v t) one.value_is row.capability)

parameter_ended : (p : Param) (r : List ℕ) → Any p → ParameterEnd (parameter_bytes p ++ r) → ⊥
parameter_ended p r f (inl e) = cc
parameter_ended p r f (inr row) = good_parameter p r row.0 row.1 row.2

parameters_read : Reads parameter_bytes (Any {X = Param}) ParameterEnd
parameters_read = record { same = same_parameter; ended = parameter_ended }

one_parameters : (ps qs : List Param) (r s : List ℕ) → ParameterEnd r → ParameterEnd s
    → parameters_bytes ps ++ r ≡ parameters_bytes qs ++ s → (ps ≡ qs) × (r ≡ s)
one_parameters ps qs r s er es e = one_split parameter_bytes Any ParameterEnd parameters_read ps qs r s (all_any ps) (all_any qs) er es e

-- parameters that fill the same bytes are the same
pub one_parameters_whole : (ps qs : List Param) → parameters_bytes ps ≡ parameters_bytes qs → ps ≡ qs
one_parameters_whole ps qs e =
    let one = one_parameters ps qs [] [] (inl refl) (inl refl) (append-nil (parameters_bytes ps) ∙ e ∙ sym (append-nil (parameters_bytes qs))) in
    one.0

-- what is refused is not nothing
parameter_some : (place : ℕ) (bytes : List ℕ) (t : Told) → RefusedParameter place bytes t → 0 < length bytes
parameter_some place bytes t (inl row) = row.some
parameter_some place bytes t (inr (inl row)) = omega (arith, ap length row.whole)
parameter_some place bytes t (inr (inr row)) = omega (arith, ap length row.whole)

good_parameters : (place : ℕ) (ps : List Param) (t : Told) → RefusedParameters place (parameters_bytes ps) t → ⊥
good_parameters place ps t row =
    let one = one_parameters ps row.good [] row.bad (inl refl) (inr (place + length (parameters_bytes row.good), t, row.first)) (append-nil (parameters_bytes ps) ∙ row.split) in
    omega (arith, ap length one.1, parameter_some (place + length (parameters_bytes row.good)) row.bad t row.first)

one_capability_told : (place : ℕ) (value : List ℕ) (s t : Told) → RefusedCapability place value s → RefusedCapability place value t → s ≡ t
one_capability_told place value s t a b =
    let one = one_capabilities a.good b.good a.bad b.bad (inr (a.some, a.runs_past)) (inr (b.some, b.runs_past)) (sym a.split ∙ b.split) in
    let goods : a.good ≡ b.good = one.0 in
    a.told ∙ ap (λ (cs : List Capability). record { code = 2; subcode = 0; place = place + length (flat_map capability_bytes cs); info = [] }) goods ∙ sym b.told

one_parameter_told : (place : ℕ) (bytes : List ℕ) (s t : Told) → RefusedParameter place bytes s → RefusedParameter place bytes t → s ≡ t
one_parameter_told place bytes s t (inl a) (inl b) = a.told ∙ sym b.told
one_parameter_told place bytes s t (inl a) (inr (inl b)) = absurd (whole_not_past b.kind b.value b.more bytes b.whole a.runs_past)
one_parameter_told place bytes s t (inl a) (inr (inr b)) = absurd (whole_not_past 2 b.value b.more bytes b.whole a.runs_past)
one_parameter_told place bytes s t (inr (inl a)) (inl b) = absurd (whole_not_past a.kind a.value a.more bytes a.whole b.runs_past)
one_parameter_told place bytes s t (inr (inr a)) (inl b) = absurd (whole_not_past 2 a.value a.more bytes a.whole b.runs_past)
one_parameter_told place bytes s t (inr (inl a)) (inr (inl b)) = a.told ∙ sym b.told
one_parameter_told place bytes s t (inr (inl a)) (inr (inr b)) =
    let one = same_item a.kind 2 a.value b.value a.more b.more bytes a.whole b.whole in absurd (a.other one.code_is)
one_parameter_told place bytes s t (inr (inr a)) (inr (inl b)) =
    let one = same_item b.kind 2 b.value a.value b.more a.more bytes b.whole a.whole in absurd (b.other one.code_is)
one_parameter_told place bytes s t (inr (inr a)) (inr (inr b)) =
    let one = same_item 2 2 a.value b.value a.more b.more bytes a.whole b.whole in
    one_capability_told (place + 2) b.value s t (subst (λ (v : List ℕ). RefusedCapability (place + 2) v s) one.value_is a.capability) b.capability

one_parameters_told : (place : ℕ) (bytes : List ℕ) (s t : Told) → RefusedParameters place bytes s → RefusedParameters place bytes t → s ≡ t
one_parameters_told place bytes s t a b =
    let one = one_parameters a.good b.good a.bad b.bad (inr (place + length (parameters_bytes a.good), s, a.first)) (inr (place + length (parameters_bytes b.good), t, b.first)) (sym a.split ∙ b.split) in
    let goods : a.good ≡ b.good = one.0 in
    let bads : a.bad ≡ b.bad = one.1 in
    let first : RefusedParameter (place + length (parameters_bytes b.good)) b.bad s =
    subst (λ (r : List ℕ). RefusedParameter (place + length (parameters_bytes b.good)) r s) bads
    (subst (λ (ps : List Param). RefusedParameter (place + length (parameters_bytes ps)) a.bad s) goods a.first) in
    one_parameter_told (place + length (parameters_bytes b.good)) b.bad s t first b.first

-- ---- an OPEN's content

abbrev BehindVersion : List ℕ → Told → Type 0
BehindVersion bytes t = RefusedHold bytes t ⊎ (RefusedIdentifier bytes t ⊎ (RefusedSize bytes t ⊎ RefusedList bytes t))

abbrev BehindHold : List ℕ → Told → Type 0
BehindHold bytes t = RefusedIdentifier bytes t ⊎ (RefusedSize bytes t ⊎ RefusedList bytes t)

abbrev BehindIdentifier : List ℕ → Told → Type 0
BehindIdentifier bytes t = RefusedSize bytes t ⊎ RefusedList bytes t

version_passed : (bytes : List ℕ) (t : Told) → BehindVersion bytes t → get_or bytes 0 0 ≡ 4
version_passed bytes t (inl row) = row.version
version_passed bytes t (inr (inl row)) = row.version
version_passed bytes t (inr (inr (inl row))) = row.before.version
version_passed bytes t (inr (inr (inr row))) = row.before.version

hold_passed : (bytes : List ℕ) (t : Told) → BehindHold bytes t → ¬ BadHold (hold_in bytes)
hold_passed bytes t (inl row) = row.hold
hold_passed bytes t (inr (inl row)) = row.before.hold
hold_passed bytes t (inr (inr row)) = row.before.hold

identifier_passed : (bytes : List ℕ) (t : Told) → BehindIdentifier bytes t → ¬ NoIdentifier bytes
identifier_passed bytes t (inl row) = row.before.id
identifier_passed bytes t (inr row) = row.before.id

one_behind_identifier : (bytes : List ℕ) (s t : Told) → BehindIdentifier bytes s → BehindIdentifier bytes t → s ≡ t
one_behind_identifier bytes s t (inl a) (inl b) = a.told ∙ sym b.told
one_behind_identifier bytes s t (inl a) (inr b) = absurd (a.size b.size)
one_behind_identifier bytes s t (inr a) (inl b) = absurd (b.size a.size)
one_behind_identifier bytes s t (inr a) (inr b) = one_parameters_told 29 (drop 10 bytes) s t a.parameters b.parameters

one_behind_hold : (bytes : List ℕ) (s t : Told) → BehindHold bytes s → BehindHold bytes t → s ≡ t
one_behind_hold bytes s t (inl a) (inl b) = a.told ∙ sym b.told
one_behind_hold bytes s t (inl a) (inr b) = absurd (identifier_passed bytes t b a.id)
one_behind_hold bytes s t (inr a) (inl b) = absurd (identifier_passed bytes s a b.id)
one_behind_hold bytes s t (inr a) (inr b) = one_behind_identifier bytes s t a b

one_behind_version : (bytes : List ℕ) (s t : Told) → BehindVersion bytes s → BehindVersion bytes t → s ≡ t
one_behind_version bytes s t (inl a) (inl b) = a.told ∙ sym b.told
one_behind_version bytes s t (inl a) (inr b) = absurd (hold_passed bytes t b a.hold)
one_behind_version bytes s t (inr a) (inl b) = absurd (hold_passed bytes s a b.hold)
one_behind_version bytes s t (inr a) (inr b) = one_behind_hold bytes s t a b

pub one_content_told : (bytes : List ℕ) (s t : Told) → RefusedContent bytes s → RefusedContent bytes t → s ≡ t
one_content_told bytes s t (inl a) (inl b) = a.told ∙ sym b.told
one_content_told bytes s t (inl a) (inr b) = absurd (a.version (version_passed bytes t b))
one_content_told bytes s t (inr a) (inl b) = absurd (b.version (version_passed bytes s a))
one_content_told bytes s t (inr a) (inr b) = one_behind_version bytes s t a b

-- the content of an OPEN that fits is not refused
pub good_content : (o : Open) (t : Told) → OpenFits o → RefusedContent (open_bytes o) t → ⊥
good_content o t fits (inl row) = row.version refl
good_content o t fits (inr (inl row)) =
    let hold : hold_in (open_bytes o) ≡ o.hold = omega arith in
    elim row.hold [ inl one ↦ fits.not_one (sym hold ∙ one) | inr other ↦ fits.not_two (sym hold ∙ other) ]
good_content o t fits (inr (inr (inl row))) =
    omega (arith, row.id.first, row.id.second, row.id.third, row.id.fourth, fits.some_id, fits.id)
good_content o t fits (inr (inr (inr (inl row)))) = row.size refl
good_content o t fits (inr (inr (inr (inr row)))) = good_parameters 29 o.params t row.parameters
