-- Two readings of one content are one: an update, or one refusal of it.
use Rattle.std.proofs.Common.{◌≡◌, ℕ, ◌+◌, ◌/◌, ◌%◌, ◌==◌, ◌<◌, ◌≤◌, Bool, true, false, cond, if◌then◌else◌, List, [], ◌∷◌, ◌++◌, length, get_or, drop, refl, sym, ap, subst, ◌∙◌, append_assoc, inl, inr, ◌⊎◌, arith}
use Rattle.std.specs.List.{AllByRecursion}
use Rattle.std.proofs.lemmas.List.{append-nil, length-append}
use Rattle.std.proofs.lemmas.Bool.{eq-eqb}
use Rattle.std.proofs.lemmas.List.Sums.{sum_by-append}
use Rattle.bgp_update.specs.declared.attributes.Attribute.{Attribute}
use Rattle.bgp_update.specs.declared.attributes.Body.{Body}
use Rattle.bgp_update.specs.declared.updates.Update.{Update}
use Rattle.wire_base.specs.Numbers.{two}
use Rattle.bgp_update.specs.Attributes.{body_bytes, BodyFits, size_bytes, size_limit, attribute_bytes, attributes_bytes, AttributeFits}
use Rattle.bgp_update.specs.Updates.{count_of, AttributesFit, IsUpdate}
use Rattle.bgp_update.specs.Refusals.{number_at, header_size, RunsPast, Splits, Repeats, RefusedValue, RefusedAttribute, RefusedAttributes, Opens, OpensNot, RefusedSize, RefusedOne, Refused}
use Rattle.wire_base.proofs.SplitLemmas.{same_parts}
use Rattle.bgp_update.proofs.BehindLemmas.{AllBehind, ReadsBehind, one_split_behind}
use Rattle.bgp_update.proofs.BodyReadings.{one_body, good_body, one_value_told}

-- ---- an attribute

abbrev sized : Bool → ℕ → List ℕ
sized long size = if long then two size else size ∷ []

same_sized : (long : Bool) (v w m n : List ℕ) → length v < (if long then 65536 else 256) → length w < (if long then 65536 else 256)
    → sized long (length v) ++ v ++ m ≡ sized long (length w) ++ w ++ n → (v ≡ w) × (m ≡ n)
same_sized true v w m n fv fw e =
    let high : length v / 256 ≡ length w / 256 = ap (λ (b : List ℕ). get_or b 0 0) e in
    let low : length v % 256 ≡ length w % 256 = ap (λ (b : List ℕ). get_or b 1 0) e in
    let tails : v ++ m ≡ w ++ n = ap (λ (b : List ℕ). drop 2 b) e in
    same_parts v w m n (omega (arith, high, low)) tails
same_sized false v w m n fv fw e =
    let size : length v ≡ length w = ap (λ (b : List ℕ). get_or b 0 0) e in
    let tails : v ++ m ≡ w ++ n = ap (λ (b : List ℕ). drop 1 b) e in
    same_parts v w m n size tails

pub record SameCut (flags flags' kind kind' : ℕ) (value value' more more' : List ℕ) : Type 0 where
  pub flags_is : flags ≡ flags'
  pub kind_is : kind ≡ kind'
  pub value_is : value ≡ value'
  pub more_is : more ≡ more'

same_cut : (bytes : List ℕ) (flags flags' kind kind' : ℕ) (value value' more more' : List ℕ) → Splits bytes flags kind value more → Splits bytes flags' kind' value' more'
    → SameCut flags flags' kind kind' value value' more more'
same_cut bytes flags flags' kind kind' value value' more more' a b =
    let joined = sym a.parts ∙ b.parts in
    let flags_is : flags ≡ flags' = ap (λ (l : List ℕ). get_or l 0 0) joined in
    let kind_is : kind ≡ kind' = ap (λ (l : List ℕ). get_or l 1 0) joined in
    let tails : size_bytes flags (length value) ++ value ++ more ≡ size_bytes flags' (length value') ++ value' ++ more' = ap (λ (l : List ℕ). drop 2 l) joined in
    let tails' : size_bytes flags (length value) ++ value ++ more ≡ size_bytes flags (length value') ++ value' ++ more' =
    subst (λ (f : ℕ). size_bytes flags (length value) ++ value ++ more ≡ size_bytes f (length value') ++ value' ++ more') (sym flags_is) tails in
    let room : length value' < size_limit flags = subst (λ (f : ℕ). length value' < size_limit f) (sym flags_is) b.size in
    let parts = same_sized ((flags / 16) % 2 == 1) value value' more more' a.size room tails' in
    record { flags_is = flags_is; kind_is = kind_is; value_is = parts.0; more_is = parts.1 }

-- an attribute, before what follows, is what is cut off
cut_of : (a : Attribute) (more : List ℕ) → AttributeFits a → Splits (attribute_bytes a ++ more) a.flags a.kind (body_bytes a.body) more
cut_of a more f = record { parts = refl; size = f.size }

past_no : (long : Bool) (flags kind : ℕ) (v m : List ℕ) → length v < (if long then 65536 else 256)
    → (length (flags ∷ kind ∷ sized long (length v) ++ v ++ m) < (if long then 4 else 3))
    ⊎ (length (flags ∷ kind ∷ sized long (length v) ++ v ++ m)
    < (if long then 4 else 3) + (if long then number_at 2 (flags ∷ kind ∷ sized long (length v) ++ v ++ m) else get_or (flags ∷ kind ∷ sized long (length v) ++ v ++ m) 2 0))
    → ⊥
past_no true flags kind v m f (inl short) = omega (arith, short)
past_no true flags kind v m f (inr short) = omega (arith, short, length-append v m)
past_no false flags kind v m f (inl short) = omega (arith, short)
past_no false flags kind v m f (inr short) = omega (arith, short, length-append v m)

whole_not_past : (bytes : List ℕ) (flags kind : ℕ) (value more : List ℕ) → Splits bytes flags kind value more → RunsPast bytes → ⊥
whole_not_past bytes flags kind value more s past = past_no ((flags / 16) % 2 == 1) flags kind value more s.size (subst RunsPast s.parts past)

-- what is cut off the front of an attribute's bytes and what follows is the attribute
pub first_cut : (a : Attribute) (after : List ℕ) (flags kind : ℕ) (value more : List ℕ) → AttributeFits a → Splits (attribute_bytes a ++ after) flags kind value more
    → SameCut flags a.flags kind a.kind value (body_bytes a.body) more after
first_cut a after flags kind value more f cut = same_cut (attribute_bytes a ++ after) flags a.flags kind a.kind value (body_bytes a.body) more after cut (cut_of a after f)

-- and it does not run past the end
pub first_whole : (a : Attribute) (after : List ℕ) → AttributeFits a → RunsPast (attribute_bytes a ++ after) → ⊥
first_whole a after f = whole_not_past (attribute_bytes a ++ after) a.flags a.kind (body_bytes a.body) after (cut_of a after f)

-- an attribute that fits behind those before
record Fits (before : List Attribute) (a : Attribute) : Type 0 where
  alone : AttributeFits a
  first : ¬ Repeats a.kind before

-- no further attribute, or one that is refused
abbrev End : List Attribute → List ℕ → Type 0
End before bytes = (bytes ≡ []) ⊎ ((start : ℕ) × (place : ℕ) × RefusedAttribute start before bytes place)

good_attribute : (start : ℕ) (before : List Attribute) (a : Attribute) (more : List ℕ) (place : ℕ) → Fits before a → RefusedAttribute start before (attribute_bytes a ++ more) place → ⊥
good_attribute start before a more place f (inl past) =
    whole_not_past (attribute_bytes a ++ more) a.flags a.kind (body_bytes a.body) more (cut_of a more f.alone) past.0
good_attribute start before a more place f (inr row) =
    let one = same_cut (attribute_bytes a ++ more) row.flags a.flags row.kind a.kind row.value (body_bytes a.body) row.more more row.whole (cut_of a more f.alone) in
    elim row.row [
      | inl again ↦ f.first (subst (λ (k : ℕ). Repeats k before) one.kind_is again.0)
      | inr refused ↦ good_body start (header_size row.flags) a.flags a.kind a.body place f.alone.body
          (subst (λ (v : List ℕ). RefusedValue start (header_size row.flags) a.kind v place) one.value_is
          (subst (λ (k : ℕ). RefusedValue start (header_size row.flags) k row.value place) one.kind_is refused.1))
    ]

same_attribute : (before : List Attribute) (a b : Attribute) (r s : List ℕ) → Fits before a → Fits before b → attribute_bytes a ++ r ≡ attribute_bytes b ++ s → (a ≡ b) × (r ≡ s)
same_attribute before a b r s fa fb e =
    let one = same_cut (attribute_bytes a ++ r) a.flags b.flags a.kind b.kind (body_bytes a.body) (body_bytes b.body) r s (cut_of a r fa.alone)
    (subst (λ (l : List ℕ). Splits l b.flags b.kind (body_bytes b.body) s) (sym e) (cut_of b s fb.alone)) in
    let flags_is : a.flags ≡ b.flags = one.flags_is in
    let kind_is : a.kind ≡ b.kind = one.kind_is in
    let fits : BodyFits a.flags a.kind b.body = subst (λ (k : ℕ). BodyFits a.flags k b.body) (sym kind_is) (subst (λ (f : ℕ). BodyFits f b.kind b.body) (sym flags_is) fb.alone.body) in
    let body_is : a.body ≡ b.body = one_body a.flags a.kind a.body b.body fa.alone.body fits one.value_is in
    let made : (f k : ℕ) (y : Body) → Attribute = λ f k y. record { flags = f; kind = k; body = y } in
    let whole : made a.flags a.kind a.body ≡ made b.flags b.kind b.body = cc in
    (whole, one.more_is)

attribute_ended : (before : List Attribute) (a : Attribute) (r : List ℕ) → Fits before a → End before (attribute_bytes a ++ r) → ⊥
attribute_ended before a r f (inl e) = cc
attribute_ended before a r f (inr row) = good_attribute row.0 before a r row.1 f row.2

attributes_read : ReadsBehind attribute_bytes Fits End
attributes_read = record { same = same_attribute; ended = attribute_ended }

-- ---- a list of attributes

counted : (kind : ℕ) (before : List Attribute) (a : Attribute) (more : List Attribute) → a.kind ≡ kind → count_of kind before + 1 ≤ count_of kind (before ++ a ∷ more)
counted kind before a more e =
    let test : Attribute → ℕ = λ x. cond (x.kind == kind) 1 0 in
    let all = sum_by-append test before (a ∷ more) in
    let tail = sum_by-append test (a ∷ []) more in
    let one : ◌≡◌ {A = ℕ} (cond (a.kind == kind) 1 0) 1 = rw (eq-eqb a.kind kind e) refl in
    omega (arith, all, tail, one)

all_behind : (before list : List Attribute) → AttributesFit (before ++ list) → AllByRecursion AttributeFits list → AllBehind Fits before list
all_behind before [] fit each = tt
all_behind before (a ∷ list) fit each =
    let first : ¬ Repeats a.kind before = λ again. elim again.reachability [
      | inl one ↦ omega (arith, fit.one_reach, counted 14 before a list one, subst (λ (k : ℕ). 0 < count_of k before) one again.again)
      | inr one ↦ omega (arith, fit.one_unreach, counted 15 before a list one, subst (λ (k : ℕ). 0 < count_of k before) one again.again)
    ] in
    (record { alone = each.0; first = first }, all_behind (before ++ a ∷ []) list (subst AttributesFit (sym (append_assoc before (a ∷ []) list)) fit) each.1)

one_attributes : (xs ys : List Attribute) (r s : List ℕ) → AttributesFit xs → AttributesFit ys → End xs r → End ys s → attributes_bytes xs ++ r ≡ attributes_bytes ys ++ s → (xs ≡ ys) × (r ≡ s)
one_attributes xs ys r s fx fy er es e =
    one_split_behind attribute_bytes Fits End attributes_read [] xs ys r s (all_behind [] xs fx fx.each) (all_behind [] ys fy fy.each) er es e

one_attributes_whole : (xs ys : List Attribute) → AttributesFit xs → AttributesFit ys → attributes_bytes xs ≡ attributes_bytes ys → xs ≡ ys
one_attributes_whole xs ys fx fy e =
    let one = one_attributes xs ys [] [] fx fy (inl refl) (inl refl) (append-nil (attributes_bytes xs) ∙ e ∙ sym (append-nil (attributes_bytes ys))) in
    one.0

good_attributes : (start : ℕ) (xs : List Attribute) (place : ℕ) → AttributesFit xs → RefusedAttributes start (attributes_bytes xs) place → ⊥
good_attributes start xs place fit row =
    let one = one_attributes xs row.good [] row.bad fit row.fit (inl refl) (inr (start + length (attributes_bytes row.good), place, row.first)) (append-nil (attributes_bytes xs) ∙ row.split) in
    omega (arith, ap length one.1, row.some)

abbrev Row : ℕ → List Attribute → ℕ → ℕ → List ℕ → ℕ → Type 0
Row start before flags kind value place = (Repeats kind before × (place ≡ start)) ⊎ ((¬ Repeats kind before) × RefusedValue start (header_size flags) kind value place)

one_row : (start : ℕ) (before : List Attribute) (flags kind : ℕ) (value : List ℕ) (p q : ℕ) → Row start before flags kind value p → Row start before flags kind value q → p ≡ q
one_row start before flags kind value p q (inl x) (inl y) = x.1 ∙ sym y.1
one_row start before flags kind value p q (inl x) (inr y) = absurd (y.0 x.0)
one_row start before flags kind value p q (inr x) (inl y) = absurd (x.0 y.0)
one_row start before flags kind value p q (inr x) (inr y) = one_value_told start (header_size flags) kind value p q x.1 y.1

one_attribute_told : (start : ℕ) (before : List Attribute) (bytes : List ℕ) (p q : ℕ) → RefusedAttribute start before bytes p → RefusedAttribute start before bytes q → p ≡ q
one_attribute_told start before bytes p q (inl a) (inl b) = a.1 ∙ sym b.1
one_attribute_told start before bytes p q (inl a) (inr b) = absurd (whole_not_past bytes b.flags b.kind b.value b.more b.whole a.0)
one_attribute_told start before bytes p q (inr a) (inl b) = absurd (whole_not_past bytes a.flags a.kind a.value a.more a.whole b.0)
one_attribute_told start before bytes p q (inr a) (inr b) =
    let one = same_cut bytes a.flags b.flags a.kind b.kind a.value b.value a.more b.more a.whole b.whole in
    one_row start before b.flags b.kind b.value p q
    (subst (λ (f : ℕ). Row start before f b.kind b.value p) one.flags_is
    (subst (λ (k : ℕ). Row start before a.flags k b.value p) one.kind_is
    (subst (λ (v : List ℕ). Row start before a.flags a.kind v p) one.value_is a.row)))
    b.row

one_attributes_told : (start : ℕ) (bytes : List ℕ) (p q : ℕ) → RefusedAttributes start bytes p → RefusedAttributes start bytes q → p ≡ q
one_attributes_told start bytes p q a b =
    let one = one_attributes a.good b.good a.bad b.bad a.fit b.fit (inr (start + length (attributes_bytes a.good), p, a.first)) (inr (start + length (attributes_bytes b.good), q, b.first)) (sym a.split ∙ b.split) in
    one_attribute_told (start + length (attributes_bytes b.good)) b.good b.bad p q
    (subst (λ (l : List ℕ). RefusedAttribute (start + length (attributes_bytes b.good)) b.good l p) one.1
    (subst (λ (l : List Attribute). RefusedAttribute (start + length (attributes_bytes l)) l a.bad p) one.0 a.first))
    b.first

-- ---- the content

record SameOpening (withdrawn withdrawn' : List ℕ) (size size' : ℕ) (more more' : List ℕ) : Type 0 where
  withdrawn_is : withdrawn ≡ withdrawn'
  size_is : size ≡ size'
  more_is : more ≡ more'

same_opening : (bytes withdrawn withdrawn' : List ℕ) (size size' : ℕ) (more more' : List ℕ) → Opens bytes withdrawn size more → Opens bytes withdrawn' size' more'
    → SameOpening withdrawn withdrawn' size size' more more'
same_opening bytes withdrawn withdrawn' size size' more more' a b =
    let joined = sym a.parts ∙ b.parts in
    let high : length withdrawn / 256 ≡ length withdrawn' / 256 = ap (λ (l : List ℕ). get_or l 0 0) joined in
    let low : length withdrawn % 256 ≡ length withdrawn' % 256 = ap (λ (l : List ℕ). get_or l 1 0) joined in
    let tails : (withdrawn ++ two size) ++ more ≡ (withdrawn' ++ two size') ++ more' = ap (λ (l : List ℕ). drop 2 l) joined in
    let behind : withdrawn ++ (two size ++ more) ≡ withdrawn' ++ (two size' ++ more') = sym (append_assoc withdrawn (two size) more) ∙ tails ∙ append_assoc withdrawn' (two size') more' in
    let parts = same_parts withdrawn withdrawn' (two size ++ more) (two size' ++ more') (omega (arith, high, low)) behind in
    let size_high : size / 256 ≡ size' / 256 = ap (λ (l : List ℕ). get_or l 0 0) parts.1 in
    let size_low : size % 256 ≡ size' % 256 = ap (λ (l : List ℕ). get_or l 1 0) parts.1 in
    let mores : more ≡ more' = ap (λ (l : List ℕ). drop 2 l) parts.1 in
    record { withdrawn_is = parts.0; size_is = omega (arith, size_high, size_low); more_is = mores }

not_opens_not : (bytes withdrawn : List ℕ) (size : ℕ) (more : List ℕ) → Opens bytes withdrawn size more → OpensNot bytes → ⊥
not_opens_not bytes withdrawn size more o (inl short) =
    omega (arith, ap length o.parts, length-append (withdrawn ++ two size) more, length-append withdrawn (two size), short)
not_opens_not bytes withdrawn size more o (inr short) =
    let high : get_or bytes 0 0 ≡ length withdrawn / 256 = ap (λ (l : List ℕ). get_or l 0 0) o.parts in
    let low : get_or bytes 1 0 ≡ length withdrawn % 256 = ap (λ (l : List ℕ). get_or l 1 0) o.parts in
    omega (arith, ap length o.parts, length-append (withdrawn ++ two size) more, length-append withdrawn (two size), short, high, low)

-- how an update opens
opening_of : (bytes : List ℕ) (u : Update) → IsUpdate bytes u → Opens bytes u.withdrawn (length (attributes_bytes u.attributes)) (attributes_bytes u.attributes ++ u.nlri)
opening_of bytes u is = record {
  parts = is.spelled ∙ append_assoc (two (length u.withdrawn) ++ u.withdrawn ++ two (length (attributes_bytes u.attributes))) (attributes_bytes u.attributes) u.nlri;
  withdrawn_fits = is.fits.withdrawn;
  size_fits = is.fits.size;
}

pub one_update : (bytes : List ℕ) (u v : Update) → IsUpdate bytes u → IsUpdate bytes v → u ≡ v
one_update bytes u v a b =
    let one = same_opening bytes u.withdrawn v.withdrawn (length (attributes_bytes u.attributes)) (length (attributes_bytes v.attributes)) (attributes_bytes u.attributes ++ u.nlri) (attributes_bytes v.attributes ++ v.nlri) (opening_of bytes u a) (opening_of bytes v b) in
    let parts = same_parts (attributes_bytes u.attributes) (attributes_bytes v.attributes) u.nlri v.nlri one.size_is one.more_is in
    let withdrawn_is : u.withdrawn ≡ v.withdrawn = one.withdrawn_is in
    let attributes_is : u.attributes ≡ v.attributes = one_attributes_whole u.attributes v.attributes a.fits.attributes b.fits.attributes parts.0 in
    let nlri_is : u.nlri ≡ v.nlri = parts.1 in
    let made : (w : List ℕ) (l : List Attribute) (n : List ℕ) → Update = λ w l n. record { withdrawn = w; attributes = l; nlri = n } in
    let whole : made u.withdrawn u.attributes u.nlri ≡ made v.withdrawn v.attributes v.nlri = cc in
    whole

pub never_both : (bytes : List ℕ) (u : Update) (place : ℕ) → IsUpdate bytes u → Refused bytes place → ⊥
never_both bytes u place is (inl row) =
    not_opens_not bytes u.withdrawn (length (attributes_bytes u.attributes)) (attributes_bytes u.attributes ++ u.nlri) (opening_of bytes u is) row.0
never_both bytes u place is (inr (inl row)) =
    let one = same_opening bytes u.withdrawn row.withdrawn (length (attributes_bytes u.attributes)) row.size (attributes_bytes u.attributes ++ u.nlri) row.more (opening_of bytes u is) row.opens in
    omega (arith, row.runs_past, one.size_is, ap length one.more_is, length-append (attributes_bytes u.attributes) u.nlri)
never_both bytes u place is (inr (inr row)) =
    let one = same_opening bytes row.withdrawn u.withdrawn (length row.attributes) (length (attributes_bytes u.attributes)) (row.attributes ++ row.nlri) (attributes_bytes u.attributes ++ u.nlri) row.opens (opening_of bytes u is) in
    let parts = same_parts row.attributes (attributes_bytes u.attributes) row.nlri u.nlri one.size_is one.more_is in
    good_attributes (4 + length row.withdrawn) u.attributes place is.fits.attributes (subst (λ (l : List ℕ). RefusedAttributes (4 + length row.withdrawn) l place) parts.0 row.one)

not_both_sizes : (bytes : List ℕ) (p q : ℕ) → RefusedSize bytes p → RefusedOne bytes q → ⊥
not_both_sizes bytes p q a b =
    let one = same_opening bytes a.withdrawn b.withdrawn a.size (length b.attributes) a.more (b.attributes ++ b.nlri) a.opens b.opens in
    omega (arith, a.runs_past, one.size_is, ap length one.more_is, length-append b.attributes b.nlri)

pub one_refusal : (bytes : List ℕ) (p q : ℕ) → Refused bytes p → Refused bytes q → p ≡ q
one_refusal bytes p q (inl a) (inl b) = a.1 ∙ sym b.1
one_refusal bytes p q (inl a) (inr (inl b)) = absurd (not_opens_not bytes b.withdrawn b.size b.more b.opens a.0)
one_refusal bytes p q (inl a) (inr (inr b)) = absurd (not_opens_not bytes b.withdrawn (length b.attributes) (b.attributes ++ b.nlri) b.opens a.0)
one_refusal bytes p q (inr (inl a)) (inl b) = absurd (not_opens_not bytes a.withdrawn a.size a.more a.opens b.0)
one_refusal bytes p q (inr (inr a)) (inl b) = absurd (not_opens_not bytes a.withdrawn (length a.attributes) (a.attributes ++ a.nlri) a.opens b.0)
one_refusal bytes p q (inr (inl a)) (inr (inl b)) =
    let one = same_opening bytes a.withdrawn b.withdrawn a.size b.size a.more b.more a.opens b.opens in
    a.told ∙ ap (λ (w : List ℕ). 2 + length w) one.withdrawn_is ∙ sym b.told
one_refusal bytes p q (inr (inl a)) (inr (inr b)) = absurd (not_both_sizes bytes p q a b)
one_refusal bytes p q (inr (inr a)) (inr (inl b)) = absurd (not_both_sizes bytes q p b a)
one_refusal bytes p q (inr (inr a)) (inr (inr b)) =
    let one = same_opening bytes a.withdrawn b.withdrawn (length a.attributes) (length b.attributes) (a.attributes ++ a.nlri) (b.attributes ++ b.nlri) a.opens b.opens in
    let parts = same_parts a.attributes b.attributes a.nlri b.nlri one.size_is one.more_is in
    one_attributes_told (4 + length b.withdrawn) b.attributes p q
    (subst (λ (l : List ℕ). RefusedAttributes (4 + length b.withdrawn) l p) parts.0
    (subst (λ (w : List ℕ). RefusedAttributes (4 + length w) a.attributes p) one.withdrawn_is a.one))
    b.one
