-- One attribute more: the bytes so far, what fits, and where one is refused.
use Rattle.std.proofs.Common.{◌≡◌, ℕ, ◌+◌, ◌-◌, ◌/◌, ◌%◌, if◌then◌else◌, ◌==◌, ◌<◌, ◌≤◌, Bool, true, false, cond, List, [], ◌∷◌, ◌++◌, length, refl, sym, ap, subst, ◌∙◌, append_assoc, inl, inr, arith}
use Rattle.std.specs.List.{flat_map, AllByRecursion}
use Rattle.std.proofs.lemmas.List.{length-append, append-nil}
use Rattle.std.proofs.lemmas.Grind.{flat_map-append}
use Rattle.std.proofs.lemmas.Bool.{eqb-true}
use Rattle.std.proofs.lemmas.List.Sums.{sum_by-append}
use Rattle.bgp_update.specs.declared.attributes.Attribute.{Attribute}
use Rattle.bgp_update.specs.declared.faults.UpdateFault.{UpdateFault}
use Rattle.bgp_update.specs.declared.faults.UpdateFault.TheVariants as faults
use Rattle.bgp_update.specs.Faults.{Tells}
use Rattle.wire_base.specs.Numbers.{two}
use Rattle.bgp_update.specs.Attributes.{body_bytes, size_bytes, size_limit, attribute_bytes, attributes_bytes, AttributeFits}
use Rattle.bgp_update.specs.Updates.{count_of, AttributesFit}
use Rattle.bgp_update.specs.Refusals.{header_size, Splits, Repeats, RefusedValue, RefusedAttributes}
use Rattle.bgp_update.specs.Steps.{ReadsBody}
use Rattle.bgp_update.proofs.CellLemmas.{Small, small_behind}

-- what holds of each of some and of one more
pub all_with : {X : Type 0} (P : X → Type 0) (xs : List X) (x : X) → AllByRecursion P xs → P x → AllByRecursion P (xs ++ x ∷ [])
all_with P [] x each one = (one, tt)
all_with P (y ∷ xs) x each one = (each.0, all_with P xs x each.1 one)

at_most_one : (found : Bool) (n : ℕ) → (found ≡ true → ¬ 0 < n) → n ≤ 1 → n + (0 + cond found 1 0) ≤ 1
at_most_one true n once most = omega (arith, once refl)
at_most_one false n once most = omega (arith, most)

count_with : (kind : ℕ) (before : List Attribute) (a : Attribute) → (a.kind ≡ kind → ¬ 0 < count_of kind before) → count_of kind before ≤ 1 → count_of kind (before ++ a ∷ []) ≤ 1
count_with kind before a once most =
    let both : count_of kind (before ++ a ∷ []) ≡ count_of kind before + (0 + cond (a.kind == kind) 1 0) = sum_by-append (λ (x : Attribute). cond (x.kind == kind) 1 0) before (a ∷ []) in
    let least : count_of kind before + (0 + cond (a.kind == kind) 1 0) ≤ 1 = at_most_one (a.kind == kind) (count_of kind before) (λ same. once (eqb-true a.kind kind same)) most in
    rw both least

pub one_more : (before : List Attribute) (a : Attribute) → AttributesFit before → AttributeFits a → ¬ Repeats a.kind before → AttributesFit (before ++ a ∷ [])
one_more before a fit fits first = record {
  each = all_with AttributeFits before a fit.each fits;
  one_reach = count_with 14 before a (λ e again. first (record { reachability = inl e; again = subst (λ (k : ℕ). 0 < count_of k before) (sym e) again })) fit.one_reach;
  one_unreach = count_with 15 before a (λ e again. first (record { reachability = inr e; again = subst (λ (k : ℕ). 0 < count_of k before) (sym e) again })) fit.one_unreach;
}

-- the bytes of what is before, of one more, and of what follows
pub spelled_with : {X : Type 0} (f : X → List ℕ) (before : List X) (x : X) (more : List ℕ) → flat_map f before ++ (f x ++ more) ≡ flat_map f (before ++ x ∷ []) ++ more
spelled_with f before x more =
    sym (append_assoc (flat_map f before) (f x) more)
    ∙ ap (λ (l : List ℕ). l ++ more) (ap (λ (l : List ℕ). flat_map f before ++ l) (sym (append-nil (f x))) ∙ sym (flat_map-append f before (x ∷ [])))

-- an attribute is what was cut off, where its body was read
pub cut_is : (a : Attribute) (bytes value more : List ℕ) → Splits bytes a.flags a.kind value more → value ≡ body_bytes a.body → bytes ≡ attribute_bytes a ++ more
cut_is a bytes value more s is =
    subst (λ (v : List ℕ). bytes ≡ a.flags ∷ a.kind ∷ size_bytes a.flags (length v) ++ v ++ more) is s.parts

header_length : (long : Bool) (n : ℕ) → 2 + length (if long then two n else n ∷ []) ≡ if long then 4 else 3
header_length true n = refl
header_length false n = refl

-- a value ends no later than the bytes do
pub value_ends : (bytes : List ℕ) (flags kind : ℕ) (value more : List ℕ) → Splits bytes flags kind value more → header_size flags + length value ≤ length bytes
value_ends bytes flags kind value more s =
    omega (arith, ap length s.parts, length-append (size_bytes flags (length value) ++ value) more, length-append (size_bytes flags (length value)) value, header_length ((flags / 16) % 2 == 1) (length value))

-- the attribute that was cut off fits, and stands behind those before
pub step : (bytes : List ℕ) (before : List Attribute) (rest : List ℕ) (a : Attribute) (value more : List ℕ) → Small bytes → bytes ≡ attributes_bytes before ++ rest
    → AttributesFit before → Splits rest a.flags a.kind value more → ¬ Repeats a.kind before → ReadsBody a.flags a.kind value a.body
    → (bytes ≡ attributes_bytes (before ++ a ∷ []) ++ more) × AttributesFit (before ++ a ∷ [])
step bytes before rest a value more small split fit cut first reads =
    let within : Small rest = small_behind (attributes_bytes before) rest (subst Small split small) in
    let cells : Small (a.flags ∷ a.kind ∷ size_bytes a.flags (length value) ++ value ++ more) = subst Small cut.parts within in
    let fits : AttributeFits a = record {
      flags = cells 0;
      kind = cells 1;
      body = reads.fits;
      size = subst (λ (v : List ℕ). length v < size_limit a.flags) reads.spelled cut.size;
    } in
    (split ∙ ap (λ (l : List ℕ). attributes_bytes before ++ l) (cut_is a rest value more cut reads.spelled) ∙ spelled_with attribute_bytes before a more, one_more before a fit fits first)

pub refused_one : (start : ℕ) (bytes : List ℕ) (before : List Attribute) (bad : List ℕ) (flags kind : ℕ) (value more : List ℕ) (fault : UpdateFault)
    → bytes ≡ attributes_bytes before ++ bad → AttributesFit before → Splits bad flags kind value more → ¬ Repeats kind before
    → Tells (λ place. RefusedValue (start + (length bytes - length bad)) (header_size flags) kind value place) fault
    → Tells (λ place. RefusedAttributes start bytes place) fault
refused_one start bytes before bad flags kind value more (faults.Session code subcode told) split fit whole first row =
    let place : start + (length bytes - length bad) ≡ start + length (attributes_bytes before) = omega (arith, ap length split, length-append (attributes_bytes before) bad) in (
      row.0,
      row.1,
      record {
        good = before;
        fit = fit;
        bad = bad;
        split = split;
        some = omega (arith, ap length whole.parts);
        first = inr (record { flags = flags; kind = kind; value = value; more = more; whole = whole; row = inr (first, subst (λ (at : ℕ). RefusedValue at (header_size flags) kind value told) place row.2) });
      },
    )
refused_one start bytes before bad flags kind value more faults.OutOfMemory split fit whole first row = tt
