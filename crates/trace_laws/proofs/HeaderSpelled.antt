-- Headers that have a spelling, and what a turn leaves of them.
use Rattle.std.proofs.Common.{◌≡◌, ℕ, ◌+◌, ◌-◌, ◌*◌, ◌/◌, ◌%◌, ◌^◌, ◌<◌, ◌≤◌, Bool, true, false, cond, List, [], ◌∷◌, ◌++◌, ap, arith, inl, inr, get_or, length, length-append, refl, replicate, subst, sym, ◌∙◌}
use Rattle.std.proofs.lemmas.Bool.{cases_eq, cases_lt}
use Rattle.std.proofs.lemmas.List.{get_or-replicate, length-replicate}
use Rattle.std.proofs.lemmas.List.Elements.{All-append, All-from_recursion, All-nil, recursion_from_All}
use Rattle.wire_base.specs.Numbers.{AreBytes}
use Rattle.nsh_headers.specs.Edit.{lowered}
use Rattle.nsh_headers.specs.Head.{IsSized, bit}
use Rattle.nsh_metadata.specs.Changes.{with_context, with_index}
use Rattle.nsh_metadata.specs.Header.{Header, IsContext, IsNsh, context_bytes, md_of}
use Rattle.nsh_metadata.specs.Item.{AreItems, IsItem, Item, item_bytes, item_len, items_bytes, new_item, pad_len}
use Rattle.nsh_metadata.specs.declared.contexts.Context.{Context}
use Rattle.nsh_metadata.specs.declared.contexts.Context.TheVariants.{Fixed16, Items}
use Rattle.nsh_metadata.proofs.ChangeLemmas.{context_words}
use Rattle.nsh_metadata.proofs.ItemLemmas.{AreItems-append, items_bytes-push, length-item_bytes}
use Rattle.service_functions.specs.Functions.{IsFunction, on_metadata}
use Rattle.service_functions.specs.Serving.{ContextBy, DropByContext, HeaderBy}
use Rattle.service_functions.specs.declared.answers.Why.{Why}
use Rattle.service_functions.specs.declared.answers.Why.TheVariants as why
use Rattle.service_functions.specs.declared.functions.Function.{Function}
use Rattle.service_functions.specs.declared.functions.Function.TheVariants.{ClearMeta, Firewall, HopLimit, Nat, Pass, PopVlan, PushVlan, Remark, RequireMeta, Stamp}
use Rattle.classifier.specs.Rules.{IsRuleContext}
use Rattle.classifier.specs.Stations.{first_header}
use Rattle.forwarder.specs.Walks.{aged}
use Rattle.forwarder.proofs.WalkSteps.{lowered_above}

-- ---- contexts

-- 16 bytes, or items of at most 244 bytes
abbrev pub ContextFits : Context → Type 0
ContextFits (Fixed16 bytes) = (length bytes ≡ 16) × AreBytes bytes
ContextFits (Items items) = AreItems items × AreBytes (items_bytes items) × (length (items_bytes items) ≤ 244)

context_is : (c : Context) → ContextFits c → IsContext (context_bytes c) (md_of c) c
context_is (Fixed16 bytes) fits = (refl, fits.0, refl)
context_is (Items items) fits = (refl, fits.0, refl)

whole_words : (c : Context) → ContextFits c → length (context_bytes c) % 4 ≡ 0
whole_words c fits = context_words (context_bytes c) c (context_is c fits)

context_small : (c : Context) → ContextFits c → length (context_bytes c) ≤ 244
context_small (Fixed16 bytes) fits = let len = fits.0 in omega (arith, len)
context_small (Items items) fits = fits.2

context_are : (c : Context) → ContextFits c → AreBytes (context_bytes c)
context_are (Fixed16 bytes) fits = fits.1
context_are (Items items) fits = fits.1

md_small : (c : Context) → md_of c < 16
md_small (Fixed16 bytes) = omega arith
md_small (Items items) = omega arith

zeros : (n : ℕ) → AreBytes (replicate n 0)
zeros n = λ k d lt. let len : length (replicate n 0) ≡ n = length-replicate {A = ℕ} n 0 in let below : k < n = omega (arith, lt, len) in let is : get_or (replicate n 0) k d ≡ 0 = get_or-replicate {A = ℕ} n k 0 d below in omega (arith, is)

new_bytes : (class kind : ℕ) (body : List ℕ) → class < 2 ^ 16 → kind ≤ 255 → length body ≤ 127 → AreBytes body → AreBytes (item_bytes (new_item class kind body))
new_bytes class kind body of_class of_kind few are =
    let tail : AreBytes (body ++ replicate (pad_len (length body)) 0) = All-append (λ (b : ℕ). b < 256) body (replicate (pad_len (length body)) 0) are (zeros (pad_len (length body))) in
    All-from_recursion (λ (b : ℕ). b < 256) (item_bytes (new_item class kind body))
    (omega (arith, of_class), (omega arith, (omega (arith, of_kind), (omega (arith, few), recursion_from_All (λ (b : ℕ). b < 256) (body ++ replicate (pad_len (length body)) 0) tail))))

record Served (c left : Context) : Type 0 where
  fits : ContextFits left
  same : md_of left ≡ md_of c

-- what a function that has no reason to drop leaves of a context
context_left : (f : Function) (c : Context) → IsFunction f → ((w : Why) → DropByContext f c w → ⊥) → ContextFits c → Served c (ContextBy f c)
context_left Pass c fits none is = record { fits = is; same = refl }
context_left (Firewall protocol low high) c fits none is = record { fits = is; same = refl }
context_left (Remark dscp) c fits none is = record { fits = is; same = refl }
context_left (Nat side from to) c fits none is = record { fits = is; same = refl }
context_left HopLimit c fits none is = record { fits = is; same = refl }
context_left (PushVlan vid) c fits none is = record { fits = is; same = refl }
context_left PopVlan c fits none is = record { fits = is; same = refl }
context_left (RequireMeta class kind) c fits none is = record { fits = is; same = refl }
context_left ClearMeta (Fixed16 bytes) fits none is = record { fits = (refl, zeros 16); same = refl }
context_left ClearMeta (Items items) fits none is = record { fits = (tt, All-nil (λ (b : ℕ). b < 256), omega arith); same = refl }
context_left (Stamp class kind body) (Fixed16 bytes) fits none is = record { fits = is; same = refl }
context_left (Stamp class kind body) (Items items) fits none is =
    let new = new_item class kind body.items in
    let of_class = fits.0 in
    let of_kind = fits.1 in
    let few = fits.2.0 in
    let item : IsItem new = record { class_fits = of_class; kind_fits = omega (arith, of_kind); body_fits = omega (arith, few); pad_fills = length-replicate {A = ℕ} (pad_len (length body.items)) 0 } in
    let bytes : items_bytes (items ++ new ∷ []) ≡ items_bytes items ++ item_bytes new = items_bytes-push items new in
    let are : AreBytes (items_bytes items ++ item_bytes new) = All-append (λ (b : ℕ). b < 256) (items_bytes items) (item_bytes new) is.1 (new_bytes class kind body.items of_class of_kind few fits.2.1) in
    let size : length (items_bytes (items ++ new ∷ [])) ≡ length (items_bytes items) + item_len (length body.items) =
    ap length bytes ∙ length-append (items_bytes items) (item_bytes new) ∙ ap (λ (n : ℕ). length (items_bytes items) + n) (length-item_bytes new item) in
    let small : length (items_bytes items) + item_len (length body.items) ≤ 244 = elim (cases_lt 244 (length (items_bytes items) + item_len (length body.items))) [
      | inl over ↦ absurd (none why.MetaFull (refl, over))
      | inr le ↦ le
    ] in
    record { fits = (AreItems-append items (new ∷ []) is.0 (item, tt), subst AreBytes (sym bytes) are, omega (arith, size, small)); same = refl }

-- ---- headers

-- each field is in its range, and Length counts the context
pub record Fits (h : Header) : Type 0 where
  pub ttl : h.head.base.ttl < 64
  pub spare4 : h.head.base.spare4 < 16
  pub next : h.head.base.next < 256
  pub spi : h.head.path.spi < 2 ^ 24
  pub si : h.head.path.si < 256
  pub md : h.head.base.md ≡ md_of h.context
  pub words : 4 * h.head.base.words ≡ 8 + length (context_bytes h.context)
  pub context : ContextFits h.context

bit_small : (b : Bool) → bit b ≤ 1
bit_small true = omega arith
bit_small false = omega arith

sized : (c : Context) (md words : ℕ) → md ≡ md_of c → 4 * words ≡ 8 + length (context_bytes c) → ContextFits c → IsSized md words
sized (Fixed16 bytes) md words is count fits = let len = fits.0 in inl (is, omega (arith, len, count))
sized (Items items) md words is count fits = inr (is, omega (arith, count))

abbrev first_word : Header → ℕ
first_word h = 8192 * bit h.head.base.oam + 4096 * bit h.head.base.spare1 + 64 * h.head.base.ttl + h.head.base.words

abbrev spelling_of : Header → List ℕ
spelling_of h =
    first_word h / 256 ∷ first_word h % 256 ∷ (16 * h.head.base.spare4 + h.head.base.md) ∷ h.head.base.next
    ∷ h.head.path.spi / 65536 ∷ h.head.path.spi / 256 % 256 ∷ h.head.path.spi % 256 ∷ h.head.path.si ∷ context_bytes h.context

pub record Spelled (h : Header) : Type 0 where
  pub bytes : List ℕ
  pub spells : IsNsh bytes h
  pub are : AreBytes bytes

pub spelled : (h : Header) → Fits h → Spelled h
spelled h fits =
    let small = context_small h.context fits.context in
    let count = fits.words in
    let ttl = fits.ttl in
    let spare = fits.spare4 in
    let md = fits.md in
    let of_md = md_small h.context in
    let oam = bit_small h.head.base.oam in
    let spare1 = bit_small h.head.base.spare1 in
    let words : h.head.base.words < 64 = omega (arith, small, count) in
    let spi = fits.spi in
    let si = fits.si in
    let next = fits.next in
    let behind : IsContext (context_bytes h.context) h.head.base.md h.context = subst (λ (n : ℕ). IsContext (context_bytes h.context) n h.context) (sym md) (context_is h.context fits.context) in
    record {
      bytes = spelling_of h;
      spells = record {
        front = record {
          long = omega arith;
          first_word = omega arith;
          third = refl;
          next = refl;
          spi = omega (arith, spi);
          si = refl;
          fits = record { ttl = ttl; words = words; spare4 = spare; md = omega (arith, md, of_md) };
        };
        size = omega (arith, count);
        sized = sized h.context h.head.base.md h.head.base.words md count fits.context;
        behind = behind;
      };
      are = All-from_recursion (λ (b : ℕ). b < 256) (spelling_of h) (
        omega (arith, oam, spare1, ttl, words),
        (
          omega arith,
          (
            omega (arith, spare, md, of_md),
            (
              next,
              (
                omega (arith, spi),
                (
                  omega arith,
                  (
                    omega arith,
                    (
                      si,
                      recursion_from_All (λ (b : ℕ). b < 256) (context_bytes h.context) (context_are h.context fits.context),
                    ),
                  ),
                ),
              ),
            ),
          ),
        ),
      );
    }

-- ---- what a turn leaves

lowered_small : (t : ℕ) → t < 64 → lowered t < 64
lowered_small t small = elim (cases_eq t 0) [
  | inl is ↦ let low : lowered t ≡ 63 = ap lowered is in omega (arith, low)
  | inr some ↦ let low = lowered_above t (omega (arith, some)) in omega (arith, low, small)
]

pub fits_aged : (h : Header) → Fits h → Fits (aged h)
fits_aged h fits = record {
  ttl = lowered_small h.head.base.ttl fits.ttl;
  spare4 = fits.spare4;
  next = fits.next;
  spi = fits.spi;
  si = fits.si;
  md = fits.md;
  words = fits.words;
  context = fits.context;
}

pub fits_index : (h : Header) (v : ℕ) → v < 256 → Fits h → Fits (with_index h v)
fits_index h v small fits = record {
  ttl = fits.ttl;
  spare4 = fits.spare4;
  next = fits.next;
  spi = fits.spi;
  si = small;
  md = fits.md;
  words = fits.words;
  context = fits.context;
}

fits_context : (h : Header) (c : Context) → ContextFits c → md_of c ≡ md_of h.context → Fits h → Fits (with_context h c)
fits_context h c is same fits = record {
  ttl = fits.ttl;
  spare4 = fits.spare4;
  next = fits.next;
  spi = fits.spi;
  si = fits.si;
  md = fits.md ∙ sym same;
  words = let whole = whole_words c is in omega (arith, whole);
  context = is;
}

either_fits : (b : Bool) (x y : Header) → Fits x → Fits y → Fits (cond b x y)
either_fits true x y p q = p
either_fits false x y p q = q

pub fits_served : (f : Function) (h : Header) → IsFunction f → ((w : Why) → DropByContext f h.context w → ⊥) → Fits h → Fits (HeaderBy f h)
fits_served f h is none fits =
    let left = context_left f h.context is none fits.context in
    either_fits (on_metadata f) (with_context h (ContextBy f h.context)) h (fits_context h (ContextBy f h.context) left.fits left.same fits) fits

-- ---- the first header

rule_context : (c : Context) → IsRuleContext c → ContextFits c
rule_context (Fixed16 bytes) is = is
rule_context (Items items) is = subst (λ (l : List Item). ContextFits (Items l)) (sym is) (tt, All-nil (λ (b : ℕ). b < 256), omega arith)

pub fits_first : (spi si ttl : ℕ) (context : Context) → spi < 2 ^ 24 → si ≤ 255 → ttl ≤ 63 → IsRuleContext context → Fits (first_header spi si ttl context)
fits_first spi si ttl context of_spi of_si of_ttl is =
    let fits = rule_context context is in
    let whole = whole_words context fits in
    record {
      ttl = omega (arith, of_ttl);
      spare4 = omega arith;
      next = omega arith;
      spi = of_spi;
      si = omega (arith, of_si);
      md = refl;
      words = omega (arith, whole);
      context = fits;
    }
