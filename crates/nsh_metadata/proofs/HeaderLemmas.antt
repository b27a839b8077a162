-- Headers and refusals of the same bytes.
use Rattle.std.proofs.Common.{◌≡◌, ℕ, ◌+◌, ◌-◌, ◌*◌, ◌≤◌, List, [], ◌++◌, length, drop, take, refl, sym, ap, subst, ◌∙◌, arith, inl, inr}
use Rattle.std.proofs.lemmas.List.{take-append-drop, length-take, length-take-le, length-drop, take-take, get_or-take, drop-take}
use Rattle.wire_base.specs.Numbers.{big_endian}
use Rattle.nsh_headers.specs.declared.heads.NshHead.{NshHead}
use Rattle.nsh_headers.specs.declared.faults.NshFault.{NshFault}
use Rattle.nsh_headers.specs.declared.faults.NshFault.TheVariants.{Short, Version, MdType, Length, Context}
use Rattle.nsh_headers.specs.Head.{IsHead, IsSized}
use Rattle.nsh_headers.specs.Refusal.{HeadBreaks, version_in, md_in, words_in}
use Rattle.nsh_metadata.specs.declared.contexts.Context.{Context as Context'}
use Rattle.nsh_metadata.specs.declared.contexts.Context.TheVariants.{Fixed16, Items}
use Rattle.nsh_metadata.specs.Item.{Item, items_bytes}
use Rattle.nsh_metadata.specs.Header.{Header, IsContext, BeginsWith}
use Rattle.nsh_metadata.specs.Refusal.{PassesEnd, Breaks, Refused}
use Rattle.nsh_metadata.proofs.SplitLemmas.{Split, compare, compare_splits}

-- ---- heads

pub drop_take : (m n : ℕ) (b : List ℕ) → m ≤ n → drop m (take n b) ≡ take (n - m) (drop m b)
drop_take m n b le = ap (λ (k : ℕ). drop m (take k b)) (omega arith) ∙ drop-take m (n - m) b

-- a head is that of the first bytes, as long as there are 8
pub IsHead-take : (b : List ℕ) (n : ℕ) (h : NshHead) → 8 ≤ n → IsHead b h → IsHead (take n b) h
IsHead-take b n h long s =
    record {
      long = omega (arith, length-take n b, s.long);
      first_word = ap big_endian (take-take 2 n b (omega arith)) ∙ s.first_word;
      third = get_or-take n b 2 0 (omega arith) ∙ s.third;
      next = get_or-take n b 3 0 (omega arith) ∙ s.next;
      spi = ap (λ (t : List ℕ). big_endian (take 3 t)) (drop_take 4 n b (omega arith)) ∙ ap big_endian (take-take 3 (n - 4) (drop 4 b) (omega arith)) ∙ s.spi;
      si = get_or-take n b 7 0 (omega arith) ∙ s.si;
      fits = s.fits;
    }

pub IsHead-from_take : (b : List ℕ) (n : ℕ) (h : NshHead) → IsHead (take n b) h → IsHead b h
IsHead-from_take b n h s =
    let long : 8 ≤ n = omega (arith, length-take n b, s.long) in
    record {
      long = omega (arith, length-take n b, s.long);
      first_word = ap big_endian (sym (take-take 2 n b (omega arith))) ∙ s.first_word;
      third = sym (get_or-take n b 2 0 (omega arith)) ∙ s.third;
      next = sym (get_or-take n b 3 0 (omega arith)) ∙ s.next;
      spi = ap big_endian (sym (take-take 3 (n - 4) (drop 4 b) (omega arith))) ∙ ap (λ (t : List ℕ). big_endian (take 3 t)) (sym (drop_take 4 n b (omega arith))) ∙ s.spi;
      si = sym (get_or-take n b 7 0 (omega arith)) ∙ s.si;
      fits = s.fits;
    }

pub same_head : (b : List ℕ) (h k : NshHead) → IsHead b h → IsHead b k → h ≡ k
same_head b h k p q = grind arith

-- what the first three bytes of a head show
pub record Shows (b : List ℕ) (h : NshHead) : Type 0 where
  pub version : version_in b ≡ 0
  pub words : words_in b ≡ h.base.words
  pub md : md_in b ≡ h.base.md

pub shows : (b : List ℕ) (h : NshHead) → IsHead b h → Shows b h
shows b h s =
    record {
      version = grind arith;
      words = grind arith;
      md = omega (arith, s.third, s.fits.md);
    }

pub sized_unbroken : (b : List ℕ) (h : NshHead) (f : NshFault) → IsHead b h → IsSized h.base.md h.base.words → HeadBreaks b f → ⊥
sized_unbroken b h f s sized broken = grind arith

-- ---- whole headers

pub begins_size : (b : List ℕ) (h : Header) (n : ℕ) → BeginsWith b h n → n ≡ 4 * h.head.base.words
begins_size b h n w = sym (length-take-le n b w.within) ∙ w.spelled.size

pub begins_head : (b : List ℕ) (h : Header) (n : ℕ) → BeginsWith b h n → IsHead b h.head
begins_head b h n w = IsHead-from_take b n h.head w.spelled.front

pub begins_long : (b : List ℕ) (h : Header) (n : ℕ) → BeginsWith b h n → 8 ≤ n
begins_long b h n w = omega (arith, length-take n b, w.spelled.front.long)

-- the context of MD Type 2 is items, and these are the first of the bytes behind the head
pub record HasItems (b : List ℕ) (n : ℕ) (context : Context') : Type 0 where
  pub items : List Item
  pub same : context ≡ Items items
  pub split : Split (drop 8 b) items (n - 8) (drop (n - 8) (drop 8 b))

context_items : (b : List ℕ) (n md : ℕ) (context : Context') → n ≤ length b → 8 ≤ n → IsContext (drop 8 (take n b)) md context → md ≡ 2 → HasItems b n context
context_items b n md (Fixed16 bytes) within long is md-is = absurd (omega (arith, is.0))
context_items b n md (Items xs) within long is md-is =
    let front : take (n - 8) (drop 8 b) ≡ items_bytes xs = sym (drop_take 8 n b long) ∙ is.2 in
    record {
      items = xs;
      same = refl;
      split = record {
        whole = is.1;
        parts = sym (take-append-drop (n - 8) (drop 8 b)) ∙ ap (λ (t : List ℕ). t ++ drop (n - 8) (drop 8 b)) front;
        ends = ap length (sym front) ∙ length-take-le (n - 8) (drop 8 b) (omega (arith, length-drop 8 b));
      };
    }

pub begins_items : (b : List ℕ) (h : Header) (n : ℕ) → BeginsWith b h n → h.head.base.md ≡ 2 → HasItems b n h.context
begins_items b h n w md-is = context_items b n h.head.base.md h.context w.within (begins_long b h n w) w.spelled.behind md-is

pub Split-from_passes : (b : List ℕ) (place : ℕ) (p : PassesEnd b place) → Split (drop 8 b) p.before (length (items_bytes p.before)) p.rest
Split-from_passes b place p = record { whole = p.whole; parts = p.split; ends = refl }

-- ---- what spells a header is not refused

begins_before_end : (b : List ℕ) (h : Header) (n place : ℕ) → BeginsWith b h n → PassesEnd b place → ⊥
begins_before_end b h n place w p =
    let seen = shows b h.head (begins_head b h n w) in
    let size = begins_size b h n w in
    let found = begins_items b h n w (sym seen.md ∙ p.md) in
    elim (compare (drop 8 b) found.items p.before (n - 8) (length (items_bytes p.before)) (drop (n - 8) (drop 8 b)) p.rest found.split (Split-from_passes b place p)) [
      | inl s ↦ omega (arith, seen.words, ap (λ (xs : List Item). length (items_bytes xs)) s.items, found.split.ends, p.here, p.inside, begins_long b h n w)
      | inr o ↦ elim o [
        | inl a ↦ omega (arith, seen.words, a.inside, found.split.ends, p.here, p.inside, begins_long b h n w)
        | inr a ↦ omega (arith, seen.words, a.inside, found.split.ends, p.here, p.past, begins_long b h n w)
      ]
    ]

pub begins_unbroken : (b : List ℕ) (h : Header) (n : ℕ) (f : NshFault) → BeginsWith b h n → Breaks b f → ⊥
begins_unbroken b h n (Short v) w broken = broken
begins_unbroken b h n (Version v) w broken = sized_unbroken b h.head (Version v) (begins_head b h n w) w.spelled.sized broken
begins_unbroken b h n (MdType v) w broken = sized_unbroken b h.head (MdType v) (begins_head b h n w) w.spelled.sized broken
begins_unbroken b h n (Length v) w broken = sized_unbroken b h.head (Length v) (begins_head b h n w) w.spelled.sized broken
begins_unbroken b h n (Context place) w broken = begins_before_end b h n place w broken

-- ---- one header, one refusal

same_context : (c : List ℕ) (md : ℕ) (x y : Context') → IsContext c md x → IsContext c md y → x ≡ y
same_context c md (Fixed16 xs) (Fixed16 ys) p q = ap Fixed16 (sym p.2 ∙ q.2)
same_context c md (Fixed16 xs) (Items ys) p q = absurd (omega (arith, p.0, q.0))
same_context c md (Items xs) (Fixed16 ys) p q = absurd (omega (arith, p.0, q.0))
same_context c md (Items xs) (Items ys) p q =
    let e : items_bytes xs ++ [] ≡ items_bytes ys ++ [] = ap (λ (t : List ℕ). t ++ []) (sym p.2 ∙ q.2) in
    elim (compare_splits xs ys [] [] p.1 q.1 e) [
      | inl s ↦ ap Items s.items
      | inr o ↦ elim o [ inl a ↦ absurd (omega (arith, a.long)) | inr a ↦ absurd (omega (arith, a.long)) ]
    ]

same_parts : (h k : Header) → h.head ≡ k.head → h.context ≡ k.context → h ≡ k
same_parts h k p q =
    let by_head : NshHead → Header = λ x. record { head = x; context = h.context } in
    let by_context : Context' → Header = λ x. record { head = k.head; context = x } in
    ap by_head p ∙ ap by_context q

pub begins_once : (b : List ℕ) (h k : Header) (n m : ℕ) → BeginsWith b h n → BeginsWith b k m → (n ≡ m) × (h ≡ k)
begins_once b h k n m p q =
    let heads = same_head b h.head k.head (begins_head b h n p) (begins_head b k m q) in
    let sizes : n ≡ m = begins_size b h n p ∙ ap (λ (x : NshHead). 4 * x.base.words) heads ∙ sym (begins_size b k m q) in
    let second : IsContext (drop 8 (take n b)) h.head.base.md k.context =
    subst (λ (x : NshHead). IsContext (drop 8 (take n b)) x.base.md k.context) (sym heads)
    (subst (λ (x : ℕ). IsContext (drop 8 (take x b)) k.head.base.md k.context) (sym sizes) q.spelled.behind) in
    (sizes, same_parts h k heads (same_context (drop 8 (take n b)) h.head.base.md h.context k.context p.spelled.behind second))

passes_once : (b : List ℕ) (x y : ℕ) → PassesEnd b x → PassesEnd b y → x ≡ y
passes_once b x y p q =
    elim (compare (drop 8 b) p.before q.before (length (items_bytes p.before)) (length (items_bytes q.before)) p.rest q.rest (Split-from_passes b x p) (Split-from_passes b y q)) [
      | inl s ↦ p.here ∙ ap (λ (xs : List Item). 8 + length (items_bytes xs)) s.items ∙ sym q.here
      | inr o ↦ elim o [
        | inl a ↦ absurd (omega (arith, a.inside, p.past, p.here, q.here, q.inside))
        | inr a ↦ absurd (omega (arith, a.inside, q.past, p.here, q.here, p.inside))
      ]
    ]

-- a head that is refused is none with items
head_or_items : (b : List ℕ) (f : NshFault) (place : ℕ) → HeadBreaks b f → PassesEnd b place → ⊥
head_or_items b f place broken p = let v = p.version in let m = p.md in let w = p.words in grind arith

pub breaks_once : (b : List ℕ) (f g : NshFault) → Breaks b f → Breaks b g → f ≡ g
breaks_once b (Context x) (Context y) p q = ap Context (passes_once b x y p q)
breaks_once b (Context x) (Short y) p q = absurd q
breaks_once b (Context x) (Version y) p q = absurd (head_or_items b (Version y) x q p)
breaks_once b (Context x) (MdType y) p q = absurd (head_or_items b (MdType y) x q p)
breaks_once b (Context x) (Length y) p q = absurd (head_or_items b (Length y) x q p)
breaks_once b (Short x) g p q = absurd p
breaks_once b (Version x) (Context y) p q = absurd (head_or_items b (Version x) y p q)
breaks_once b (MdType x) (Context y) p q = absurd (head_or_items b (MdType x) y p q)
breaks_once b (Length x) (Context y) p q = absurd (head_or_items b (Length x) y p q)
breaks_once b (Version x) (Short y) p q = absurd q
breaks_once b (MdType x) (Short y) p q = absurd q
breaks_once b (Length x) (Short y) p q = absurd q
breaks_once b (Version x) (Version y) p q = ap Version (p.1 ∙ sym q.1)
breaks_once b (Version x) (MdType y) p q = absurd (p.2 (p.1 ∙ q.1))
breaks_once b (Version x) (Length y) p q = absurd (p.2 (p.1 ∙ q.1))
breaks_once b (MdType x) (Version y) p q = absurd (q.2 (q.1 ∙ p.1))
breaks_once b (Length x) (Version y) p q = absurd (q.2 (q.1 ∙ p.1))
breaks_once b (MdType x) (MdType y) p q = ap MdType (p.2 ∙ sym q.2)
breaks_once b (Length x) (Length y) p q = ap Length (p.2 ∙ sym q.2)
breaks_once b (MdType x) (Length y) p q = elim q.3 [ inl e ↦ absurd (p.3 (p.2 ∙ e.0)) | inr e ↦ absurd (p.4 (p.2 ∙ e.0)) ]
breaks_once b (Length x) (MdType y) p q = elim p.3 [ inl e ↦ absurd (q.3 (q.2 ∙ e.0)) | inr e ↦ absurd (q.4 (q.2 ∙ e.0)) ]

pub refused_once : (b : List ℕ) (f g : NshFault) → Refused b f → Refused b g → f ≡ g
refused_once b f g (inl p) (inl q) = breaks_once b f g p q
refused_once b f g (inl p) (inr q) = absurd (q.0.unbroken f p)
refused_once b f g (inr p) (inl q) = absurd (p.0.unbroken g q)
refused_once b f g (inr p) (inr q) = p.1 ∙ sym q.1

pub begins_unrefused : (b : List ℕ) (h : Header) (n : ℕ) (f : NshFault) → BeginsWith b h n → Refused b f → ⊥
begins_unrefused b h n f w (inl p) = begins_unbroken b h n f w p
begins_unrefused b h n f w (inr p) = p.0.partial h n w
