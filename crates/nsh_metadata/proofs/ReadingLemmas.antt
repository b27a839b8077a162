-- What a walk over the items says of the whole header.
use Rattle.std.proofs.Common.{◌≡◌, ℕ, ◌+◌, ◌-◌, ◌*◌, ◌<◌, ◌≤◌, List, length, drop, take, Result, Ok, Err, refl, sym, ap, subst, ◌∙◌, arith, inl, inr}
use Rattle.std.proofs.lemmas.List.{length-take-le, length-drop, length-append}
use Rattle.nsh_headers.specs.declared.heads.NshHead.{NshHead}
use Rattle.nsh_headers.specs.declared.faults.NshFault.{NshFault}
use Rattle.nsh_headers.specs.declared.faults.NshFault.TheVariants.{Short, Version, MdType, Length, Context}
use Rattle.nsh_headers.specs.Head.{IsHead, IsSized}
use Rattle.nsh_headers.specs.Refusal.{HeadBreaks, HeadRefused, IsCut}
use Rattle.nsh_metadata.specs.declared.contexts.Context.TheVariants.{Items}
use Rattle.nsh_metadata.specs.Item.{Item, AreItems, items_bytes, item_size, items_in, HoldsItems}
use Rattle.nsh_metadata.specs.Header.{Header, BeginsWith, HasSpelling}
use Rattle.nsh_metadata.specs.Refusal.{PassesEnd, Breaks, Held, Refused}
use Rattle.nsh_metadata.specs.Reading.{Refuses, Reads}
use Rattle.nsh_metadata.specs.Survey.{IsCutAt, IsPastAt}
use Rattle.nsh_metadata.proofs.ItemLemmas.{HoldsItems-take, items_words}
use Rattle.nsh_metadata.proofs.SplitLemmas.{Split-from_holds, compare}
use Rattle.nsh_metadata.proofs.HeaderLemmas.{IsHead-take, same_head, shows, sized_unbroken, drop_take, begins_size, begins_head, begins_long, begins_items, begins_once, begins_unrefused, refused_once, Split-from_passes}

-- ---- a head that is refused

head_breaks : (b : List ℕ) (f : NshFault) → HeadBreaks b f → Breaks b f
head_breaks b (Short n) p = p
head_breaks b (Version n) p = p
head_breaks b (MdType n) p = p
head_breaks b (Length n) p = p
head_breaks b (Context n) p = absurd p

head_not_short : (b : List ℕ) (f : NshFault) (n : ℕ) → HeadBreaks b f → f ≡ Short n → ⊥
head_not_short b f n p e = subst (HeadBreaks b) e p

cut_unbroken : (b : List ℕ) (f : NshFault) → IsCut b → Breaks b f → ⊥
cut_unbroken b (Short n) cut p = p
cut_unbroken b (Version n) cut p = cut.unbroken (Version n) p
cut_unbroken b (MdType n) cut p = cut.unbroken (MdType n) p
cut_unbroken b (Length n) cut p = cut.unbroken (Length n) p
cut_unbroken b (Context n) cut p = omega (arith, cut.short, p.shown, ap length p.split, length-drop 8 b, length-append (items_bytes p.before) p.rest)

pub head_refuses : (b : List ℕ) (f : NshFault) → HeadRefused b f → Refuses b f
head_refuses b f (inl p) = record { refused = inl (head_breaks b f p); short = λ n e. absurd (head_not_short b f n p e) }
head_refuses b f (inr p) =
    record {
      refused = inr (record { unbroken = λ g q. cut_unbroken b g p.0 q; partial = λ h n w. omega (arith, p.0.short, w.within, begins_long b h n w) }, p.1);
      short = λ n e. omega (arith, p.0.short);
    }

-- ---- a header of which nothing is refused, and which is not there whole

pub held_from : (b : List ℕ) (h : NshHead) → IsHead b h → IsSized h.base.md h.base.words → ((place : ℕ) → PassesEnd b place → ⊥) → ((k : Header) (n : ℕ) → BeginsWith b k n → ⊥) → Held b
held_from b h front sized items partly = record { unbroken = λ f. go f; partial = partly } where
  go : (f : NshFault) → Breaks b f → ⊥
  go (Short n) p = p
  go (Version n) p = sized_unbroken b h (Version n) front sized p
  go (MdType n) p = sized_unbroken b h (MdType n) front sized p
  go (Length n) p = sized_unbroken b h (Length n) front sized p
  go (Context n) p = items n p

-- a whole header has the size that its head says
begins_words : (b : List ℕ) (h : NshHead) (k : Header) (n : ℕ) → IsHead b h → BeginsWith b k n → n ≡ 4 * h.base.words
begins_words b h k n front w = begins_size b k n w ∙ ap (λ (x : NshHead). 4 * x.base.words) (same_head b k.head h (begins_head b k n w) front)

pub fixed_held : (b : List ℕ) (h : NshHead) → IsHead b h → h.base.md ≡ 1 → h.base.words ≡ 6 → length b < 24 → Refuses b (Short (length b))
fixed_held b h front md words few =
    record {
      refused = inr (held_from b h front (inl (md, words)) (λ place p. omega (arith, p.md, (shows b h front).md, md)) (λ k n w. omega (arith, begins_words b h k n front w, w.within, words)), refl);
      short = λ n e. omega arith;
    }

-- ---- a walk that ends before the items do

cut_unpassed : (b : List ℕ) (h : NshHead) (place q : ℕ) → IsHead b h → 2 ≤ h.base.words → IsCutAt (drop 8 b) (4 * h.base.words - 8) place → PassesEnd b q → ⊥
cut_unpassed b h place q front words cut p =
    let seen = shows b h front in
    let at = Split-from_holds (drop 8 b) cut.stands.count place cut.stands.items cut.stands.within in
    elim (compare (drop 8 b) (items_in cut.stands.count (drop 8 b)) p.before place (length (items_bytes p.before)) (drop place (drop 8 b)) p.rest at (Split-from_passes b q p)) [
      | inl s ↦
          let same_place : place ≡ length (items_bytes p.before) = sym at.ends ∙ ap (λ (xs : List Item). length (items_bytes xs)) s.items in
          let same_size = ap item_size s.rests in
          let same_len = ap length s.rests in
          elim cut.short [
            | inl few ↦ omega (arith, few, same_len, p.shown)
            | inr held ↦ omega (arith, held.0, same_size, same_place, p.here, p.past, seen.words, words)
          ]
      | inr o ↦ elim o [
        | inl a ↦ elim cut.short [ inl few ↦ omega (arith, few, a.long) | inr held ↦ omega (arith, held.1, a.whole) ]
        | inr a ↦ omega (arith, a.inside, at.ends, cut.stands.inside, p.here, p.past, seen.words, words)
      ]
    ]

cut_unwhole : (b : List ℕ) (h : NshHead) (place : ℕ) (k : Header) (n : ℕ) → IsHead b h → h.base.md ≡ 2 → IsCutAt (drop 8 b) (4 * h.base.words - 8) place → BeginsWith b k n → ⊥
cut_unwhole b h place k n front md cut w =
    let size = begins_words b h k n front w in
    let long = begins_long b k n w in
    let heads = same_head b k.head h (begins_head b k n w) front in
    let found = begins_items b k n w (ap (λ (x : NshHead). x.base.md) heads ∙ md) in
    let at = Split-from_holds (drop 8 b) cut.stands.count place cut.stands.items cut.stands.within in
    elim (compare (drop 8 b) (items_in cut.stands.count (drop 8 b)) found.items place (n - 8) (drop place (drop 8 b)) (drop (n - 8) (drop 8 b)) at found.split) [
      | inl s ↦ omega (arith, at.ends, ap (λ (xs : List Item). length (items_bytes xs)) s.items, found.split.ends, cut.stands.inside, size, long)
      | inr o ↦ elim o [
        | inl a ↦ elim cut.short [ inl few ↦ omega (arith, few, a.long) | inr held ↦ omega (arith, held.1, a.whole) ]
        | inr a ↦ omega (arith, a.inside, at.ends, found.split.ends, cut.stands.inside, size, long)
      ]
    ]

pub items_held : (b : List ℕ) (h : NshHead) (place : ℕ) → IsHead b h → h.base.md ≡ 2 → 2 ≤ h.base.words → IsCutAt (drop 8 b) (4 * h.base.words - 8) place → Refuses b (Short (length b))
items_held b h place front md words cut =
    record {
      refused = inr (held_from b h front (inr (md, words)) (λ q p. cut_unpassed b h place q front words cut p) (λ k n w. cut_unwhole b h place k n front md cut w), refl);
      short = λ n e. few;
    } where
      few : length b < 252
      few =
          let at = Split-from_holds (drop 8 b) cut.stands.count place cut.stands.items cut.stands.within in
          let fills = items_words (items_in cut.stands.count (drop 8 b)) at.whole in
          elim cut.short [
            | inl short ↦ omega (arith, short, fills, at.ends, length-drop place (drop 8 b), length-drop 8 b, cut.stands.inside, front.fits.words, cut.stands.within)
            | inr held ↦ omega (arith, held.0, held.1, length-drop place (drop 8 b), length-drop 8 b, cut.stands.inside, front.fits.words, cut.stands.within)
          ]

-- ---- an item that passes the end

pub items_past : (b : List ℕ) (h : NshHead) (place : ℕ) → IsHead b h → h.base.md ≡ 2 → 2 ≤ h.base.words → IsPastAt (drop 8 b) (4 * h.base.words - 8) place → Refuses b (Context (8 + place))
items_past b h place front md words past =
    let seen = shows b h front in
    let at = Split-from_holds (drop 8 b) past.stands.count place past.stands.items past.stands.within in
    record {
      refused = inl (record {
        version = seen.version;
        md = seen.md ∙ md;
        words = omega (arith, seen.words, words);
        before = items_in past.stands.count (drop 8 b);
        rest = drop place (drop 8 b);
        whole = at.whole;
        split = at.parts;
        here = ap (λ (n : ℕ). 8 + n) (sym at.ends);
        inside = omega (arith, seen.words, past.stands.inside);
        shown = past.shown;
        past = omega (arith, seen.words, past.past, words);
      });
      short = λ n e. absurd cc;
    }

-- ---- items that are there whole

pub record HasWhole (b : List ℕ) (h : NshHead) (items : List Item) : Type 0 where
  pub ok : AreItems items
  pub bytes : items_bytes items ≡ take (4 * h.base.words - 8) (drop 8 b)
  pub size : 4 * h.base.words ≤ length b

pub has_whole : (b behind front : List ℕ) (h : NshHead) (count : ℕ) (items : List Item) → IsHead b h → 2 ≤ h.base.words → behind ≡ drop 8 b → 4 * h.base.words - 8 ≤ length behind → HoldsItems count (4 * h.base.words - 8) behind
    → front ≡ take (4 * h.base.words - 8) behind → items ≡ items_in count front → HasWhole b h items
has_whole b behind front h count items is_head words behind-is room held front-is items-is =
    let back : items ≡ items_in count behind = items-is ∙ ap (items_in count) front-is ∙ (HoldsItems-take count (4 * h.base.words - 8) behind held room).1 in
    record {
      ok = subst AreItems (sym back) held.items;
      bytes = ap items_bytes back ∙ held.spelled ∙ ap (take (4 * h.base.words - 8)) behind-is;
      size = omega (arith, room, ap length behind-is, length-drop 8 b, is_head.long);
    }

pub whole_spelling : (b : List ℕ) (h : NshHead) (items : List Item) → IsHead b h → h.base.md ≡ 2 → 2 ≤ h.base.words → HasWhole b h items → HasSpelling h (Items items)
whole_spelling b h items front md words w =
    record {
      ranges = front.fits;
      md = md;
      words = omega (arith, ap length w.bytes, length-take-le (4 * h.base.words - 8) (drop 8 b) (omega (arith, w.size, length-drop 8 b)));
    }

pub whole_begins : (b : List ℕ) (h : NshHead) (items : List Item) → IsHead b h → h.base.md ≡ 2 → 2 ≤ h.base.words → HasWhole b h items → BeginsWith b (record { head = h; context = Items items }) (4 * h.base.words)
whole_begins b h items front md words w =
    record {
      within = w.size;
      spelled = record {
        front = IsHead-take b (4 * h.base.words) h (omega arith) front;
        size = length-take-le (4 * h.base.words) b w.size;
        sized = inr (md, words);
        behind = (md, w.ok, drop_take 8 (4 * h.base.words) b (omega arith) ∙ sym w.bytes);
      };
    }

-- ---- what a reader answers is the only answer

pub only_header : (b : List ℕ) (r : Result (Header × ℕ) NshFault) (h : Header) (n : ℕ) → Reads b r → BeginsWith b h n → r ≡ Ok (h, n)
only_header b (Ok x) h n reads w =
    let both = begins_once b x.0 h x.1 n reads w in
    ap (λ (k : Header). Ok (k, x.1)) both.1 ∙ ap (λ (m : ℕ). Ok (h, m)) both.0
only_header b (Err f) h n reads w = absurd (begins_unrefused b h n f w reads.refused)

pub only_refusal : (b : List ℕ) (r : Result (Header × ℕ) NshFault) (f : NshFault) → Reads b r → Refused b f → r ≡ Err f
only_refusal b (Ok x) f reads p = absurd (begins_unrefused b x.0 x.1 f reads p)
only_refusal b (Err g) f reads p = ap Err (refused_once b g f reads.refused p)
