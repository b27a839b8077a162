-- A header whose context changes, and an item that is looked for.
use Rattle.std.proofs.Common.{◌≡◌, ℕ, ◌%◌, ◌<◌, ◌≤◌, List, [], ◌∷◌, ◌++◌, length, drop, true, false, ◌||◌, ◌==◌, arith, sym, ap, ◌∙◌, refl, inl, inr}
use Rattle.std.specs.List.{list_any}
use Rattle.nsh_metadata.specs.declared.contexts.Context.{Context}
use Rattle.nsh_metadata.specs.declared.contexts.Context.TheVariants.{Fixed16, Items}
use Rattle.nsh_metadata.specs.Item.{Item, AreItems, items_bytes, item_at, item_size}
use Rattle.nsh_metadata.specs.Changes.{is_of}
use Rattle.nsh_metadata.specs.Header.{IsContext, context_bytes, md_of}
use Rattle.nsh_metadata.proofs.ItemLemmas.{items_words, count-items_bytes, size_here}
use Rattle.nsh_metadata.proofs.SplitLemmas.{compare_splits}

-- a context fills whole words
pub context_words : (b : List ℕ) (c : Context) → IsContext b (md_of c) c → length (context_bytes c) % 4 ≡ 0
context_words b (Fixed16 bytes) is = omega (arith, ap length is.2, is.1)
context_words b (Items items) is = items_words items is.1

-- ---- a search

-- The bytes that are left of items that the bytes spelled are items too, and hold one of the class and type exactly
-- where all of them do.
pub record Left (bytes rest : List ℕ) (c k : ℕ) : Type 0 where
  pub items : List Item
  pub whole : AreItems items
  pub parts : rest ≡ items_bytes items
  pub same : (all : List Item) → AreItems all → bytes ≡ items_bytes all → list_any (is_of c k) all ≡ list_any (is_of c k) items

-- bytes spell one list of items
pub one_list : (xs ys : List Item) → AreItems xs → AreItems ys → items_bytes xs ≡ items_bytes ys → xs ≡ ys
one_list xs ys xs-ok ys-ok e =
    let behind : items_bytes xs ++ [] ≡ items_bytes ys ++ [] = ap (λ (t : List ℕ). t ++ []) e in
    elim (compare_splits xs ys [] [] xs-ok ys-ok behind) [
      | inl s ↦ s.items
      | inr o ↦ elim o [ inl a ↦ absurd (omega (arith, a.long)) | inr a ↦ absurd (omega (arith, a.long)) ]
    ]

pub left_all : (bytes : List ℕ) (c k : ℕ) → (items : List Item) × AreItems items × (bytes ≡ items_bytes items) → Left bytes bytes c k
left_all bytes c k (items, whole, parts) =
    record {
      items = items;
      whole = whole;
      parts = parts;
      same = λ all ok e. ap (list_any (is_of c k)) (one_list all items ok whole (sym e ∙ parts));
    }

-- what is left of some items begins with one
pub record Begins (bytes rest : List ℕ) (c k : ℕ) : Type 0 where
  pub long : 4 ≤ length rest
  pub within : item_size rest ≤ length rest
  pub after : List Item
  pub whole : AreItems after
  pub parts : drop (item_size rest) rest ≡ items_bytes after
  pub same : (all : List Item) → AreItems all → bytes ≡ items_bytes all → list_any (is_of c k) all ≡ (is_of c k (item_at rest) || list_any (is_of c k) after)

begins_with : (bytes rest : List ℕ) (c k : ℕ) (items : List Item) → AreItems items → rest ≡ items_bytes items
    → ((all : List Item) → AreItems all → bytes ≡ items_bytes all → list_any (is_of c k) all ≡ list_any (is_of c k) items) → 0 < length rest → Begins bytes rest c k
begins_with bytes rest c k [] whole parts same some = absurd (omega (arith, ap length parts))
begins_with bytes rest c k (x ∷ xs) whole parts same some =
    let here = size_here rest x (items_bytes xs) whole.0 parts in
    record {
      long = here.2;
      within = here.1;
      after = xs;
      whole = whole.1;
      parts = here.3;
      same = λ all ok e. same all ok e ∙ ap (λ (i : Item). is_of c k i || list_any (is_of c k) xs) (sym here.4);
    }

some_left : (n : ℕ) → false ≡ (n == 0) → 0 < n
some_left n e = grind arith

pub begins : (bytes rest : List ℕ) (c k : ℕ) → Left bytes rest c k → false ≡ (length rest == 0) → Begins bytes rest c k
begins bytes rest c k h some = begins_with bytes rest c k h.items h.whole h.parts h.same (some_left (length rest) some)

pub found : (bytes rest : List ℕ) (c k : ℕ) → Begins bytes rest c k → is_of c k (item_at rest) ≡ true → (all : List Item) → AreItems all → bytes ≡ items_bytes all → true ≡ list_any (is_of c k) all
found bytes rest c k h is all ok e = sym (h.same all ok e ∙ ap (λ b. b || list_any (is_of c k) h.after) is)

pub passed : (bytes rest : List ℕ) (c k : ℕ) → Begins bytes rest c k → is_of c k (item_at rest) ≡ false → Left bytes (drop (item_size rest) rest) c k
passed bytes rest c k h is =
    record {
      items = h.after;
      whole = h.whole;
      parts = h.parts;
      same = λ all ok e. h.same all ok e ∙ ap (λ b. b || list_any (is_of c k) h.after) is;
    }

none_in : (c k : ℕ) (items : List Item) → length (items_bytes items) ≡ 0 → list_any (is_of c k) items ≡ false
none_in c k [] e = refl
none_in c k (x ∷ xs) e = absurd (omega (arith, e, count-items_bytes (x ∷ xs)))

nothing_left : (n : ℕ) → true ≡ (n == 0) → n ≡ 0
nothing_left n e = grind arith

pub none_left : (bytes rest : List ℕ) (c k : ℕ) → Left bytes rest c k → true ≡ (length rest == 0) → (all : List Item) → AreItems all → bytes ≡ items_bytes all → false ≡ list_any (is_of c k) all
none_left bytes rest c k h empty all ok e = sym (h.same all ok e ∙ none_in c k h.items (sym (ap length h.parts) ∙ nothing_left (length rest) empty))
