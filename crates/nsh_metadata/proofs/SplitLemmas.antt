-- Two splits of the same bytes into whole items and a rest: they agree, or one is ahead of the other by an item.
use Rattle.std.proofs.Common.{◌≡◌, ℕ, ◌+◌, ◌≤◌, List, [], ◌∷◌, ◌++◌, length, drop, refl, sym, ap, subst, ◌∙◌, append_assoc, arith, inl, inr, ◌⊎◌}
use Rattle.std.proofs.lemmas.List.{take-append-drop, length-append, length-take-le}
use Rattle.nsh_metadata.specs.Item.{Item, IsItem, AreItems, item_bytes, items_bytes, item_size, items_in, HoldsItems}
use Rattle.nsh_metadata.proofs.ItemLemmas.{front_item, length-item_bytes, item_size-spelled}

-- Behind the first split's items a whole item stands, which is one of the second's.
pub record Ahead (xs ys : List Item) (a : List ℕ) : Type 0 where
  pub long : 4 ≤ length a
  pub whole : item_size a ≤ length a
  pub inside : length (items_bytes xs) + item_size a ≤ length (items_bytes ys)

-- the splits are one
pub record Same (xs ys : List Item) (a b : List ℕ) : Type 0 where
  pub items : xs ≡ ys
  pub rests : a ≡ b

ahead_nil : (y : Item) (ys : List Item) (a b : List ℕ) → IsItem y → a ≡ (item_bytes y ++ items_bytes ys) ++ b → Ahead [] (y ∷ ys) a
ahead_nil y ys a b ok e =
    let regrouped : a ≡ item_bytes y ++ (items_bytes ys ++ b) = e ∙ append_assoc (item_bytes y) (items_bytes ys) b in
    let size = ap item_size regrouped ∙ item_size-spelled y (items_bytes ys ++ b) ok in
    let len = ap length regrouped ∙ length-append (item_bytes y) (items_bytes ys ++ b) in
    let item = length-item_bytes y ok in
    record {
      long = omega arith;
      whole = omega arith;
      inside = omega (arith, length-append (item_bytes y) (items_bytes ys));
    }

ahead_cons : (x : Item) (xs ys : List Item) (a : List ℕ) → Ahead xs ys a → Ahead (x ∷ xs) (x ∷ ys) a
ahead_cons x xs ys a h =
    record {
      long = h.long;
      whole = h.whole;
      inside = omega (arith, h.inside, length-append (item_bytes x) (items_bytes xs), length-append (item_bytes x) (items_bytes ys));
    }

pub compare_splits : (xs ys : List Item) (a b : List ℕ) → AreItems xs → AreItems ys → items_bytes xs ++ a ≡ items_bytes ys ++ b → Same xs ys a b ⊎ (Ahead xs ys a ⊎ Ahead ys xs b)
compare_splits [] [] a b xs-ok ys-ok e = inl (record { items = refl; rests = e })
compare_splits [] (y ∷ ys) a b xs-ok ys-ok e = inr (inl (ahead_nil y ys a b ys-ok.0 e))
compare_splits (x ∷ xs) [] a b xs-ok ys-ok e = inr (inr (ahead_nil x xs b a xs-ok.0 (sym e)))
compare_splits (x ∷ xs) (y ∷ ys) a b xs-ok ys-ok e =
    let regrouped : item_bytes x ++ (items_bytes xs ++ a) ≡ item_bytes y ++ (items_bytes ys ++ b) =
    sym (append_assoc (item_bytes x) (items_bytes xs) a) ∙ e ∙ append_assoc (item_bytes y) (items_bytes ys) b in
    let both = front_item x y (items_bytes xs ++ a) (items_bytes ys ++ b) xs-ok.0 ys-ok.0 regrouped in
    elim (compare_splits xs ys a b xs-ok.1 ys-ok.1 both.1) [
      | inl s ↦ inl (record { items = ap (λ (t : List Item). x ∷ t) s.items ∙ ap (λ (z : Item). z ∷ ys) both.0; rests = s.rests })
      | inr o ↦ elim o [
        | inl h ↦ inr (inl (subst (λ (z : Item). Ahead (x ∷ xs) (z ∷ ys) a) both.0 (ahead_cons x xs ys a h)))
        | inr h ↦ inr (inr (subst (λ (z : Item). Ahead (z ∷ ys) (x ∷ xs) b) both.0 (ahead_cons x ys xs b h)))
      ]
    ]

-- bytes that hold items are those items and the rest
pub record Split (b : List ℕ) (items : List Item) (place : ℕ) (rest : List ℕ) : Type 0 where
  pub whole : AreItems items
  pub parts : b ≡ items_bytes items ++ rest
  pub ends : length (items_bytes items) ≡ place

pub Split-from_holds : (b : List ℕ) (n m : ℕ) → HoldsItems n m b → m ≤ length b → Split b (items_in n b) m (drop m b)
Split-from_holds b n m h within =
    record {
      whole = h.items;
      parts = sym (take-append-drop m b) ∙ ap (λ (t : List ℕ). t ++ drop m b) (sym h.spelled);
      ends = ap length h.spelled ∙ length-take-le m b within;
    }

pub compare : (b : List ℕ) (xs ys : List Item) (m n : ℕ) (a c : List ℕ) → Split b xs m a → Split b ys n c → Same xs ys a c ⊎ (Ahead xs ys a ⊎ Ahead ys xs c)
compare b xs ys m n a c p q = compare_splits xs ys a c p.whole q.whole (sym p.parts ∙ q.parts)
