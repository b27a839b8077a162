-- Items read from their bytes are the items that were spelled, and the other way round.
use Rattle.std.proofs.Common.{◌≡◌, ℕ, zero, suc, ◌+◌, ◌-◌, ◌*◌, ◌%◌, ◌^◌, ◌<◌, ◌≤◌, Bool, true, false, leb, List, [], ◌∷◌, ◌++◌, length, get_or, take, drop, refl, sym, ap, subst, ◌∙◌, append_assoc, arith, inl, inr}
use Rattle.std.proofs.lemmas.List.{take_at, drop_at, take-append-drop, length-append, length-take, length-drop, append-nil, drop-drop, take_all, length-take-le, length-replicate, drop_more}
use Rattle.std.specs.Prelude.{slice_get, Some}
use borrow.Rule.Slice.PartMut.{put_mid, post_of}
use Rattle.std.proofs.lemmas.Option.{slice_get-get_or}
use Rattle.std.proofs.lemmas.List.Concat.{flat_map-append}
use Rattle.std.proofs.lemmas.Bool.{cases_lt, lt-leb, le-leb}
use Rattle.std.proofs.lemmas.List.Elements.{All-get_or, All-drop}
use Rattle.wire_base.specs.Numbers.{AreBytes}
use Rattle.nsh_headers.specs.Head.{bit}
use Rattle.nsh_metadata.specs.Item.{Item, IsItem, AreItems, pad_len, item_len, item_bytes, items_bytes, item_size, item_at, items_in, new_item, HoldsItems}

-- ---- counts

pub length-items_in : (n : ℕ) (b : List ℕ) → length (items_in n b) ≡ n
length-items_in zero b = refl
length-items_in (suc n) b = ap suc (length-items_in n (drop (item_size b) b))

pub length-item_bytes : (i : Item) → IsItem i → length (item_bytes i) ≡ item_len (length i.body)
length-item_bytes i ok = omega (arith, length-append i.body i.pad, ok.pad_fills)

-- ---- an item that was spelled is read

low7 : (s : Bool) (n : ℕ) → n < 128 → (128 * bit s + n) % 128 ≡ n
low7 true n lt = omega arith
low7 false n lt = omega arith

high1 : (s : Bool) (n : ℕ) → n < 128 → leb 128 (128 * bit s + n) ≡ s
high1 true n lt = grind arith
high1 false n lt = grind arith

pub item_size-spelled : (i : Item) (rest : List ℕ) → IsItem i → item_size (item_bytes i ++ rest) ≡ item_len (length i.body)
item_size-spelled i rest ok = ap item_len (low7 i.spare (length i.body) ok.body_fits)

-- items with the same parts are one
pub same_item : (i j : Item) → i.class ≡ j.class → i.kind ≡ j.kind → i.spare ≡ j.spare → i.body ≡ j.body → i.pad ≡ j.pad → i ≡ j
same_item i j c k s b p =
    let by_class : ℕ → Item = λ x. record { class = x; kind = i.kind; spare = i.spare; body = i.body; pad = i.pad } in
    let by_kind : ℕ → Item = λ x. record { class = j.class; kind = x; spare = i.spare; body = i.body; pad = i.pad } in
    let by_spare : Bool → Item = λ x. record { class = j.class; kind = j.kind; spare = x; body = i.body; pad = i.pad } in
    let by_body : List ℕ → Item = λ x. record { class = j.class; kind = j.kind; spare = j.spare; body = x; pad = i.pad } in
    let by_pad : List ℕ → Item = λ x. record { class = j.class; kind = j.kind; spare = j.spare; body = j.body; pad = x } in
    ap by_class c ∙ ap by_kind k ∙ ap by_spare s ∙ ap by_body b ∙ ap by_pad p

pub item_at-spelled : (i : Item) (rest : List ℕ) → IsItem i → item_at (item_bytes i ++ rest) ≡ i
item_at-spelled i rest ok =
    let low = low7 i.spare (length i.body) ok.body_fits in
    let n : ℕ = (128 * bit i.spare + length i.body) % 128 in
    same_item (item_at (item_bytes i ++ rest)) i
    (omega arith)
    refl
    (high1 i.spare (length i.body) ok.body_fits)
    (rw (low, append_assoc) (take_at i.body (i.pad ++ rest) (length i.body) refl))
    (rw (low, append_assoc, drop_at i.body (i.pad ++ rest) (length i.body) refl) (take_at i.pad rest (pad_len (length i.body)) ok.pad_fills))

pub drop-spelled : (i : Item) (rest : List ℕ) → IsItem i → drop (item_size (item_bytes i ++ rest)) (item_bytes i ++ rest) ≡ rest
drop-spelled i rest ok =
    drop_at (item_bytes i) rest (item_size (item_bytes i ++ rest)) (length-item_bytes i ok ∙ sym (item_size-spelled i rest ok))

-- what was spelled is read, whatever follows
pub items_in-spelled : (is : List Item) (rest : List ℕ) → AreItems is → items_in (length is) (items_bytes is ++ rest) ≡ is
items_in-spelled [] rest ok = refl
items_in-spelled (i ∷ is) rest ok =
    let regrouped : (item_bytes i ++ items_bytes is) ++ rest ≡ item_bytes i ++ (items_bytes is ++ rest) = append_assoc (item_bytes i) (items_bytes is) rest in
    ap (items_in (suc (length is))) regrouped
    ∙ ap (λ (j : Item). j ∷ items_in (length is) (drop (item_size (item_bytes i ++ (items_bytes is ++ rest))) (item_bytes i ++ (items_bytes is ++ rest)))) (item_at-spelled i (items_bytes is ++ rest) ok.0)
    ∙ ap (λ (b : List ℕ). i ∷ items_in (length is) b) (drop-spelled i (items_bytes is ++ rest) ok.0)
    ∙ ap (λ (js : List Item). i ∷ js) (items_in-spelled is rest ok.1)

-- the item that a view of the bytes shows
pub item_at-parts : (b : List ℕ) (class len size : ℕ) → class ≡ 256 * get_or b 0 0 + get_or b 1 0 → len ≡ get_or b 3 0 % 128 → size ≡ item_len len
    → (i : Item) → i.class ≡ class → i.kind ≡ get_or b 2 0 → i.spare ≡ leb 128 (get_or b 3 0) → i.body ≡ take (4 + len - 4) (drop 4 b) → i.pad ≡ take (size - (4 + len)) (drop (4 + len) b)
    → i ≡ item_at b
item_at-parts b class len size class-is len-is size-is i c k s body pad =
    same_item i (item_at b)
    (c ∙ class-is)
    k
    s
    (body ∙ ap (λ (n : ℕ). take n (drop 4 b)) (omega arith))
    (pad ∙ ap (λ (n : ℕ). take n (drop (4 + len) b)) (omega (arith, ap pad_len len-is)) ∙ ap (take (pad_len (get_or b 3 0 % 128))) (sym (drop-drop len 4 b) ∙ ap (λ (n : ℕ). drop n (drop 4 b)) len-is))

-- ---- an item that was read is spelled

byte_back : (x : ℕ) → x < 256 → 128 * bit (leb 128 x) + x % 128 ≡ x
byte_back x lt =
    elim (cases_lt x 128) [
      | inl small ↦ let no : leb 128 x ≡ false = lt-leb 128 x small in rw no (omega arith)
      | inr big ↦ let yes : leb 128 x ≡ true = le-leb 128 x big in rw yes (omega arith)
    ]

byte_at : (b : List ℕ) (i : ℕ) → AreBytes b → i < length b → get_or b i 0 < 256
byte_at b i fits within = All-get_or (λ c. c < 256) b i 0 within fits

-- an item whose bytes are there is one that has a spelling
pub IsItem-item_at : (b : List ℕ) → AreBytes b → 4 ≤ length b → item_size b ≤ length b → IsItem (item_at b)
IsItem-item_at b fits long whole =
    let n : ℕ = get_or b 3 0 % 128 in
    let low : n < 128 = omega arith in
    let b0 = byte_at b 0 fits (omega arith) in
    let b1 = byte_at b 1 fits (omega arith) in
    let body_len : length (take n (drop 4 b)) ≡ n = length-take-le n (drop 4 b) (omega (arith, length-drop 4 b)) in
    let pad_len_is : length (take (pad_len n) (drop n (drop 4 b))) ≡ pad_len n = length-take-le (pad_len n) (drop n (drop 4 b)) (omega (arith, length-drop 4 b, length-drop n (drop 4 b))) in
    record {
      class_fits = omega arith;
      kind_fits = byte_at b 2 fits (omega arith);
      body_fits = omega arith;
      pad_fills = pad_len_is ∙ ap pad_len (sym body_len);
    }

four : (b : List ℕ) → 4 ≤ length b → b ≡ get_or b 0 0 ∷ get_or b 1 0 ∷ get_or b 2 0 ∷ get_or b 3 0 ∷ drop 4 b
four [] long = absurd (omega arith)
four (a ∷ []) long = absurd (omega arith)
four (a ∷ b ∷ []) long = absurd (omega arith)
four (a ∷ b ∷ c ∷ []) long = absurd (omega arith)
four (a ∷ b ∷ c ∷ d ∷ rest) long = refl

cells_same : (a b c d a' b' c' d' : ℕ) (t t' : List ℕ) → a ≡ a' → b ≡ b' → c ≡ c' → d ≡ d' → t ≡ t' → a ∷ b ∷ c ∷ d ∷ t ≡ a' ∷ b' ∷ c' ∷ d' ∷ t'
cells_same a b c d a' b' c' d' t t' e0 e1 e2 e3 et = cc

pub spelled-item_at : (b : List ℕ) → AreBytes b → 4 ≤ length b → item_size b ≤ length b → item_bytes (item_at b) ++ drop (item_size b) b ≡ b
spelled-item_at b fits long whole =
    let n : ℕ = get_or b 3 0 % 128 in
    let rest : List ℕ = drop 4 b in
    let b1 = byte_at b 1 fits (omega arith) in
    let b3 = byte_at b 3 fits (omega arith) in
    let body_len : length (take n rest) ≡ n = length-take-le n rest (omega (arith, length-drop 4 b)) in
    let behind : drop (item_size b) b ≡ drop (pad_len n) (drop n rest) =
    ap (λ (k : ℕ). drop k b) (omega arith) ∙ sym (drop-drop (n + pad_len n) 4 b) ∙ sym (drop-drop (pad_len n) n rest) in
    let joined : (take n rest ++ take (pad_len n) (drop n rest)) ++ drop (item_size b) b ≡ rest =
    ap (λ (t : List ℕ). (take n rest ++ take (pad_len n) (drop n rest)) ++ t) behind
    ∙ append_assoc (take n rest) (take (pad_len n) (drop n rest)) (drop (pad_len n) (drop n rest))
    ∙ ap (λ (t : List ℕ). take n rest ++ t) (take-append-drop (pad_len n) (drop n rest))
    ∙ take-append-drop n rest in
    cells_same _ _ _ _ _ _ _ _ _ _
    (omega arith) (omega arith) refl (omega (arith, byte_back (get_or b 3 0) b3)) joined
    ∙ sym (four b long)

-- ---- lists of items

pub AreItems-append : (xs ys : List Item) → AreItems xs → AreItems ys → AreItems (xs ++ ys)
AreItems-append [] ys a b = b
AreItems-append (x ∷ xs) ys a b = (a.0, AreItems-append xs ys a.1 b)

pub AreItems-drop : (k : ℕ) (xs : List Item) → AreItems xs → AreItems (drop k xs)
AreItems-drop zero xs a = a
AreItems-drop (suc k) [] a = a
AreItems-drop (suc k) (x ∷ xs) a = AreItems-drop k xs a.1

pub items_bytes-append : (xs ys : List Item) → items_bytes (xs ++ ys) ≡ items_bytes xs ++ items_bytes ys
items_bytes-append xs ys = flat_map-append item_bytes xs ys

pub items_bytes-push : (xs : List Item) (x : Item) → items_bytes (xs ++ x ∷ []) ≡ items_bytes xs ++ item_bytes x
items_bytes-push xs x = items_bytes-append xs (x ∷ []) ∙ ap (λ (t : List ℕ). items_bytes xs ++ t) (append-nil (item_bytes x))

-- bytes that begin with the spelling of items hold them
pub read_back : (b : List ℕ) (is : List Item) (rest : List ℕ) (n : ℕ) → AreItems is → b ≡ items_bytes is ++ rest → n ≡ length is → items_in n b ≡ is
read_back b is rest n ok e n-is = ap (λ (k : ℕ). items_in k b) n-is ∙ ap (items_in (length is)) e ∙ items_in-spelled is rest ok

pub HoldsItems-from : (b : List ℕ) (is : List Item) (rest : List ℕ) (n m : ℕ) → AreItems is → b ≡ items_bytes is ++ rest → n ≡ length is → m ≡ length (items_bytes is) → HoldsItems n m b
HoldsItems-from b is rest n m ok e n-is m-is =
    let back = read_back b is rest n ok e n-is in
    let front : take m b ≡ items_bytes is = ap (take m) e ∙ take_at (items_bytes is) rest m (sym m-is) in
    record {
      spelled = ap items_bytes back ∙ sym front;
      items = subst AreItems (sym back) ok;
    }

-- one more item
pub HoldsItems-more : (n m : ℕ) (b : List ℕ) → AreBytes b → HoldsItems n m b → m ≤ length b → 4 ≤ length (drop m b) → item_size (drop m b) ≤ length (drop m b)
    → HoldsItems (n + 1) (m + item_size (drop m b)) b
HoldsItems-more n m b fits h within long whole =
    let rest : List ℕ = drop m b in
    let x : Item = item_at rest in
    let is : List Item = items_in n b in
    let rest_fits : AreBytes rest = All-drop (λ c. c < 256) m b fits in
    let x-ok = IsItem-item_at rest rest_fits long whole in
    let split : b ≡ items_bytes (is ++ x ∷ []) ++ drop (item_size rest) rest =
    sym (take-append-drop m b) ∙ ap (λ (t : List ℕ). t ++ rest) (sym h.spelled)
    ∙ ap (λ (t : List ℕ). items_bytes is ++ t) (sym (spelled-item_at rest rest_fits long whole))
    ∙ sym (append_assoc (items_bytes is) (item_bytes x) (drop (item_size rest) rest))
    ∙ ap (λ (t : List ℕ). t ++ drop (item_size rest) rest) (sym (items_bytes-push is x)) in
    HoldsItems-from b (is ++ x ∷ []) (drop (item_size rest) rest) (n + 1) (m + item_size rest)
    (AreItems-append is (x ∷ []) h.items (x-ok, tt))
    split
    (omega (arith, length-append is (x ∷ []), length-items_in n b))
    (omega (arith, ap length split, ap length h.spelled, length-take-le m b within, length-append (items_bytes (is ++ x ∷ [])) (drop (item_size rest) rest), length-drop (item_size rest) rest, length-drop m b))

-- ---- two splits of the same bytes

pub front_item : (x y : Item) (a b : List ℕ) → IsItem x → IsItem y → item_bytes x ++ a ≡ item_bytes y ++ b → (x ≡ y) × (a ≡ b)
front_item x y a b x-ok y-ok e = (
  sym (item_at-spelled x a x-ok) ∙ ap item_at e ∙ item_at-spelled y b y-ok,
  sym (drop-spelled x a x-ok) ∙ ap (λ (l : List ℕ). drop (item_size l) l) e ∙ drop-spelled y b y-ok,
)

-- ---- an item added at the end

pub count-items_bytes : (is : List Item) → 4 * length is ≤ length (items_bytes is)
count-items_bytes [] = omega arith
count-items_bytes (i ∷ is) = omega (arith, count-items_bytes is, length-append (item_bytes i) (items_bytes is))

pub IsItem-new_item : (class kind : ℕ) (body : List ℕ) → class < 2 ^ 16 → kind < 2 ^ 8 → length body < 128 → IsItem (new_item class kind body)
IsItem-new_item class kind body c k b = record { class_fits = c; kind_fits = k; body_fits = b; pad_fills = length-replicate (pad_len (length body)) 0 }

-- the bytes behind items that were overwritten by one more
pub push_split : (held : List ℕ) (n m k : ℕ) (x : Item) (written : List ℕ) → HoldsItems n m held → written ≡ item_bytes x
    → put_mid m k held written ≡ items_bytes (items_in n held ++ x ∷ []) ++ post_of m k held
push_split held n m k x written h e =
    let is : List Item = items_in n held in
    ap (λ (t : List ℕ). t ++ (written ++ post_of m k held)) (sym h.spelled)
    ∙ ap (λ (w : List ℕ). items_bytes is ++ (w ++ post_of m k held)) e
    ∙ sym (append_assoc (items_bytes is) (item_bytes x) (post_of m k held))
    ∙ ap (λ (t : List ℕ). t ++ post_of m k held) (sym (items_bytes-push is x))

pub HoldsItems-push : (held : List ℕ) (n m k size : ℕ) (x : Item) (written : List ℕ) → HoldsItems n m held → m ≤ length held → IsItem x → written ≡ item_bytes x → size ≡ item_len (length x.body)
    → HoldsItems (n + 1) (m + size) (put_mid m k held written) × (items_in (n + 1) (put_mid m k held written) ≡ items_in n held ++ x ∷ [])
HoldsItems-push held n m k size x written h within x-ok e size-is =
    let is : List Item = items_in n held in
    let split = push_split held n m k x written h e in
    let ok = AreItems-append is (x ∷ []) h.items (x-ok, tt) in
    let count : n + 1 ≡ length (is ++ x ∷ []) = omega (arith, length-append is (x ∷ []), length-items_in n held) in
    let total : m + size ≡ length (items_bytes (is ++ x ∷ [])) =
    omega (arith, ap length (items_bytes-push is x), length-append (items_bytes is) (item_bytes x), ap length h.spelled, length-take-le m held within, length-item_bytes x x-ok) in (
      HoldsItems-from (put_mid m k held written) (is ++ x ∷ []) (post_of m k held) (n + 1) (m + size) ok split count total,
      read_back (put_mid m k held written) (is ++ x ∷ []) (post_of m k held) (n + 1) ok split count,
    )

-- ---- the items one after the other

-- the bytes from the item at a place on
pub record ItemHere (items : List Item) (k : ℕ) : Type 0 where
  pub item : Item
  pub ok : IsItem item
  pub bytes : items_bytes (drop k items) ≡ item_bytes item ++ items_bytes (drop (k + 1) items)
  pub got : slice_get items k ≡ Some item

pub item_here : (items : List Item) (k : ℕ) → AreItems items → k < length items → ItemHere items k
item_here items k ok within =
    let x : Item = get_or items k (item_at []) in
    let step : drop k items ≡ x ∷ drop (k + 1) items = drop_more items k (item_at []) within in
    let both : AreItems (x ∷ drop (k + 1) items) = subst AreItems step (AreItems-drop k items ok) in
    record {
      item = x;
      ok = both.0;
      bytes = ap items_bytes step;
      got = slice_get-get_or items k (item_at []) within;
    }

pub size_here : (b : List ℕ) (i : Item) (rest : List ℕ) → IsItem i → b ≡ item_bytes i ++ rest → (item_size b ≡ item_len (length i.body)) × (item_size b ≤ length b) × (4 ≤ length b) × (drop (item_size b) b ≡ rest) × (item_at b ≡ i)
size_here b i rest ok e =
    let size = ap item_size e ∙ item_size-spelled i rest ok in
    let len = ap length e ∙ length-append (item_bytes i) rest in
    (size, omega (arith, length-item_bytes i ok), omega (arith, length-item_bytes i ok), ap (λ (l : List ℕ). drop (item_size l) l) e ∙ drop-spelled i rest ok, ap item_at e ∙ item_at-spelled i rest ok)

-- items fill whole words
item_words : (i : Item) → IsItem i → length (item_bytes i) % 4 ≡ 0
item_words i ok = omega (arith, length-item_bytes i ok)

pub items_words : (is : List Item) → AreItems is → length (items_bytes is) % 4 ≡ 0
items_words [] ok = refl
items_words (i ∷ is) ok = omega (arith, item_words i ok.0, items_words is ok.1, length-append (item_bytes i) (items_bytes is))

-- ---- items taken from bytes that hold them

pub HoldsItems-take : (n m : ℕ) (b : List ℕ) → HoldsItems n m b → m ≤ length b → HoldsItems n (length (take m b)) (take m b) × (items_in n (take m b) ≡ items_in n b)
HoldsItems-take n m b h within =
    let e : take m b ≡ items_bytes (items_in n b) ++ [] = sym h.spelled ∙ sym (append-nil (items_bytes (items_in n b))) in
    let len : n ≡ length (items_in n b) = sym (length-items_in n b) in (
      HoldsItems-from (take m b) (items_in n b) [] n (length (take m b)) h.items e len (ap length (sym h.spelled)),
      read_back (take m b) (items_in n b) [] n h.items e len,
    )

held_split : (b written rest : List ℕ) (n : ℕ) → written ≡ b → HoldsItems n (length b) b → written ++ rest ≡ items_bytes (items_in n b) ++ rest
held_split b written rest n e h = ap (λ (t : List ℕ). t ++ rest) (e ∙ sym (take_all (length b) b (omega arith)) ∙ sym h.spelled)

pub HoldsItems-copied : (b written rest : List ℕ) (n : ℕ) → written ≡ b → HoldsItems n (length b) b → HoldsItems n (length b) (written ++ rest)
HoldsItems-copied b written rest n e h =
    HoldsItems-from (written ++ rest) (items_in n b) rest n (length b) h.items (held_split b written rest n e h) (sym (length-items_in n b))
    (omega (arith, ap length h.spelled, length-take (length b) b))

pub items_in-copied : (b written rest : List ℕ) (n : ℕ) → written ≡ b → HoldsItems n (length b) b → items_in n (written ++ rest) ≡ items_in n b
items_in-copied b written rest n e h =
    read_back (written ++ rest) (items_in n b) rest n h.items (held_split b written rest n e h) (sym (length-items_in n b))
