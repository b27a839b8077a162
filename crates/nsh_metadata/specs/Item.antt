-- A context item of MD Type 2 and its spelling (RFC 8300, section 2.5.1).
use Rattle.std.specs.Prelude.{◌≡◌, ℕ, zero, suc, ◌+◌, ◌-◌, ◌*◌, ◌/◌, ◌%◌, ◌^◌, ◌<◌, Bool, false, nat_le, List, [], ◌∷◌, ◌++◌, length, take, drop, slice_index, replicate}
use Rattle.std.specs.List.{flat_map, AllByRecursion}
use Rattle.nsh_headers.specs.Head.{bit}

-- an item: its metadata class and type, the unassigned bit, the body and the pad bytes behind it
pub record Item : Type 0 where
  pub class : ℕ
  pub kind : ℕ
  pub spare : Bool
  pub body : List ℕ
  pub pad : List ℕ

-- the pad bytes that bring a body of n bytes to a multiple of 4
abbrev pub pad_len : ℕ → ℕ
pad_len n = (4 - n % 4) % 4

-- the bytes of an item whose body has n bytes
abbrev pub item_len : ℕ → ℕ
item_len n = 4 + n + pad_len n

-- what has a spelling; pad bytes are of any content
pub record IsItem (i : Item) : Type 0 where
  pub class_fits : i.class < 2 ^ 16
  pub kind_fits : i.kind < 2 ^ 8
  pub body_fits : length i.body < 128
  pub pad_fills : length i.pad ≡ pad_len (length i.body)

-- class in 2 bytes, type in one, the unassigned bit and 7 bits of length in one, body, pad
abbrev pub item_bytes : Item → List ℕ
item_bytes i = i.class / 256 ∷ i.class % 256 ∷ i.kind ∷ (128 * bit i.spare + length i.body) ∷ (i.body ++ i.pad)

abbrev pub AreItems : List Item → Type 0
AreItems items = AllByRecursion IsItem items

-- the joined spellings of items, in order
abbrev pub items_bytes : List Item → List ℕ
items_bytes items = flat_map item_bytes items

-- an item that this product makes: a clear unassigned bit and pad bytes 0
abbrev pub new_item : ℕ → ℕ → List ℕ → Item
new_item c k bytes = record { class = c; kind = k; spare = false; body = bytes; pad = replicate (pad_len (length bytes)) 0 }

-- the bytes that the item at the front takes, by its length field, and the item
abbrev pub item_size : List ℕ → ℕ
item_size b = item_len (slice_index b 3 % 128)

abbrev pub item_at : List ℕ → Item
item_at b = record {
  class = 256 * slice_index b 0 + slice_index b 1;
  kind = slice_index b 2;
  spare = nat_le 128 (slice_index b 3);
  body = take (slice_index b 3 % 128) (drop 4 b);
  pad = take (pad_len (slice_index b 3 % 128)) (drop (slice_index b 3 % 128) (drop 4 b));
}

-- the first n items of the bytes
abbrev pub items_in : ℕ → List ℕ → List Item
items_in zero b = []
items_in (suc n) b = item_at b ∷ items_in n (drop (item_size b) b)

-- Bytes that hold n items in their first m: what an ItemList keeps of its fields.
pub record HoldsItems (n m : ℕ) (b : List ℕ) : Type 0 where
  pub spelled : items_bytes (items_in n b) ≡ take m b
  pub items : AreItems (items_in n b)
