-- Changes of a header: another context of its MD Type, and another service index (RFC 8300, sections 2.3 to 2.5).
use Rattle.std.specs.Prelude.{◌≡◌, ℕ, ◌+◌, ◌/◌, ◌<◌, ◌==◌, ◌&&◌, Bool, false, Result, Ok, Err, List, [], ◌∷◌, ◌++◌, length, replicate}
use Rattle.std.specs.List.{list_any}
use Rattle.nsh_headers.specs.Edit.{with_words, with_si}
use Rattle.nsh_metadata.specs.Item.{Item, item_len, items_bytes, new_item}
use Rattle.nsh_metadata.specs.Header.{Header, BeginsWith, context_bytes}
use Rattle.nsh_metadata.specs.declared.contexts.Context.{Context}
use Rattle.nsh_metadata.specs.declared.contexts.Context.TheVariants.{Fixed16, Items}
use Rattle.nsh_metadata.specs.declared.contexts.ItemFault.{ItemFault}
use Rattle.nsh_metadata.specs.declared.contexts.ItemFault.TheVariants.{NoItems, Full}

-- an item of this metadata class and type
abbrev pub is_of : ℕ → ℕ → Item → Bool
is_of c k item = item.class == c && item.kind == k

-- the context has such an item; the 16 bytes of MD Type 1 have none
abbrev pub has_item : Context → ℕ → ℕ → Bool
has_item (Fixed16 bytes) c k = false
has_item (Items items) c k = list_any (is_of c k) items

-- why the context takes no further item with n bytes of body: it has 16 fixed bytes, or its items would pass 244 bytes
abbrev pub Lacks : Context → ℕ → ItemFault → Type 0
Lacks (Fixed16 bytes) n fault = fault ≡ NoItems
Lacks (Items items) n fault = (fault ≡ Full) × (244 < length (items_bytes items) + item_len n)

-- the context with one more item at its end; 16 fixed bytes stay
abbrev pub with_item : Context → ℕ → ℕ → List ℕ → Context
with_item (Fixed16 bytes) c k body = Fixed16 bytes
with_item (Items items) c k body = Items (items ++ new_item c k body ∷ [])

-- an item is added at the end, or the context lacks what it takes and stays
abbrev pub Pushes : Context → ℕ → ℕ → List ℕ → Result (Unit {0}) ItemFault → Context → Type 0
Pushes old c k body (Ok done) new = ((fault : ItemFault) → Lacks old (length body) fault → ⊥) × (new ≡ with_item old c k body)
Pushes old c k body (Err fault) new = Lacks old (length body) fault × (new ≡ old)

-- the context with nothing in it: 16 bytes 0, or no items
abbrev pub cleared : Context → Context
cleared (Fixed16 bytes) = Fixed16 (replicate 16 0)
cleared (Items items) = Items []

-- the header with another context of its MD Type, which its Length counts; all else stays
abbrev pub with_context : Header → Context → Header
with_context h c = record { head = with_words h.head (2 + length (context_bytes c) / 4); context = c }

-- an item is added to a header at the end of its context, or the context lacks what it takes and the header stays
abbrev pub PushesIn : Header → ℕ → ℕ → List ℕ → Result (Unit {0}) ItemFault → Header → Type 0
PushesIn old c k body (Ok done) new =
    ((fault : ItemFault) → Lacks old.context (length body) fault → ⊥) × (new ≡ with_context old (with_item old.context c k body))
PushesIn old c k body (Err fault) new = Lacks old.context (length body) fault × (new ≡ old)

-- the same where the header lies: the bytes begin with the new one, of so many bytes, or stay
abbrev pub PushesAt : List ℕ → Header → ℕ → ℕ → List ℕ → Result ℕ ItemFault → List ℕ → Type 0
PushesAt old h c k body (Ok n) new =
    ((fault : ItemFault) → Lacks h.context (length body) fault → ⊥) × BeginsWith new (with_context h (with_item h.context c k body)) n
PushesAt old h c k body (Err fault) new = Lacks h.context (length body) fault × (new ≡ old)

-- the header with another service index
abbrev pub with_index : Header → ℕ → Header
with_index h si = record h { head = with_si h.head si }
