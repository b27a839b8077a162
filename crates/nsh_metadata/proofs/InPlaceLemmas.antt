-- A header where it lies, whose context is changed.
use Rattle.std.proofs.Common.{◌≡◌, ◌≢◌, ℕ, ◌+◌, ◌-◌, ◌*◌, ◌/◌, ◌%◌, ◌^◌, ◌<◌, ◌≤◌, ◌==◌, true, false, List, [], ◌∷◌, ◌++◌, length, drop, take, set, replicate, refl, sym, ap, subst, ◌∙◌, append_assoc, arith}
use Rattle.std.proofs.lemmas.List.{take-append-drop, length-append, length-take-le, drop_at, drop-set-lt, length-drop, drop-append-le}
use Rattle.std.proofs.lemmas.Slice.{take-put_mid_below}
use borrow.Rule.Slice.PartMut.{put_mid, post_of}
use Rattle.nsh_headers.specs.declared.heads.NshHead.{NshHead}
use Rattle.nsh_headers.specs.Head.{IsHead}
use Rattle.nsh_headers.specs.Edit.{with_words}
use Rattle.nsh_headers.specs.Refusal.{md_in}
use Rattle.nsh_metadata.specs.declared.contexts.Context.{Context}
use Rattle.nsh_metadata.specs.declared.contexts.Context.TheVariants.{Fixed16, Items}
use Rattle.nsh_metadata.specs.declared.contexts.ItemFault.{ItemFault}
use Rattle.nsh_metadata.specs.Item.{Item, IsItem, AreItems, item_len, item_bytes, items_bytes, new_item}
use Rattle.nsh_metadata.specs.Header.{Header, IsContext, BeginsWith, HasSpelling, md_of}
use Rattle.nsh_metadata.specs.Changes.{Lacks, with_item, cleared, with_context}
use Rattle.nsh_metadata.proofs.ItemLemmas.{length-item_bytes, items_words, items_bytes-push, AreItems-append, IsItem-new_item}
use Rattle.nsh_metadata.proofs.HeaderLemmas.{IsHead-take, IsHead-from_take, shows, begins_head, begins_size, begins_long}
use Rattle.nsh_metadata.proofs.EncodingLemmas.{encoded}

abbrev header : NshHead → Context → Header
header head context = record { head = head; context = context }

-- bytes whose front is the head, with the context behind it
spelled_again : (b : List ℕ) (head : NshHead) (context : Context) (bytes tail : List ℕ) → IsHead b head → HasSpelling head context → IsContext bytes (md_of context) context
    → drop 8 b ≡ bytes ++ tail → BeginsWith b (record { head = head; context = context }) (8 + length bytes)
spelled_again b head context bytes tail front s is behind =
    let h : Header = record { head = head; context = context } in
    let whole : take 8 b ++ (bytes ++ tail) ≡ b = ap (λ (t : List ℕ). take 8 b ++ t) (sym behind) ∙ take-append-drop 8 b in
    let eight : length (take 8 b) ≡ 8 = length-take-le 8 b front.long in
    subst (λ (t : List ℕ). BeginsWith t h (8 + length bytes)) whole (encoded (take 8 b) bytes tail h eight (IsHead-take b 8 head (omega arith) front) s is)

-- ---- the context of a header that begins the bytes

-- the MD Type is told by the third byte
md_is : (b : List ℕ) (head : NshHead) (context : Context) (n : ℕ) → BeginsWith b (record { head = head; context = context }) n → md_in b ≡ md_of context
md_is b head (Fixed16 bytes) n w = (shows b head (begins_head b _ n w)).md ∙ w.spelled.behind.0
md_is b head (Items items) n w = (shows b head (begins_head b _ n w)).md ∙ w.spelled.behind.0

two : (n : ℕ) → true ≡ (n == 2) → n ≡ 2
two n e = grind arith

not_two : (n : ℕ) → false ≡ (n == 2) → n ≢ 2
not_two n e = grind arith

-- ---- clearing

pub cleared_items : (b new : List ℕ) (head : NshHead) (context : Context) (n : ℕ) → BeginsWith b (record { head = head; context = context }) n → true ≡ (md_in b == 2)
    → IsHead new (with_words head 2) → BeginsWith new (with_context (record { head = head; context = context }) (cleared context)) 8
cleared_items b new head (Fixed16 bytes) n w md front = absurd (omega (arith, two (md_in b) md, md_is b head (Fixed16 bytes) n w))
cleared_items b new head (Items items) n w md front =
    spelled_again new (with_words head 2) (Items []) [] (drop 8 new) front
    (record { ranges = front.fits; md = w.spelled.behind.0; words = refl })
    (refl, tt, refl)
    refl

-- a head is that of bytes with the same first 8
same_head_front : (b c : List ℕ) (head : NshHead) → take 8 c ≡ take 8 b → IsHead b head → IsHead c head
same_head_front b c head e front =
    IsHead-from_take c 8 head (subst (λ (t : List ℕ). IsHead t head) (sym e) (IsHead-take b 8 head (omega arith) front))

pub cleared_bytes : (b written : List ℕ) (head : NshHead) (context : Context) (n : ℕ) → BeginsWith b (record { head = head; context = context }) n → false ≡ (md_in b == 2)
    → written ≡ replicate (length (take 16 (drop 8 b))) 0 → BeginsWith (put_mid 8 16 b written) (with_context (record { head = head; context = context }) (cleared context)) 24
cleared_bytes b written head (Items items) n w md zeros = absurd (not_two (md_in b) md (md_is b head (Items items) n w))
cleared_bytes b written head (Fixed16 bytes) n w md zeros =
    let new : List ℕ = put_mid 8 16 b written in
    let nought : List ℕ = replicate 16 0 in
    let size : n ≡ 4 * head.base.words = begins_size b (header head (Fixed16 bytes)) n w in
    let whole : n ≡ 24 = omega (arith, w.spelled.behind.1, ap length w.spelled.behind.2, length-drop 8 (take n b), length-take-le n b w.within, begins_long b (header head (Fixed16 bytes)) n w) in
    let within : n ≤ length b = w.within in
    let sixteen : length (take 16 (drop 8 b)) ≡ 16 = length-take-le 16 (drop 8 b) (omega (arith, length-drop 8 b)) in
    let zero_bytes : written ≡ nought = zeros ∙ ap (λ (k : ℕ). replicate k 0) sixteen in
    let eight : length (take 8 b) ≡ 8 = length-take-le 8 b (omega arith) in
    let behind : drop 8 new ≡ nought ++ post_of 8 16 b = drop_at (take 8 b) (written ++ post_of 8 16 b) 8 eight ∙ ap (λ (t : List ℕ). t ++ post_of 8 16 b) zero_bytes in
    let six : head.base.words ≡ 6 = omega arith in
    let front : IsHead new head = same_head_front b new head (take-put_mid_below 8 16 b written 8 (omega arith) (omega arith)) (begins_head b (header head (Fixed16 bytes)) n w) in
    let counted : IsHead new (with_words head 6) = subst (λ (k : ℕ). IsHead new (with_words head k)) six front in
    spelled_again new (with_words head 6) (Fixed16 nought) nought (post_of 8 16 b) counted
    (record { ranges = counted.fits; md = w.spelled.behind.0; words = refl })
    (refl, refl, refl)
    behind

-- ---- one item more

pub pushed : (b mid new : List ℕ) (head : NshHead) (context : Context) (n class kind words : ℕ) (body written : List ℕ)
    → BeginsWith b (record { head = head; context = context }) n → true ≡ (md_in b == 2)
    → class < 2 ^ 16 → kind < 2 ^ 8 → length body < 128
    → written ≡ item_bytes (new_item class kind body)
    → n + item_len (length body) ≤ 252 → words ≡ (n + item_len (length body)) / 4
    → mid ≡ put_mid n (item_len (length body)) b written
    → (v : ℕ) → new ≡ set mid 1 v
    → ((k : NshHead) → IsHead mid k → IsHead new (with_words k words))
    → ((fault : ItemFault) → Lacks context (length body) fault → ⊥) × BeginsWith new (with_context (record { head = head; context = context }) (with_item context class kind body)) (n + item_len (length body))
pushed b mid new head (Fixed16 bytes) n class kind words body written w md c-ok k-ok b-ok wr room words-is mid-is v new-is front = absurd (omega (arith, two (md_in b) md, md_is b head (Fixed16 bytes) n w))
pushed b mid new head (Items items) n class kind words body written w md c-ok k-ok b-ok wr room words-is mid-is v new-is front =
    let x : Item = new_item class kind body in
    let all : List Item = items ++ x ∷ [] in
    let x-ok : IsItem x = IsItem-new_item class kind body c-ok k-ok b-ok in
    let k : ℕ = item_len (length body) in
    let tail : List ℕ = post_of n k b in
    let len-x : length (item_bytes x) ≡ k = length-item_bytes x x-ok in
    let long : 8 ≤ n = begins_long b (header head (Items items)) n w in
    let within : n ≤ length b = w.within in
    let taken : length (take n b) ≡ n = length-take-le n b within in
    let before : n - 8 ≡ length (items_bytes items) = omega (arith, ap length w.spelled.behind.2, length-drop 8 (take n b)) in
    let bytes-all : items_bytes all ≡ items_bytes items ++ item_bytes x = items_bytes-push items x in
    let len-all : length (items_bytes all) ≡ (n - 8) + k = ap length bytes-all ∙ length-append (items_bytes items) (item_bytes x) ∙ omega arith in
    let ok-all : AreItems all = AreItems-append items (x ∷ []) w.spelled.behind.1 (x-ok, tt) in
    let fills : length (items_bytes all) % 4 ≡ 0 = items_words all ok-all in
    let behind_mid : drop 8 mid ≡ items_bytes all ++ tail =
    ap (drop 8) mid-is ∙ drop-append-le 8 (take n b) (written ++ tail) (omega arith)
    ∙ ap (λ (t : List ℕ). t ++ (written ++ tail)) w.spelled.behind.2
    ∙ ap (λ (t : List ℕ). items_bytes items ++ (t ++ tail)) wr
    ∙ sym (append_assoc (items_bytes items) (item_bytes x) tail)
    ∙ ap (λ (t : List ℕ). t ++ tail) (sym bytes-all) in
    let behind : drop 8 new ≡ items_bytes all ++ tail = ap (drop 8) new-is ∙ drop-set-lt 8 mid 1 v (omega arith) ∙ behind_mid in
    let same : take 8 mid ≡ take 8 b = ap (take 8) mid-is ∙ take-put_mid_below n k b written 8 long within in
    let counted : IsHead new (with_words head words) = front head (same_head_front b mid head same (begins_head b (header head (Items items)) n w)) in
    let words-all : words ≡ 2 + length (items_bytes all) / 4 = omega arith in
    let again : IsHead new (with_words head (2 + length (items_bytes all) / 4)) = subst (λ (m : ℕ). IsHead new (with_words head m)) words-all counted in
    let end : 8 + length (items_bytes all) ≡ n + k = omega arith in (
      λ fault lacks. omega (arith, lacks.1),
      subst (λ (m : ℕ). BeginsWith new (with_context (header head (Items items)) (Items all)) m) end
          (spelled_again new (with_words head (2 + length (items_bytes all) / 4)) (Items all) (items_bytes all) tail again
          (record { ranges = again.fits; md = w.spelled.behind.0; words = omega arith })
          (refl, ok-all, refl)
          behind),
    )
