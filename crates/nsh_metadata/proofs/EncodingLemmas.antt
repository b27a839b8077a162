-- What is written spells the header, and a header has one spelling.
use Rattle.std.proofs.Common.{◌≡◌, ℕ, ◌+◌, ◌-◌, ◌*◌, ◌<◌, ◌≤◌, List, ◌++◌, length, drop, take, refl, sym, ap, subst, ◌∙◌, arith, inl, inr}
use Rattle.std.proofs.lemmas.List.{take-append-drop, length-append, length-take-le, take_at, drop_at, drop-drop}
use Rattle.std.proofs.lemmas.List.Elements.{All-take}
use Rattle.wire_base.specs.Numbers.{AreBytes}
use Rattle.nsh_headers.specs.declared.heads.NshHead.{NshHead}
use Rattle.nsh_headers.specs.Head.{IsHead, IsSized}
use Rattle.nsh_headers.proofs.HeadLemmas.{same_front}
use Rattle.nsh_metadata.specs.declared.contexts.Context.{Context}
use Rattle.nsh_metadata.specs.declared.contexts.Context.TheVariants.{Fixed16, Items}
use Rattle.nsh_metadata.specs.Header.{Header, IsContext, BeginsWith, HasSpelling, context_bytes, md_of}
use Rattle.nsh_metadata.proofs.HeaderLemmas.{IsHead-take, IsHead-from_take, drop_take}

context_is : (c : List ℕ) (md : ℕ) (x : Context) → IsContext c md x → c ≡ context_bytes x
context_is c md (Fixed16 bytes) h = h.2
context_is c md (Items items) h = h.2

sized_from : (h : NshHead) (x : Context) (c : List ℕ) → HasSpelling h x → IsContext c (md_of x) x → IsSized h.base.md h.base.words
sized_from h (Fixed16 bytes) c s is = inl (s.md, omega (arith, s.words, is.1))
sized_from h (Items items) c s is = inr (s.md, omega (arith, s.words))

-- the head and the context, one behind the other
pub encoded : (head context tail : List ℕ) (h : Header) → length head ≡ 8 → IsHead head h.head → HasSpelling h.head h.context → IsContext context (md_of h.context) h.context
    → BeginsWith (head ++ (context ++ tail)) h (8 + length context)
encoded head context tail h eight front s is =
    let whole : List ℕ = head ++ (context ++ tail) in
    let size : 8 + length context ≡ 4 * h.head.base.words = omega (arith, s.words, ap length (context_is context (md_of h.context) h.context is)) in
    let within : 8 + length context ≤ length whole = omega (arith, length-append head (context ++ tail), length-append context tail) in
    let in_whole : IsHead whole h.head = IsHead-from_take whole 8 h.head (subst (λ (b : List ℕ). IsHead b h.head) (sym (take_at head (context ++ tail) 8 eight)) front) in
    let behind : drop 8 (take (8 + length context) whole) ≡ context =
    drop_take 8 (8 + length context) whole (omega arith) ∙ ap (take (8 + length context - 8)) (drop_at head (context ++ tail) 8 eight) ∙ take_at context tail (8 + length context - 8) (omega arith) in
    record {
      within = within;
      spelled = record {
        front = IsHead-take whole (8 + length context) h.head (omega arith) in_whole;
        size = length-take-le (8 + length context) whole within ∙ size;
        sized = sized_from h.head h.context context s is;
        behind = subst (λ (b : List ℕ). IsContext b h.head.base.md h.context) (sym behind) (subst (λ (n : ℕ). IsContext context n h.context) (sym s.md) is);
      };
    }

pub encoded_behind : (head context tail old : List ℕ) → length head ≡ 8 → tail ≡ drop (length context) (drop 8 old) → drop (8 + length context) (head ++ (context ++ tail)) ≡ drop (8 + length context) old
encoded_behind head context tail old eight tail-is =
    sym (drop-drop (length context) 8 (head ++ (context ++ tail))) ∙ ap (drop (length context)) (drop_at head (context ++ tail) 8 eight)
    ∙ drop_at context tail (length context) refl ∙ tail-is ∙ drop-drop (length context) 8 old

-- ---- one spelling

same_behind : (x y : List ℕ) (md : ℕ) (c : Context) → IsContext x md c → IsContext y md c → x ≡ y
same_behind x y md c p q = context_is x md c p ∙ sym (context_is y md c q)

pub same_spelling : (a b : List ℕ) (h : Header) (n m : ℕ) → AreBytes a → AreBytes b → BeginsWith a h n → BeginsWith b h m → take n a ≡ take m b
same_spelling a b h n m fits_a fits_b p q =
    let front = same_front (take n a) (take m b) h.head (All-take (λ c. c < 256) n a fits_a) (All-take (λ c. c < 256) m b fits_b) p.spelled.front q.spelled.front in
    let behind = same_behind (drop 8 (take n a)) (drop 8 (take m b)) h.head.base.md h.context p.spelled.behind q.spelled.behind in
    sym (take-append-drop 8 (take n a)) ∙ ap (λ (t : List ℕ). t ++ drop 8 (take n a)) front ∙ ap (λ (t : List ℕ). take 8 (take m b) ++ t) behind ∙ take-append-drop 8 (take m b)
