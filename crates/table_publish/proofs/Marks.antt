-- Lists with and without the mark, and beginnings of lists.
use Rattle.std.proofs.Common.{◌≡◌, ◌≤◌, List, [], ◌∷◌, ◌++◌, length, refl, sym, ap, ◌∙◌, arith, append-nil, append_assoc}
use mathlib.Core.List.{IsPrefix}
use Rattle.path_selection.specs.declared.changes.Change.{Change}
use Rattle.path_selection.specs.Published.{StartsWith}
use Rattle.table_publish.specs.declared.entries.Entry.{Entry}
use Rattle.table_publish.specs.declared.entries.Opened.{Opened}
use Rattle.table_publish.specs.declared.entries.Entry.TheVariants.{Open, Changes, Mark}
use Rattle.table_publish.specs.Entries.{IsSealed, LacksMark}

lacks_tail : (x : Entry) (es : List Entry) → LacksMark (x ∷ es) → LacksMark es
lacks_tail x es l front back e = l (x ∷ front) back (ap (λ y. x ∷ y) e)

-- an entry behind a list with no mark is the last one, if it is the mark
pub snoc_sealed : (es : List Entry) (e : Entry) → LacksMark es → IsSealed (es ++ e ∷ [])
snoc_sealed [] e l [] back is = sym (cc)
snoc_sealed [] e l (y ∷ []) back is = absurd (cc)
snoc_sealed [] e l (y ∷ z ∷ front) back is = absurd (cc)
snoc_sealed (x ∷ es) e l [] back is = absurd (l [] es (cc))
snoc_sealed (x ∷ es) e l (y ∷ front) back is = snoc_sealed es e (lacks_tail x es l) front back (cc)

pub snoc_lacks : (es : List Entry) (cs : List Change) → LacksMark es → LacksMark (es ++ Changes cs ∷ [])
snoc_lacks [] cs l [] back is = cc
snoc_lacks [] cs l (y ∷ []) back is = absurd (cc)
snoc_lacks [] cs l (y ∷ z ∷ front) back is = absurd (cc)
snoc_lacks (x ∷ es) cs l [] back is = l [] es (cc)
snoc_lacks (x ∷ es) cs l (y ∷ front) back is = snoc_lacks es cs (lacks_tail x es l) front back (cc)

pub opening_lacks : (o : Opened) → LacksMark (Open o ∷ [])
opening_lacks o [] back is = cc
opening_lacks o (y ∷ []) back is = cc
opening_lacks o (y ∷ z ∷ front) back is = cc

pub opening_sealed : (o : Opened) → IsSealed (Open o ∷ [])
opening_sealed o front back is = absurd (opening_lacks o front back is)

-- what begins a list that the mark ends, and lacks the mark, begins the list before it
drop_mark : (s p rest : List Entry) → s ++ rest ≡ p ++ Mark ∷ [] → LacksMark s → StartsWith p s
drop_mark [] p rest e l = (p, refl)
drop_mark (x ∷ s) [] rest e l = absurd (l [] s (cc e))
drop_mark (x ∷ s) (y ∷ p) rest e l =
    let r = drop_mark s p rest (cc e) (lacks_tail x s l) in
    (r.0, cc (e, r.1))

pub settled : (sealed both seat list : List Entry) → IsSealed both → IsPrefix sealed both → IsPrefix seat both → LacksMark seat → sealed ≡ list ++ Mark ∷ [] → StartsWith list seat
settled sealed both seat list ends p q l is =
    let shape : both ≡ list ++ Mark ∷ p.0 = sym p.1 ∙ (ap (λ x. x ++ p.0) is ∙ append_assoc list (Mark ∷ []) p.0) in
    let rest : p.0 ≡ [] = ends list p.0 shape in
    drop_mark seat list q.0 (q.1 ∙ (shape ∙ ap (λ x. list ++ Mark ∷ x) rest)) l

-- a beginning as long as the whole is the whole
pub prefix_whole : {A : Type 0} (xs ys : List A) → IsPrefix xs ys → length ys ≤ length xs → xs ≡ ys
prefix_whole [] [] p le = refl
prefix_whole [] (y ∷ ys) p le = absurd (omega arith)
prefix_whole (x ∷ xs) [] p le = absurd (cc (p.1))
prefix_whole (x ∷ xs) (y ∷ ys) p le =
    let rest = prefix_whole xs ys (p.0, cc (p.1)) (omega arith) in cc (p.1, rest)

pub whole : {A : Type 0} (all : List A) → StartsWith all all
whole all = ([], sym (append-nil all))

pub starts_trans : {A : Type 0} (z y x : List A) → StartsWith z y → StartsWith y x → StartsWith z x
starts_trans z y x g h = (h.0 ++ g.0, g.1 ∙ (ap (λ l. l ++ g.0) h.1 ∙ append_assoc x h.0 g.0))
