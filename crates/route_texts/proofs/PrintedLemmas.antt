-- A line that spells a route is the text that is printed of it: a text cut at its marks is the pieces joined by them.
use Rattle.std.proofs.Common.{◌≡◌, ℕ, List, [], ◌∷◌, ◌++◌, refl, sym, ap, subst, ◌∙◌, append_assoc, inl, inr}
use Rattle.std.specs.Prelude.{map, codes}
use Rattle.std.specs.List.{join_with_byte, flat_map}
use Rattle.std.specs.Fmt.{decimal}
use Rattle.std.proofs.lemmas.List.{append-nil}
use Rattle.std.proofs.lemmas.List.Splits.{join_with_byte-slice_split}
use Rattle.std.proofs.lemmas.Grind.{flat_map-append}
use Rattle.text_words.specs.Hexadecimal.{hexadecimal}
use Rattle.text_words.specs.Addresses.{address_text}
use Rattle.text_words.specs.Pieces.{pieces_of}
use Rattle.text_words.proofs.PieceLemmas.{pieces-some}
use Rattle.sfp_attribute.specs.declared.sfps.HopPart.{HopPart}
use Rattle.sfp_attribute.specs.declared.sfps.Part.{Part}
use Rattle.sfc_routes.specs.declared.routes.Route.{Route}
use Rattle.route_texts.specs.RouteLines.{Each, SpellsRd, SpellsRds, SpellsTarget, SpellsTargets, SpellsSft, SpellsHop, SpellsRoute}
use Rattle.route_texts.specs.RouteTexts.{Runs, ended, IsRoutes}
use Rattle.route_texts.specs.Printed.{digits_text, targets_text, sft_text, sfts_text, hop_text, line_text, routes_text}

-- a text is its pieces, joined by the mark
joined : (mark : ℕ) (text : List ℕ) (ps : List (List ℕ)) → pieces_of mark text ≡ ps → text ≡ join_with_byte mark ps
unfolding pieces_of
joined mark text ps cut = sym (join_with_byte-slice_split mark text) ∙ ap (join_with_byte mark) cut

each_text : {V : Type 0} (Spells : List ℕ → V → Type 0) (print : V → List ℕ) → ((p : List ℕ) (v : V) → Spells p v → p ≡ print v) → (ps : List (List ℕ)) (vs : List V)
    → Each Spells ps vs → ps ≡ map print vs
each_text Spells print is [] [] each = refl
each_text Spells print is [] (v ∷ vs) each = absurd each
each_text Spells print is (p ∷ ps) [] each = absurd each
each_text Spells print is (p ∷ ps) (v ∷ vs) each =
    let head : p ≡ print v = is p v each.0 in
    let tail : ps ≡ map print vs = each_text Spells print is ps vs each.1 in
    ap (λ (q : List ℕ). q ∷ ps) head ∙ ap (λ (qs : List (List ℕ)). print v ∷ qs) tail

rds_are : (word : List ℕ) (rds : List (List ℕ)) → SpellsRds word rds → word ≡ digits_text rds
rds_are word rds (inl none) = none.0 ∙ sym (ap digits_text none.1)
rds_are word rds (inr some) = joined 44 word (map hexadecimal rds) (each_text SpellsRd hexadecimal (λ p v s. s.1) (pieces_of 44 word) rds some.1)

some_targets_are : (word : List ℕ) (ts : List (List ℕ)) → Each SpellsTarget (pieces_of 44 word) ts → word ≡ targets_text ts
some_targets_are word [] each = absurd (pieces-some 44 word (each_text SpellsTarget hexadecimal (λ p v s. s.spelled) (pieces_of 44 word) [] each))
some_targets_are word (t ∷ ts) each = joined 44 word (map hexadecimal (t ∷ ts)) (each_text SpellsTarget hexadecimal (λ p v s. s.spelled) (pieces_of 44 word) (t ∷ ts) each)

targets_are : (word : List ℕ) (ts : List (List ℕ)) → SpellsTargets word ts → word ≡ targets_text ts
targets_are word ts (inl none) = none.0 ∙ sym (ap targets_text none.1)
targets_are word ts (inr some) = some_targets_are word ts some.1

sft_is : (word : List ℕ) (p : HopPart) → SpellsSft word p → word ≡ sft_text p
sft_is word p s =
    joined 58 word (decimal s.kind ∷ s.list ∷ []) s.cut
    ∙ ap (λ (l : List ℕ). decimal s.kind ++ 58 ∷ l) (rds_are s.list s.rds s.listed)
    ∙ sym (ap sft_text s.is)

hop_is : (word : List ℕ) (p : Part) → SpellsHop word p → word ≡ hop_text p
hop_is word p s =
    let inside : s.list ≡ sfts_text s.inside = joined 59 s.list (map sft_text s.inside) (each_text SpellsSft sft_text sft_is (pieces_of 59 s.list) s.inside s.listed) in
    joined 61 word (decimal s.si ∷ s.list ∷ []) s.cut
    ∙ ap (λ (l : List ℕ). decimal s.si ++ 61 ∷ l) inside
    ∙ sym (ap hop_text s.is)

line_is : (line : List ℕ) (r : Route) → SpellsRoute line r → line ≡ line_text r
line_is line r (inl s) =
    let targets = targets_are s.list s.targets s.listed in
    joined 32 line (codes "sfir" ∷ hexadecimal s.rd ∷ decimal s.kind ∷ address_text s.address ∷ s.list ∷ []) s.words_are
    ∙ ap (λ (l : List ℕ). join_with_byte 32 (codes "sfir" ∷ hexadecimal s.rd ∷ decimal s.kind ∷ address_text s.address ∷ l ∷ [])) targets
    ∙ sym (ap line_text s.is)
line_is line r (inr s) =
    let targets = targets_are s.list s.targets s.listed in
    let hops : s.behind ≡ map hop_text s.path = each_text SpellsHop hop_text hop_is s.behind s.path s.hops in
    joined 32 line (codes "sfpr" ∷ hexadecimal s.rd ∷ decimal s.spi ∷ s.list ∷ s.behind) s.words_are
    ∙ ap (λ (l : List ℕ). join_with_byte 32 (codes "sfpr" ∷ hexadecimal s.rd ∷ decimal s.spi ∷ l ∷ s.behind)) targets
    ∙ ap (λ (b : List (List ℕ)). join_with_byte 32 (codes "sfpr" ∷ hexadecimal s.rd ∷ decimal s.spi ∷ targets_text s.targets ∷ b)) hops
    ∙ sym (ap line_text s.is)

-- lines that are taken are the lines that are printed
lines_are : (before : List Route) (lines : List (List ℕ)) (after : List Route) → Runs before lines after → routes_text before ++ flat_map ended lines ≡ routes_text after
lines_are before [] after runs = append-nil (routes_text before) ∙ ap routes_text (sym runs)
lines_are before (line ∷ lines) after runs =
    let r = runs.0 in
    let one : ended line ≡ routes_text (r ∷ []) = ap ended (line_is line r runs.1.spelled) ∙ sym (append-nil (ended (line_text r))) in
    sym (append_assoc (routes_text before) (ended line) (flat_map ended lines))
    ∙ ap (λ (l : List ℕ). (routes_text before ++ l) ++ flat_map ended lines) one
    ∙ ap (λ (l : List ℕ). l ++ flat_map ended lines) (sym (flat_map-append (λ (q : Route). ended (line_text q)) before (r ∷ [])))
    ∙ lines_are (before ++ r ∷ []) lines after runs.2

pub text_is : (text : List ℕ) (v : List Route) → IsRoutes text v → text ≡ routes_text v
text_is text v a = a.split ∙ lines_are [] a.lines v a.runs

pub spelled_again : (origin : List ℕ) (v : List Route) → IsRoutes origin v → IsRoutes (routes_text v) v
spelled_again origin v a = subst (λ (t : List ℕ). IsRoutes t v) (text_is origin v a) a

-- joined words are the first one and each other behind the mark
pub join_behind : {X : Type 0} (mark : ℕ) (f : X → List ℕ) (w : List ℕ) (xs : List X) → join_with_byte mark (w ∷ map f xs) ≡ w ++ flat_map (λ x. mark ∷ f x) xs
join_behind mark f w [] = sym (append-nil w)
join_behind mark f w (x ∷ xs) = ap (λ (r : List ℕ). w ++ mark ∷ r) (join_behind mark f (f x) xs)

-- the first one, and the others
pub all_behind : (a s t m b : List ℕ) → m ≡ a ++ s → b ≡ m ++ t → b ≡ a ++ (s ++ t)
all_behind a s t m b e h = h ∙ ap (λ (x : List ℕ). x ++ t) e ∙ append_assoc a s t

-- a list that is written with the mark between its elements
pub all_joined : {X : Type 0} (mark : ℕ) (f : X → List ℕ) (all : List X) (x : X) (xs : List X) (a m b : List ℕ) → all ≡ x ∷ xs → m ≡ a ++ f x → b ≡ m ++ flat_map (λ y. mark ∷ f y) xs
    → b ≡ a ++ join_with_byte mark (map f all)
all_joined {X} mark f all x xs a m b is first others =
    all_behind a (f x) (flat_map (λ y. mark ∷ f y) xs) m b first others
    ∙ ap (λ (t : List ℕ). a ++ t) (sym (ap (λ (ys : List X). join_with_byte mark (map f ys)) is ∙ join_behind mark f (f x) xs))

-- the line of a path route, as it is written in turn
pub sfpr_in_turn : (a m1 m2 b w x : List ℕ) (number spi : ℕ) (slice targets : List (List ℕ)) (hops : List Part) → number ≡ spi → slice ≡ targets
    → m1 ≡ a ++ (w ++ 32 ∷ (x ++ 32 ∷ decimal number)) → m2 ≡ m1 ++ 32 ∷ targets_text slice → b ≡ m2 ++ flat_map (λ (p : Part). 32 ∷ hop_text p) hops
    → b ≡ a ++ join_with_byte 32 (w ∷ x ∷ decimal spi ∷ targets_text targets ∷ map hop_text hops)
sfpr_in_turn a m1 m2 b w x number spi slice targets hops number_is slice_is first second third =
    let n = decimal spi in
    let t = targets_text targets in
    let others = flat_map (λ (p : Part). 32 ∷ hop_text p) hops in
    let head : m1 ≡ a ++ (w ++ 32 ∷ (x ++ 32 ∷ n)) = first ∙ ap (λ (k : ℕ). a ++ (w ++ 32 ∷ (x ++ 32 ∷ decimal k))) number_is in
    let middle : m2 ≡ m1 ++ 32 ∷ t = second ∙ ap (λ (l : List (List ℕ)). m1 ++ 32 ∷ targets_text l) slice_is in
    all_behind a (w ++ 32 ∷ (x ++ 32 ∷ n)) (32 ∷ (t ++ others)) m1 b head (all_behind m1 (32 ∷ t) others m2 b middle third)
    ∙ ap (λ (l : List ℕ). a ++ l) (append_assoc w (32 ∷ (x ++ 32 ∷ n)) (32 ∷ (t ++ others))
    ∙ ap (λ (l : List ℕ). w ++ 32 ∷ l) (append_assoc x (32 ∷ n) (32 ∷ (t ++ others)))
    ∙ ap (λ (l : List ℕ). w ++ 32 ∷ (x ++ 32 ∷ (n ++ 32 ∷ l))) (sym (join_behind 32 hop_text t hops)))
