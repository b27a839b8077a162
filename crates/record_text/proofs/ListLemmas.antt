-- Lists inside a word: they are cut at their commas, and one list a word.
use Rattle.std.proofs.Common.{◌≡◌, ℕ, ◌≤◌, List, [], ◌∷◌, ◌++◌, length, refl, sym, ap, ◌∙◌, arith, Option, Some, None}
use Rattle.std.specs.Prelude.{◌==◌, ◌≢◌, map, codes, false}
use Rattle.std.specs.List.{All, AllByRecursion}
use Rattle.std.proofs.lemmas.List.Elements.{recursion_from_All, All-from_recursion}
use Rattle.arrayvec.specs.ArrayVec.{ArrayVec}
use Rattle.text_words.specs.Reading.{Reads}
use Rattle.text_words.specs.Pieces.{pieces_of}
use Rattle.text_words.proofs.PieceLemmas.{pieces-some}
use Rattle.record_text.specs.Lists.{list_text}
use Rattle.record_text.proofs.FieldLemmas.{same_head, same_tail}
use Rattle.record_text.proofs.WordLemmas.{Lacks, IsWord, literal, cut_joined, cut_none, joined_pieces, joined_all, mapped}

-- what every word of a list must be
pub record Listed {X : Type 0} (P : X → Type 0) (f : X → List ℕ) : Type 0 where
  pub lacks : (x : X) → P x → Lacks 44 (f x)
  pub no_dash : (x : X) → P x → f x ≡ codes "-" → ⊥
  pub one : (x y : X) → P x → P y → f x ≡ f y → x ≡ y

dash_lacks : Lacks 44 (codes "-")
dash_lacks = All-from_recursion (λ b. (b == 44) ≡ false) (codes "-") (refl, tt)

pub cut_list : {X : Type 0} (P : X → Type 0) (f : X → List ℕ) → Listed P f → (x : X) (xs : List X) → AllByRecursion P (x ∷ xs)
    → pieces_of 44 (list_text (map f (x ∷ xs))) ≡ map f (x ∷ xs)
cut_list P f k x xs h = cut_joined 44 (f x) (map f xs) (k.lacks x h.0) (mapped P (Lacks 44) f k.lacks xs h.1)

-- a word that is no dash spells what its pieces spell
reads_none : {X : Type 0} (P : X → Type 0) (f : X → List ℕ) → Listed P f → (word : List ℕ) (v : ArrayVec X) (xs : List X) → v.items ≡ xs → word ≢ codes "-" → All P xs
    → ((pieces_of 44 word) ≢ map f xs) → word ≢ list_text (map f xs)
reads_none P f k word v [] is dash all none e = dash e
reads_none P f k word v (x ∷ xs) is dash all none e = none (ap (pieces_of 44) e ∙ cut_list P f k x xs (recursion_from_All P (x ∷ xs) all))

reads_some : {X : Type 0} (f : X → List ℕ) (word : List ℕ) (xs : List X) → pieces_of 44 word ≡ map f xs → word ≡ list_text (map f xs)
reads_some f word [] e = absurd (pieces-some 44 word e)
reads_some f word (x ∷ xs) e = joined_pieces 44 word (map f (x ∷ xs)) e

pub reads_list : {X : Type 0} (P : X → Type 0) (f : X → List ℕ) → Listed P f → (word : List ℕ) (r : Option (ArrayVec X)) → word ≢ codes "-"
    → Reads (λ (v : ArrayVec X). (length v.items ≤ 63) × All P v.items) (λ v. map f v.items) (pieces_of 44 word) r
    → Reads (λ (v : ArrayVec X). (length v.items ≤ 63) × All P v.items) (λ v. list_text (map f v.items)) word r
reads_list P f k word None dash h = λ v fits e. reads_none P f k word v v.items refl dash fits.1 (h v fits) e
reads_list P f k word (Some v) dash h = (h.0, reads_some f word v.items h.1)

-- the value whose word stands at a place
pub value_at : {X : Type 0} (P : X → Type 0) (f : X → List ℕ) (xs : List X) (front : List (List ℕ)) (w : List ℕ) (behind : List (List ℕ))
    → AllByRecursion P xs → front ++ w ∷ behind ≡ map f xs → (x : X) × P x × (w ≡ f x)
value_at P f [] [] w behind h e = absurd (omega (arith, ap length e))
value_at P f [] (v ∷ front) w behind h e = absurd (omega (arith, ap length e))
value_at P f (x ∷ xs) [] w behind h e = (x, h.0, same_head w (f x) behind (map f xs) e)
value_at P f (x ∷ xs) (v ∷ front) w behind h e = value_at P f xs front w behind h.1 (same_tail v (f x) (front ++ w ∷ behind) (map f xs) e)

-- two lists with one spelling
pub one_mapped : {X : Type 0} (P : X → Type 0) (f : X → List ℕ) → ((x y : X) → P x → P y → f x ≡ f y → x ≡ y) → (xs ys : List X)
    → AllByRecursion P xs → AllByRecursion P ys → map f xs ≡ map f ys → xs ≡ ys
one_mapped P f one [] [] hx hy e = refl
one_mapped P f one [] (y ∷ ys) hx hy e = absurd (omega (arith, ap length e))
one_mapped P f one (x ∷ xs) [] hx hy e = absurd (omega (arith, ap length e))
one_mapped P f one (x ∷ xs) (y ∷ ys) hx hy e =
    let first = one x y hx.0 hy.0 (same_head (f x) (f y) (map f xs) (map f ys) e) in
    let others = one_mapped P f one xs ys hx.1 hy.1 (same_tail (f x) (f y) (map f xs) (map f ys) e) in
    ap (λ z. z ∷ xs) first ∙ ap (λ zs. y ∷ zs) others

dash_or_list : {X : Type 0} (P : X → Type 0) (f : X → List ℕ) → Listed P f → (x : X) (xs : List X) → AllByRecursion P (x ∷ xs)
    → codes "-" ≡ list_text (map f (x ∷ xs)) → ⊥
dash_or_list P f k x xs h e =
    let pieces = sym (cut_none 44 (codes "-") dash_lacks) ∙ ap (pieces_of 44) e ∙ cut_list P f k x xs h in
    k.no_dash x h.0 (sym (same_head (codes "-") (f x) [] (map f xs) pieces))

pub one_list : {X : Type 0} (P : X → Type 0) (f : X → List ℕ) → Listed P f → (xs ys : List X) → AllByRecursion P xs → AllByRecursion P ys
    → list_text (map f xs) ≡ list_text (map f ys) → xs ≡ ys
one_list P f k [] [] hx hy e = refl
one_list P f k [] (y ∷ ys) hx hy e = absurd (dash_or_list P f k y ys hy e)
one_list P f k (x ∷ xs) [] hx hy e = absurd (dash_or_list P f k x xs hx (sym e))
one_list P f k (x ∷ xs) (y ∷ ys) hx hy e =
    one_mapped P f k.one (x ∷ xs) (y ∷ ys) hx hy (sym (cut_list P f k x xs hx) ∙ ap (pieces_of 44) e ∙ cut_list P f k y ys hy)

-- a list is a word where its parts are words
pub list_word : {X : Type 0} (P : X → Type 0) (f : X → List ℕ) → ((x : X) → P x → IsWord (f x)) → (xs : List X) → AllByRecursion P xs → IsWord (list_text (map f xs))
list_word P f each [] h = literal (codes "-") refl
list_word P f each (x ∷ xs) h = joined_all (λ b. 33 ≤ b) 44 (omega arith) (map f (x ∷ xs)) (mapped P IsWord f each (x ∷ xs) h)
