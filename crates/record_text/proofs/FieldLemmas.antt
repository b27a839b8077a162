-- Words with a label in front, and lists that are shown in two ways.
use Rattle.std.proofs.Common.{◌≡◌, ℕ, List, ◌∷◌, ◌++◌, refl, ap, ◌∙◌, Option, Some, None, Bor}
use Rattle.std.specs.Prelude.{◌≢◌, MatchOption}
use Rattle.std.proofs.lemmas.List.{append_cancel_left}
use Rattle.text_words.specs.Reading.{Reads, ReadsFirst}
use Rattle.text_words.specs.Pieces.{pieces_of}
use Rattle.record_text.specs.Lines.{field}

pub head_is : {X : Type 0} (xs : List X) (x y : X) (ps qs : List X) → xs ≡ x ∷ ps → xs ≡ y ∷ qs → x ≡ y
head_is xs x y ps qs p q = cc

pub tail_is : {X : Type 0} (xs : List X) (x y : X) (ps qs : List X) → xs ≡ x ∷ ps → xs ≡ y ∷ qs → ps ≡ qs
tail_is xs x y ps qs p q = cc

pub same_head : {X : Type 0} (x y : X) (xs ys : List X) → x ∷ xs ≡ y ∷ ys → x ≡ y
same_head x y xs ys e = head_is _ x y xs ys refl e

pub same_tail : {X : Type 0} (x y : X) (xs ys : List X) → x ∷ xs ≡ y ∷ ys → xs ≡ ys
same_tail x y xs ys e = tail_is _ x y xs ys refl e

-- one text behind a label
pub one_field : (label a b : List ℕ) → field label a ≡ field label b → a ≡ b
unfolding field
one_field label a b e = append_cancel_left label a b e

-- what stands behind the label of the first word
pub next_is_field : (words rest : List (List ℕ)) (word label : List ℕ) (r : Option (Bor (List ℕ))) → words ≡ word ∷ rest
    → MatchOption r ((text : List ℕ) → word ≢ label ++ text) (λ text. word ≡ label ++ text.now)
    → MatchOption r ((text : List ℕ) (others : List (List ℕ)) → words ≢ field label text ∷ others) (λ text. words ≡ field label text.now ∷ rest)
unfolding field
next_is_field words rest word label None first h = λ text others e. h text (head_is words word (label ++ text) rest others first e)
next_is_field words rest word label (Some text) first h = first ∙ ap (λ w. w ∷ rest) h

-- reading what stands behind the label is reading the word
pub reads_field : {V : Type 0} (fits : V → Type 0) (spelling : V → List ℕ) (label text : List ℕ) (words rest : List (List ℕ)) (r : Option V)
    → words ≡ field label text ∷ rest → Reads fits spelling text r → ReadsFirst fits (λ v. field label (spelling v)) words r rest
reads_field fits spelling label text words rest None first h =
    λ v others f e. h v f (one_field label text (spelling v) (head_is words (field label text) (field label (spelling v)) rest others first e))
reads_field fits spelling label text words rest (Some v) first h = (h.0, first ∙ ap (λ t. field label t ∷ rest) h.1)

-- reading the pieces of a word is reading the word
pub reads_cut : {V : Type 0} (fits : V → Type 0) (parts : V → List (List ℕ)) (spelling : V → List ℕ) (mark : ℕ) (word : List ℕ) (r : Option V)
    → ((v : V) → fits v → pieces_of mark (spelling v) ≡ parts v) → ((v : V) → pieces_of mark word ≡ parts v → word ≡ spelling v)
    → Reads fits parts (pieces_of mark word) r → Reads fits spelling word r
reads_cut fits parts spelling mark word None cut join h = λ v f e. h v f (ap (pieces_of mark) e ∙ cut v f)
reads_cut fits parts spelling mark word (Some v) cut join h = (h.0, join v h.1)
