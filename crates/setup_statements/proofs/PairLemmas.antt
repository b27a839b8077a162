-- Two parts with a mark between them.
use Rattle.std.proofs.Common.{◌≡◌, ℕ, ◌<◌, ◌≤◌, ◌^◌, Bool, true, false, List, [], ◌∷◌, ◌++◌, sym, ◌∙◌, ap, arith, Option, Some, None}
use Rattle.std.specs.Prelude.{◌==◌}
use Rattle.std.specs.List.{All, join_with_byte}
use Rattle.std.proofs.lemmas.Bool.Decides.{nat_tests}
use Rattle.std.proofs.lemmas.List.Splits.{slice_split_at, slice_split_none, join_with_byte-slice_split}
use Rattle.text_words.specs.Pieces.{pieces_of}
use Rattle.text_words.specs.Reading.{Reads}
use Rattle.text_words.proofs.NumberLemmas.{decimal-lacks}
use Rattle.classifier.specs.Rules.{IsPrefix, IsPorts}
use Rattle.classifier.specs.declared.rules.Prefix.{Prefix}
use Rattle.setup_statements.specs.RuleText.{prefix_text, ports_text}
use Rattle.setup_statements.specs.Steps.{prefix_parts, ports_parts}
use Rattle.setup_statements.proofs.TextLemmas.{address_all}

abbrev Lacks : ℕ → List ℕ → Type 0
Lacks mark word = All (λ b. (b == mark) ≡ false) word

is_itself : (n : ℕ) → (n == n) ≡ true
is_itself n = grind (arith, nat_tests)

cut_of_two : (mark : ℕ) (a b : List ℕ) → Lacks mark a → Lacks mark b → pieces_of mark (a ++ mark ∷ b) ≡ a ∷ b ∷ []
unfolding pieces_of
cut_of_two mark a b ha hb =
    let p : ℕ → Bool = λ x. x == mark in
    slice_split_at p a mark b ha (is_itself mark) ∙ ap (λ r. a ∷ r) (slice_split_none p b hb)

joined_two : (mark : ℕ) (word a b : List ℕ) → pieces_of mark word ≡ a ∷ b ∷ [] → word ≡ a ++ mark ∷ b
unfolding pieces_of
joined_two mark word a b h = sym (join_with_byte-slice_split mark word) ∙ ap (join_with_byte mark) h

-- reading the pieces of a word is reading the word
reads_cut : {V : Type 0} (fits : V → Type 0) (parts : V → List (List ℕ)) (spelling : V → List ℕ) (mark : ℕ) (word : List ℕ) (r : Option V)
    → ((v : V) → fits v → pieces_of mark (spelling v) ≡ parts v) → ((v : V) → pieces_of mark word ≡ parts v → word ≡ spelling v)
    → Reads fits parts (pieces_of mark word) r → Reads fits spelling word r
reads_cut fits parts spelling mark word None cut join h = λ v f e. h v f (ap (pieces_of mark) e ∙ cut v f)
reads_cut fits parts spelling mark word (Some v) cut join h = (h.0, join v h.1)

digit_is_no_slash : (c : ℕ) → 48 ≤ c → c ≤ 57 → (c == 47) ≡ false
digit_is_no_slash c low high = grind (arith, nat_tests)

letter_is_no_slash : (c : ℕ) → 97 ≤ c → c ≤ 102 → (c == 47) ≡ false
letter_is_no_slash c low high = grind (arith, nat_tests)

bits_fit : (p : Prefix) → IsPrefix p → p.bits < 2 ^ 64
bits_fit p h = grind arith

-- the parts of a network
pub cut_of_prefix : (p : Prefix) → IsPrefix p → pieces_of 47 (prefix_text p) ≡ prefix_parts p
cut_of_prefix p fits =
    cut_of_two 47 _ _
    (address_all (λ b. (b == 47) ≡ false) digit_is_no_slash letter_is_no_slash (grind arith) p.address fits.0)
    (decimal-lacks 47 p.bits (omega arith) (bits_fit p fits))

-- the parts of a range of ports
pub cut_of_ports : (p : ℕ × ℕ) → IsPorts p → pieces_of 45 (ports_text p) ≡ ports_parts p
cut_of_ports p fits =
    cut_of_two 45 _ _
    (decimal-lacks 45 p.0 (omega arith) (omega (arith, fits)))
    (decimal-lacks 45 p.1 (omega arith) (omega (arith, fits)))

-- a network is cut at its slash
pub reads_prefix : (word : List ℕ) (r : Option Prefix) → Reads IsPrefix prefix_parts (pieces_of 47 word) r → Reads IsPrefix prefix_text word r
reads_prefix word r h =
    reads_cut IsPrefix prefix_parts prefix_text 47 word r
    cut_of_prefix
    (λ p e. joined_two 47 word _ _ e) h

-- a range of ports is cut at its dash
pub reads_ports : (word : List ℕ) (r : Option (ℕ × ℕ)) → Reads IsPorts ports_parts (pieces_of 45 word) r → Reads IsPorts ports_text word r
reads_ports word r h =
    reads_cut IsPorts ports_parts ports_text 45 word r
    cut_of_ports
    (λ p e. joined_two 45 word _ _ e) h
