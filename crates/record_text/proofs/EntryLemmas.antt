-- The line of an entry: it is cut into its words, and one entry a line.
use Rattle.std.proofs.Common.{◌≡◌, ℕ, ◌<◌, ◌≤◌, ◌^◌, List, [], ◌∷◌, ◌++◌, refl, sym, ap, subst, ◌∙◌, arith, lit<, append_assoc, Option, Some, None}
use Rattle.std.specs.Prelude.{◌==◌, codes, true, false, map, slice_index, IfSome}
use Rattle.std.specs.List.{All, AllByRecursion}
use Rattle.std.specs.Fmt.{decimal}
use Rattle.std.proofs.lemmas.Bool.Decides.{nat_tests}
use Rattle.std.proofs.lemmas.Fmt.{decimal_injective}
use Rattle.std.proofs.lemmas.List.Elements.{recursion_from_All, All-append}
use Rattle.arrayvec.specs.ArrayVec.{ArrayVec}
use Rattle.wire_base.specs.declared.ids.InstanceId.{InstanceId}
use Rattle.text_words.specs.Names.{IsName, is_name_byte, is_name_letter}
use Rattle.text_words.specs.Pieces.{pieces_of}
use Rattle.text_words.proofs.NumberLemmas.{decimal-lacks}
use Rattle.sfc_routes.specs.Entries.{Entries, IsRoster}
use Rattle.record_text.specs.declared.records.Record.{Record}
use Rattle.record_text.specs.declared.records.End.{End}
use Rattle.record_text.specs.Names.{IsInstance, instance_text}
use Rattle.record_text.specs.Lists.{list_text}
use Rattle.record_text.specs.Ends.{end_text}
use Rattle.record_text.specs.Lines.{field, path_text, record_words, line_of, ended_line, Names, IsEntry}
use Rattle.record_text.specs.Steps.{way_text}
use Rattle.record_text.proofs.FieldLemmas.{same_head, same_tail, one_field}
use Rattle.record_text.proofs.WordLemmas.{Lacks, IsWord, AreWords, literal, decimal_all, number_word, name_word, name_lacks, words_lack, cut_joined, joined_pieces, joined_all}
use Rattle.record_text.proofs.ListLemmas.{Listed, one_list, list_word}
use Rattle.record_text.proofs.EndLemmas.{instance_name, one_instance, one_end, end_word, end_names}

abbrev Small : ℕ → Type 0
Small v = v < 2 ^ 64

not_dash : (n : ℕ) → n < 2 ^ 64 → decimal n ≡ codes "-" → ⊥
not_dash n h e =
    let wrong : 48 ≤ 45 = subst (All (λ c. 48 ≤ c)) e (decimal_all (λ c. 48 ≤ c) (λ c least most. least) n h) 0 0 (lit< tt) in
    omega (arith, wrong)

-- versions in a list
pub versions_listed : Listed Small decimal
versions_listed = record {
  lacks = λ v h. decimal-lacks 44 v (lit< tt) h;
  no_dash = not_dash;
  one = λ v w hv hw e. decimal_injective v w hv hw e;
}

name_byte_no_comma : (c : ℕ) → is_name_byte c ≡ true → (c == 44) ≡ false
name_byte_no_comma c h = grind (arith, nat_tests)

no_dash_name : (n : List ℕ) → IsName n → n ≡ codes "-" → ⊥
no_dash_name n h e = let wrong : is_name_letter 45 ≡ true = subst (λ w. is_name_letter (slice_index w 0) ≡ true) e h.letter in absurd cc

-- instances in a list
pub visits_listed : (roster : Entries) → IsRoster roster → Listed (IsInstance roster) (instance_text roster)
visits_listed roster k = record {
  lacks = λ i h. name_lacks 44 _ name_byte_no_comma (instance_name roster k i h);
  no_dash = λ i h e. no_dash_name _ (instance_name roster k i h) e;
  one = λ i j hi hj e. one_instance roster k i j hi hj e;
}

field_word : (label text : List ℕ) → IsWord label → IsWord text → IsWord (field label text)
unfolding field
field_word label text hl ht = All-append (λ b. 33 ≤ b) label text hl ht

path_word : (p : Option ℕ) → IfSome p (λ spi. spi < 2 ^ 24) → IsWord (path_text p)
path_word None h = literal (codes "-") refl
path_word (Some spi) h = number_word spi (omega (arith, h))

words_are : (roster : Entries) → IsRoster roster → (e : ℕ × Record) → IsEntry roster e → AreWords (record_words roster e)
words_are roster k e h = (
  number_word e.0 h.number_fits,
  (
    field_word (codes "worker=") _ (literal (codes "worker=") refl) (number_word e.1.worker (let fits = h.worker_fits in omega (arith, fits))),
    (
      field_word (codes "path=") _ (literal (codes "path=") refl) (path_word e.1.path h.path_fits),
      (
        field_word (codes "versions=") _ (literal (codes "versions=") refl)
            (list_word Small decimal number_word e.1.versions.items (recursion_from_All Small e.1.versions.items h.versions_fit.1)),
        (
          field_word (codes "visits=") _ (literal (codes "visits=") refl)
              (list_word (IsInstance roster) (instance_text roster) (λ i known. name_word _ (instance_name roster k i known)) e.1.visits.items
              (recursion_from_All (IsInstance roster) e.1.visits.items h.visits_fit.1)),
          (field_word (codes "end=") _ (literal (codes "end=") refl) (end_word roster k e.1.end h.end_fits), tt),
        ),
      ),
    ),
  ),
)

-- the words of a line
pub cut_line : (roster : Entries) → IsRoster roster → (e : ℕ × Record) → IsEntry roster e → pieces_of 32 (line_of roster e) ≡ record_words roster e
unfolding line_of
cut_line roster k e h =
    let lack = words_lack 32 (lit< tt) (record_words roster e) (words_are roster k e h) in
    cut_joined 32 _ _ lack.0 lack.1

pub line_joined : (roster : Entries) (line : List ℕ) (e : ℕ × Record) → pieces_of 32 line ≡ record_words roster e → line ≡ line_of roster e
unfolding line_of
line_joined roster line e h = joined_pieces 32 line (record_words roster e) h

words_above : (ws : List (List ℕ)) → AreWords ws → AllByRecursion (All (λ b. (b == 10) ≡ false)) ws
words_above ws h = words_lack 10 (lit< tt) ws h

-- no byte of a line ends it
pub line_lacks : (roster : Entries) → IsRoster roster → (e : ℕ × Record) → IsEntry roster e → Lacks 10 (line_of roster e)
unfolding line_of
line_lacks roster k e h = joined_all (λ b. (b == 10) ≡ false) 32 refl (record_words roster e) (words_above (record_words roster e) (words_are roster k e h))

one_path : (p q : Option ℕ) → IfSome p (λ spi. spi < 2 ^ 24) → IfSome q (λ spi. spi < 2 ^ 24) → path_text p ≡ path_text q → p ≡ q
one_path None None hp hq e = refl
one_path None (Some q) hp hq e = absurd (not_dash q (omega (arith, hq)) (sym e))
one_path (Some p) None hp hq e = absurd (not_dash p (omega (arith, hp)) e)
one_path (Some p) (Some q) hp hq e = ap Some (decimal_injective p q (omega (arith, hp)) (omega (arith, hq)) e)

abbrev vec_of : {X : Type 0} → List X → ArrayVec X
vec_of xs = record { items = xs }

abbrev entry_of : ℕ → ℕ → Option ℕ → List ℕ → List InstanceId → End → ℕ × Record
entry_of n w p v i x = (n, record { worker = w; path = p; versions = vec_of v; visits = vec_of i; end = x })

-- one entry a line
pub one_entry : (roster : Entries) → IsRoster roster → (d e : ℕ × Record) → IsEntry roster d → IsEntry roster e → line_of roster d ≡ line_of roster e → d ≡ e
one_entry roster k d e hd he same =
    let words = sym (cut_line roster k d hd) ∙ ap (pieces_of 32) same ∙ cut_line roster k e he in
    let w1 = same_tail _ _ _ _ words in
    let w2 = same_tail _ _ _ _ w1 in
    let w3 = same_tail _ _ _ _ w2 in
    let w4 = same_tail _ _ _ _ w3 in
    let w5 = same_tail _ _ _ _ w4 in
    let number = decimal_injective d.0 e.0 hd.number_fits he.number_fits (same_head _ _ _ _ words) in
    let wd = hd.worker_fits in
    let we = he.worker_fits in
    let worker = decimal_injective d.1.worker e.1.worker (omega (arith, wd)) (omega (arith, we)) (one_field _ _ _ (same_head _ _ _ _ w1)) in
    let path = one_path d.1.path e.1.path hd.path_fits he.path_fits (one_field _ _ _ (same_head _ _ _ _ w2)) in
    let versions = one_list Small decimal versions_listed d.1.versions.items e.1.versions.items
    (recursion_from_All Small d.1.versions.items hd.versions_fit.1) (recursion_from_All Small e.1.versions.items he.versions_fit.1)
    (one_field _ _ _ (same_head _ _ _ _ w3)) in
    let visits = one_list (IsInstance roster) (instance_text roster) (visits_listed roster k) d.1.visits.items e.1.visits.items
    (recursion_from_All (IsInstance roster) d.1.visits.items hd.visits_fit.1) (recursion_from_All (IsInstance roster) e.1.visits.items he.visits_fit.1)
    (one_field _ _ _ (same_head _ _ _ _ w4)) in
    let end = one_end roster k d.1.end e.1.end hd.end_fits he.end_fits (one_field _ _ _ (same_head _ _ _ _ w5)) in
    ap (λ x. entry_of x d.1.worker d.1.path d.1.versions.items d.1.visits.items d.1.end) number
    ∙ ap (λ x. entry_of e.0 x d.1.path d.1.versions.items d.1.visits.items d.1.end) worker
    ∙ ap (λ x. entry_of e.0 e.1.worker x d.1.versions.items d.1.visits.items d.1.end) path
    ∙ ap (λ x. entry_of e.0 e.1.worker e.1.path x d.1.visits.items d.1.end) versions
    ∙ ap (λ x. entry_of e.0 e.1.worker e.1.path e.1.versions.items x d.1.end) visits
    ∙ ap (λ x. entry_of e.0 e.1.worker e.1.path e.1.versions.items e.1.visits.items x) end

-- the parts of a line in the order in which they are written
pub line_in_turn : (roster : Entries) (n : ℕ) (r : Record) → ended_line roster (n, r)
    ≡ decimal n ++ ((codes " worker=" ++ decimal r.worker) ++ ((codes " path=" ++ path_text r.path)
    ++ ((codes " versions=" ++ list_text (map decimal r.versions.items)) ++ way_text roster r)))
unfolding line_of field
line_in_turn roster n r =
    let versions = list_text (map decimal r.versions.items) in
    let visits = list_text (map (instance_text roster) r.visits.items) in
    let tail = 10 ∷ [] in
    append_assoc (decimal n) _ tail ∙ ap (λ x. decimal n ++ (codes " worker=" ++ x)) (
    append_assoc (decimal r.worker) _ tail ∙ ap (λ x. decimal r.worker ++ (codes " path=" ++ x)) (
    append_assoc (path_text r.path) _ tail ∙ ap (λ x. path_text r.path ++ (codes " versions=" ++ x)) (
    append_assoc versions _ tail ∙ ap (λ x. versions ++ (codes " visits=" ++ x)) (
    append_assoc visits (codes " end=" ++ end_text roster r.end) tail))))

-- an entry names instances of the roster
pub entry_names : (roster : Entries) (e : ℕ × Record) → IsEntry roster e → Names roster e.1
entry_names roster e h = record { visits_known = h.visits_fit.1; end_known = end_names roster e.1.end h.end_fits }
