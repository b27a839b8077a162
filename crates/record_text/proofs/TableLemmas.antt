-- The text of a table: what is written in turn, and one table a text.
use Rattle.std.proofs.Common.{◌≡◌, ℕ, ◌+◌, ◌<◌, ◌≤◌, ◌^◌, List, [], ◌∷◌, ◌++◌, append_assoc, refl, sym, ap, subst, ◌∙◌, arith, lit<, Option, Some, None, inl, inr}
use Rattle.std.specs.Prelude.{◌==◌, ◌≢◌, map, codes, true, false}
use Rattle.std.specs.List.{AllByRecursion, join_with_byte, flat_map}
use Rattle.std.specs.Fmt.{decimal}
use Rattle.std.proofs.lemmas.Bool.{cases_order}
use Rattle.std.proofs.lemmas.Bool.Decides.{nat_tests}
use Rattle.std.proofs.lemmas.Fmt.{decimal_injective}
use Rattle.std.proofs.lemmas.List.Elements.{recursion_from_All, All-from_recursion, All-append, All-cons}
use Rattle.std.proofs.lemmas.List.Folds.{flat_map-map}
use Rattle.wire_base.specs.declared.ids.ForwarderId.{ForwarderId}
use Rattle.wire_base.specs.declared.ids.InstanceId.{InstanceId}
use Rattle.text_words.specs.Names.{IsName, is_name_byte}
use Rattle.text_words.specs.Pieces.{pieces_of}
use Rattle.sfc_routes.specs.Entries.{Entries, IsRoster}
use Rattle.path_selection.specs.Paths.{ServicePath, FallsBelow, RisesFrom}
use Rattle.path_selection.specs.declared.hops.HopRow.{HopRow}
use Rattle.record_text.specs.Names.{no_forwarder, IsForwarder, forwarder_text, IsInstance, instance_text}
use Rattle.record_text.specs.Tables.{choice_text, hop_text, version_words, path_words, ended_words, table_text, ChoiceNames, PathNames, IsPublished}
use Rattle.record_text.specs.Steps.{hops_behind}
use Rattle.record_text.proofs.AppendLemmas.{join_behind}
use Rattle.record_text.proofs.FieldLemmas.{same_head, same_tail}
use Rattle.record_text.proofs.WordLemmas.{Lacks, IsWord, AreWords, literal, decimal_all, number_word, name_word, name_lacks, words_lack, cut_joined, joined_all, mapped}
use Rattle.record_text.proofs.ListLemmas.{one_mapped}
use Rattle.record_text.proofs.EndLemmas.{instance_name, one_instance}
use Rattle.record_text.proofs.TextLemmas.{first_part, behind_part, lacks_not, not_empty}

-- the parts of a path's line
pub path_in_turn : (roster : Entries) (p : ServicePath) → ended_words (path_words roster p)
    ≡ (codes "path " ++ decimal p.spi) ++ (hops_behind roster p.rows ++ 10 ∷ [])
path_in_turn roster p =
    ap (λ x. codes "path " ++ (x ++ 10 ∷ [])) (join_behind 32 (hop_text roster) (decimal p.spi) p.rows)
    ∙ ap (λ x. codes "path " ++ x) (append_assoc (decimal p.spi) (hops_behind roster p.rows) (10 ∷ []))

-- the parts of a table's text
pub table_in_turn : (roster : Entries) (version : ℕ) (table : List ServicePath) → table_text roster version table
    ≡ ended_words (version_words version) ++ flat_map (λ path. ended_words (path_words roster path)) table
unfolding table_text
table_in_turn roster version table = ap (λ x. ended_words (version_words version) ++ x) (flat_map-map ended_words (path_words roster) table)

-- words of a line, of which there is one
abbrev IsLineOf : List (List ℕ) → Type 0
IsLineOf ws = (ws ≢ []) × AreWords ws

cut_words : (ws : List (List ℕ)) → IsLineOf ws → pieces_of 32 (join_with_byte 32 ws) ≡ ws
cut_words [] h = absurd (h.0 refl)
cut_words (w ∷ ws) h = let lack = words_lack 32 (lit< tt) (w ∷ ws) h.1 in cut_joined 32 w ws lack.0 lack.1

words_end : (ws : List (List ℕ)) → AreWords ws → Lacks 10 (join_with_byte 32 ws)
words_end ws h = joined_all (λ b. (b == 10) ≡ false) 32 refl ws (words_lack 10 (lit< tt) ws h)

line_shape : (ws : List (List ℕ)) (rest : List ℕ) → ended_words ws ++ rest ≡ join_with_byte 32 ws ++ 10 ∷ rest
line_shape ws rest = append_assoc (join_with_byte 32 ws) (10 ∷ []) rest

-- the words of all lines
one_words : (vss wss : List (List (List ℕ))) → AllByRecursion IsLineOf vss → AllByRecursion IsLineOf wss → flat_map ended_words vss ≡ flat_map ended_words wss → vss ≡ wss
one_words [] [] hv hw e = refl
one_words [] (w ∷ wss) hv hw e = absurd (not_empty [] (join_with_byte 32 w) (flat_map ended_words wss) (e ∙ line_shape w (flat_map ended_words wss)) refl)
one_words (v ∷ vss) [] hv hw e = absurd (not_empty [] (join_with_byte 32 v) (flat_map ended_words vss) (sym e ∙ line_shape v (flat_map ended_words vss)) refl)
one_words (v ∷ vss) (w ∷ wss) hv hw e =
    let both = sym (line_shape v (flat_map ended_words vss)) ∙ e ∙ line_shape w (flat_map ended_words wss) in
    let line = first_part 10 _ _ _ _ (words_end v hv.0.1) (words_end w hw.0.1) both in
    let first = sym (cut_words v hv.0) ∙ ap (pieces_of 32) line ∙ cut_words w hw.0 in
    let others = one_words vss wss hv.1 hw.1 (behind_part 10 _ _ _ _ line both) in
    ap (λ x. x ∷ vss) first ∙ ap (λ xs. w ∷ xs) others

forwarder_name : (roster : Entries) → IsRoster roster → (f : ForwarderId) → IsForwarder roster f → IsName (forwarder_text roster f)
forwarder_name roster k f h = k.forwarder_names f.0 no_forwarder h

abbrev id_of : ℕ → ForwarderId
id_of n = record { 0 = n }

one_forwarder : (roster : Entries) → IsRoster roster → (a b : ForwarderId) → IsForwarder roster a → IsForwarder roster b
    → forwarder_text roster a ≡ forwarder_text roster b → a ≡ b
one_forwarder roster k a b ha hb e = elim (cases_order a.0 b.0) [
  | inl same ↦ ap id_of same
  | inr (inl less) ↦ absurd (k.forwarder_names_differ a.0 b.0 no_forwarder less hb e)
  | inr (inr more) ↦ absurd (k.forwarder_names_differ b.0 a.0 no_forwarder more ha (sym e))
]

name_byte_no_at : (c : ℕ) → is_name_byte c ≡ true → (c == 64) ≡ false
name_byte_no_at c h = grind (arith, nat_tests)

name_no_at : (roster : Entries) → IsRoster roster → (i : InstanceId) → IsInstance roster i → Lacks 64 (instance_text roster i)
name_no_at roster k i h = name_lacks 64 _ name_byte_no_at (instance_name roster k i h)

none_no_at : Lacks 64 (codes "none")
none_no_at = All-from_recursion (λ b. (b == 64) ≡ false) (codes "none") (refl, (refl, (refl, (refl, tt))))

none_is_none : (x y : List ℕ) → codes "none" ≡ x ++ 64 ∷ y → ⊥
none_is_none x y e = lacks_not 64 x y (subst (Lacks 64) e none_no_at)

abbrev at_of : ForwarderId → InstanceId → Option (ForwarderId × InstanceId)
at_of f i = Some (f, i)

one_choice : (roster : Entries) → IsRoster roster → (a b : Option (ForwarderId × InstanceId)) → ChoiceNames roster a → ChoiceNames roster b
    → choice_text roster a ≡ choice_text roster b → a ≡ b
one_choice roster k None None ha hb e = refl
one_choice roster k None (Some b) ha hb e = absurd (none_is_none _ _ e)
one_choice roster k (Some a) None ha hb e = absurd (none_is_none _ _ (sym e))
one_choice roster k (Some a) (Some b) ha hb e =
    let name = first_part 64 _ _ _ _ (name_no_at roster k a.1 ha.1) (name_no_at roster k b.1 hb.1) e in
    let instance = one_instance roster k a.1 b.1 ha.1 hb.1 name in
    let forwarder = one_forwarder roster k a.0 b.0 ha.0 hb.0 (behind_part 64 _ _ _ _ name e) in
    ap (λ f. at_of f a.1) forwarder ∙ ap (at_of b.0) instance

-- a hop whose parts have their forms
abbrev HopFits : Entries → HopRow → Type 0
HopFits roster row = (row.si < 256) × ChoiceNames roster row.choice

digit_no_equals : (c : ℕ) → 48 ≤ c → c ≤ 57 → (c == 61) ≡ false
digit_no_equals c least most = grind (arith, nat_tests)

index_lacks : (si : ℕ) → si < 256 → Lacks 61 (decimal si)
index_lacks si h = decimal_all (λ b. (b == 61) ≡ false) digit_no_equals si (omega (arith, h))

abbrev hop_of : ℕ → Option (ForwarderId × InstanceId) → HopRow
hop_of si at = record { si = si; choice = at }

one_hop : (roster : Entries) → IsRoster roster → (p q : HopRow) → HopFits roster p → HopFits roster q → hop_text roster p ≡ hop_text roster q → p ≡ q
one_hop roster k p q hp hq e =
    let text = first_part 61 _ _ _ _ (index_lacks p.si hp.0) (index_lacks q.si hq.0) e in
    let index = decimal_injective p.si q.si (omega (arith, hp.0)) (omega (arith, hq.0)) text in
    let choice = one_choice roster k p.choice q.choice hp.1 hq.1 (behind_part 61 _ _ _ _ text e) in
    ap (λ s. hop_of s p.choice) index ∙ ap (hop_of q.si) choice

-- a path whose parts have their forms
abbrev PathFits : Entries → ServicePath → Type 0
PathFits roster p = (p.spi < 2 ^ 24) × AllByRecursion (HopFits roster) p.rows

abbrev path_of : ℕ → List HopRow → ServicePath
path_of spi rows = record { spi = spi; rows = rows }

one_path : (roster : Entries) → IsRoster roster → (p q : ServicePath) → PathFits roster p → PathFits roster q → path_words roster p ≡ path_words roster q → p ≡ q
one_path roster k p q hp hq e =
    let behind = same_tail _ _ _ _ e in
    let spi = decimal_injective p.spi q.spi (omega (arith, hp.0)) (omega (arith, hq.0)) (same_head _ _ _ _ behind) in
    let rows = one_mapped (HopFits roster) (hop_text roster) (one_hop roster k) p.rows q.rows hp.1 hq.1 (same_tail _ _ _ _ behind) in
    ap (λ s. path_of s p.rows) spi ∙ ap (path_of q.spi) rows

rows_fit : (roster : Entries) (top : ℕ) (rows : List HopRow) → top ≤ 256 → FallsBelow top rows → AllByRecursion (λ row. ChoiceNames roster row.choice) rows
    → AllByRecursion (HopFits roster) rows
rows_fit roster top [] less falls names = tt
rows_fit roster top (row ∷ rows) less falls names =
    ((omega (arith, less, falls.0), names.0), rows_fit roster row.si rows (omega (arith, less, falls.0)) falls.2 names.1)

paths_fit : (roster : Entries) (least : ℕ) (table : List ServicePath) → RisesFrom least table → AllByRecursion (λ (p : ServicePath). p.spi < 2 ^ 24) table
    → AllByRecursion (PathNames roster) table → AllByRecursion (PathFits roster) table
paths_fit roster least [] rises few names = tt
paths_fit roster least (p ∷ table) rises few names =
    ((few.0, rows_fit roster 256 p.rows (omega arith) rises.1 (recursion_from_All _ p.rows names.0)), paths_fit roster (p.spi + 1) table rises.2 few.1 names.1)

choice_word : (roster : Entries) → IsRoster roster → (a : Option (ForwarderId × InstanceId)) → ChoiceNames roster a → IsWord (choice_text roster a)
choice_word roster k None h = literal (codes "none") refl
choice_word roster k (Some a) h =
    All-append (λ b. 33 ≤ b) _ _ (name_word _ (instance_name roster k a.1 h.1))
    (All-cons (λ b. 33 ≤ b) 64 _ (omega arith) (name_word _ (forwarder_name roster k a.0 h.0)))

hop_word : (roster : Entries) → IsRoster roster → (row : HopRow) → HopFits roster row → IsWord (hop_text roster row)
hop_word roster k row h =
    All-append (λ b. 33 ≤ b) _ _ (number_word row.si (omega (arith, h.0)))
    (All-cons (λ b. 33 ≤ b) 61 _ (omega arith) (choice_word roster k row.choice h.1))

some_word : (w : List ℕ) (ws : List (List ℕ)) → w ∷ ws ≢ []
some_word w ws e = absurd cc

version_line : (v : ℕ) → v < 2 ^ 64 → IsLineOf (version_words v)
version_line v h = (some_word _ _, (literal (codes "version") refl, (number_word v h, tt)))

path_line : (roster : Entries) → IsRoster roster → (p : ServicePath) → PathFits roster p → IsLineOf (path_words roster p)
path_line roster k p h =
    (some_word _ _, (literal (codes "path") refl, (number_word p.spi (omega (arith, h.0)), mapped (HopFits roster) IsWord (hop_text roster) (hop_word roster k) p.rows h.1)))

path_lines : (roster : Entries) → IsRoster roster → (table : List ServicePath) → AllByRecursion (PathFits roster) table
    → AllByRecursion IsLineOf (map (path_words roster) table)
path_lines roster k [] h = tt
path_lines roster k (p ∷ table) h = (path_line roster k p h.0, path_lines roster k table h.1)

one_paths : (roster : Entries) → IsRoster roster → (t u : List ServicePath) → AllByRecursion (PathFits roster) t → AllByRecursion (PathFits roster) u
    → map (path_words roster) t ≡ map (path_words roster) u → t ≡ u
one_paths roster k [] [] ht hu e = refl
one_paths roster k [] (q ∷ u) ht hu e = absurd cc
one_paths roster k (p ∷ t) [] ht hu e = absurd cc
one_paths roster k (p ∷ t) (q ∷ u) ht hu e =
    let first = one_path roster k p q ht.0 hu.0 (same_head _ _ _ _ e) in
    let others = one_paths roster k t u ht.1 hu.1 (same_tail _ _ _ _ e) in
    ap (λ x. x ∷ t) first ∙ ap (λ xs. q ∷ xs) others

fits_of : (roster : Entries) (v : ℕ) (t : List ServicePath) → IsPublished roster v t → AllByRecursion (PathFits roster) t
fits_of roster v t h = paths_fit roster 0 t h.is_table (recursion_from_All _ t h.identifiers_fit) (recursion_from_All _ t h.known)

-- one table of one version
pub one_table : (roster : Entries) (v w : ℕ) (t u : List ServicePath) → IsRoster roster → IsPublished roster v t → IsPublished roster w u
    → table_text roster v t ≡ table_text roster w u → (v ≡ w) × (t ≡ u)
unfolding table_text
one_table roster v w t u k ht hu e =
    let ft = fits_of roster v t ht in
    let fu = fits_of roster w u hu in
    let all = one_words (version_words v ∷ map (path_words roster) t) (version_words w ∷ map (path_words roster) u)
    (version_line v ht.version_fits, path_lines roster k t ft) (version_line w hu.version_fits, path_lines roster k u fu) e in
    let version = decimal_injective v w ht.version_fits hu.version_fits (same_head _ _ _ _ (same_tail _ _ _ _ (same_head _ _ _ _ all))) in
    (version, one_paths roster k t u ft fu (same_tail _ _ _ _ all))
