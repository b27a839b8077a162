-- A text of lines has one reading: its entries, or the first line that is refused, and never both.
use Rattle.std.proofs.Common.{◌≡◌, ◌⊎◌, ℕ, ◌+◌, List, [], ◌∷◌, ◌++◌, length, append_assoc, append-nil, refl, sym, ap, subst, ◌∙◌, arith, inl, inr, Result, Ok, Err}
use Rattle.std.specs.Prelude.{◌==◌, ◌≢◌, false}
use Rattle.std.specs.List.{All, AllByRecursion}
use Rattle.std.proofs.lemmas.List.{append_cancel_left, flat_map_more}
use Rattle.std.proofs.lemmas.List.Elements.{recursion_from_All, All-from_recursion, All-nil, All-cons, All-head, All-tail}
use Rattle.sfc_routes.specs.Entries.{Entries, IsRoster}
use Rattle.text_words.specs.Pieces.{pieces_of}
use Rattle.record_text.specs.declared.records.Record.{Record}
use Rattle.record_text.specs.declared.faults.RecordsFault.{RecordsFault}
use Rattle.record_text.specs.declared.faults.RecordsFault.TheVariants.{Line, OutOfMemory}
use Rattle.record_text.specs.Lines.{IsEntry, line_of, ended_line}
use Rattle.record_text.specs.Records.{lines_text, IsRecords, BeginsNoLine, IsRefused, Parses, HasReading}
use Rattle.record_text.proofs.FieldLemmas.{same_head, same_tail}
use Rattle.record_text.proofs.WordLemmas.{Lacks, is_itself, cut_first}
use Rattle.record_text.proofs.EntryLemmas.{line_lacks, one_entry}

-- a number and its record
abbrev pub Entry : Type 0
Entry = ℕ × Record

-- what has a mark does not lack it
pub lacks_not : (mark : ℕ) (xs ys : List ℕ) → Lacks mark (xs ++ mark ∷ ys) → ⊥
lacks_not mark [] ys h = let wrong = sym (is_itself mark) ∙ All-head (λ b. (b == mark) ≡ false) mark ys h in absurd cc
lacks_not mark (x ∷ xs) ys h = lacks_not mark xs ys (All-tail (λ b. (b == mark) ≡ false) x (xs ++ mark ∷ ys) h)

-- no line ends in a text without the byte that ends lines
pub no_line_end : (roster : Entries) (rest : List ℕ) → Lacks 10 rest → BeginsNoLine roster rest
no_line_end roster rest lacks = λ e behind fits is.
    lacks_not 10 (line_of roster e) behind (subst (Lacks 10) (is ∙ append_assoc (line_of roster e) (10 ∷ []) behind) lacks)

-- what stands before the first mark, and what stands behind it
pub first_part : (mark : ℕ) (a b x y : List ℕ) → Lacks mark a → Lacks mark b → a ++ mark ∷ x ≡ b ++ mark ∷ y → a ≡ b
first_part mark a b x y ha hb e =
    same_head a b (pieces_of mark x) (pieces_of mark y) (sym (cut_first mark a x ha) ∙ ap (pieces_of mark) e ∙ cut_first mark b y hb)

pub behind_part : (mark : ℕ) (a b x y : List ℕ) → a ≡ b → a ++ mark ∷ x ≡ b ++ mark ∷ y → x ≡ y
behind_part mark a b x y same e = same_tail mark mark x y (append_cancel_left b (mark ∷ x) (mark ∷ y) (ap (λ z. z ++ mark ∷ x) (sym same) ∙ e))

-- the first line of a text is no line of the grammar
pub no_line_other : (roster : Entries) → IsRoster roster → (rest line behind : List ℕ) → rest ≡ line ++ 10 ∷ behind → Lacks 10 line
    → ((e : Entry) → IsEntry roster e → line ≢ line_of roster e) → BeginsNoLine roster rest
no_line_other roster k rest line behind cut lacks none = λ e more fits is.
    none e fits (first_part 10 line (line_of roster e) behind more lacks (line_lacks roster k e fits) (sym cut ∙ is ∙ append_assoc (line_of roster e) (10 ∷ []) more))

pub not_empty : (rest : List ℕ) (line behind : List ℕ) → rest ≡ line ++ 10 ∷ behind → rest ≢ []
not_empty rest [] behind cut none = absurd (omega (arith, ap length (sym cut ∙ none)))
not_empty rest (b ∷ line) behind cut none = absurd (omega (arith, ap length (sym cut ∙ none)))

-- a line that is refused
pub refused_here : (roster : Entries) (text rest : List ℕ) (entries : List Entry) (n : ℕ) → All (IsEntry roster) entries → text ≡ lines_text roster entries ++ rest
    → n ≡ length entries + 1 → rest ≢ [] → BeginsNoLine roster rest → IsRefused roster text n
refused_here roster text rest entries n fit cut number more none =
    record { before = entries; rest = rest; fit = fit; cut = cut; number = number; more = more; none = none }

-- one more line
pub more_lines : (roster : Entries) (text rest line behind : List ℕ) (entries : List Entry) (e : Entry) → text ≡ lines_text roster entries ++ rest
    → rest ≡ line ++ 10 ∷ behind → line ≡ line_of roster e → text ≡ lines_text roster (entries ++ e ∷ []) ++ behind
more_lines roster text rest line behind entries e cut first is =
    cut ∙ ap (λ r. lines_text roster entries ++ r) (first ∙ ap (λ l. l ++ 10 ∷ behind) is ∙ sym (append_assoc (line_of roster e) (10 ∷ []) behind))
    ∙ sym (append_assoc (lines_text roster entries) (ended_line roster e) behind)
    ∙ ap (λ t. t ++ behind) (flat_map_more (ended_line roster) [] entries e)

-- a text that is left after its first line
shape : (roster : Entries) (e : Entry) (others rest : List ℕ) → (ended_line roster e ++ others) ++ rest ≡ line_of roster e ++ 10 ∷ (others ++ rest)
shape roster e others rest = append_assoc (ended_line roster e) others rest ∙ append_assoc (line_of roster e) (10 ∷ []) (others ++ rest)

-- the lines at the front of a text are those of one list of entries, as far as there are lines
first_lines : (roster : Entries) → IsRoster roster → (ds es : List Entry) (r q : List ℕ) → AllByRecursion (IsEntry roster) ds → AllByRecursion (IsEntry roster) es
    → lines_text roster ds ++ r ≡ lines_text roster es ++ q → BeginsNoLine roster r → BeginsNoLine roster q → (ds ≡ es) × (r ≡ q)
first_lines roster k [] [] r q hd he e nr nq = (refl, e)
first_lines roster k [] (f ∷ es) r q hd he e nr nq =
    absurd (nr f (lines_text roster es ++ q) he.0 (e ∙ append_assoc (ended_line roster f) (lines_text roster es) q))
first_lines roster k (d ∷ ds) [] r q hd he e nr nq =
    absurd (nq d (lines_text roster ds ++ r) hd.0 (sym e ∙ append_assoc (ended_line roster d) (lines_text roster ds) r))
first_lines roster k (d ∷ ds) (f ∷ es) r q hd he e nr nq =
    let both = sym (shape roster d (lines_text roster ds) r) ∙ e ∙ shape roster f (lines_text roster es) q in
    let line = first_part 10 _ _ _ _ (line_lacks roster k d hd.0) (line_lacks roster k f he.0) both in
    let one = one_entry roster k d f hd.0 he.0 line in
    let others = first_lines roster k ds es r q hd.1 he.1 (behind_part 10 _ _ _ _ line both) nr nq in
    (ap (λ x. x ∷ ds) one ∙ ap (λ xs. f ∷ xs) others.0, others.1)

nothing_begins : (roster : Entries) → BeginsNoLine roster []
nothing_begins roster = λ e behind fits is. absurd (not_empty [] (line_of roster e) behind (is ∙ append_assoc (line_of roster e) (10 ∷ []) behind) refl)

at_end : (roster : Entries) (text : List ℕ) (es : List Entry) → IsRecords roster text es → text ≡ lines_text roster es ++ []
at_end roster text es h = h.spelled ∙ sym (append-nil (lines_text roster es))

-- one list of entries
pub one_records : (roster : Entries) (text : List ℕ) (ds es : List Entry) → IsRoster roster → IsRecords roster text ds → IsRecords roster text es → ds ≡ es
one_records roster text ds es k hd he =
    (first_lines roster k ds es [] [] (recursion_from_All _ ds hd.fit) (recursion_from_All _ es he.fit)
    (sym (at_end roster text ds hd) ∙ at_end roster text es he) (nothing_begins roster) (nothing_begins roster)).0

-- one refused line
pub one_refusal : (roster : Entries) (text : List ℕ) (m n : ℕ) → IsRoster roster → IsRefused roster text m → IsRefused roster text n → m ≡ n
one_refusal roster text m n k a b =
    let both = first_lines roster k a.before b.before a.rest b.rest (recursion_from_All _ a.before a.fit) (recursion_from_All _ b.before b.fit)
    (sym a.cut ∙ b.cut) a.none b.none in
    a.number ∙ ap (λ xs. length xs + 1) both.0 ∙ sym b.number

-- never both
pub read_not_refused : (roster : Entries) (text : List ℕ) (es : List Entry) (n : ℕ) → IsRoster roster → IsRecords roster text es → IsRefused roster text n → ⊥
read_not_refused roster text es n k h f =
    let both = first_lines roster k f.before es f.rest [] (recursion_from_All _ f.before f.fit) (recursion_from_All _ es h.fit)
    (sym f.cut ∙ at_end roster text es h) f.none (nothing_begins roster) in
    f.more both.1

pub one_line : (roster : Entries) (line : List ℕ) (d e : Entry) → IsRoster roster → IsEntry roster d × (line ≡ line_of roster d) → IsEntry roster e × (line ≡ line_of roster e) → d ≡ e
one_line roster line d e k hd he = one_entry roster k d e hd.0 he.0 (sym hd.1 ∙ he.1)

-- parsing gives the entries of a text
pub parses_records : (roster : Entries) (text : List ℕ) (es : List Entry) (a : Result (List Entry) RecordsFault) → IsRoster roster → IsRecords roster text es
    → Parses roster text a → (a ≡ Ok es) ⊎ (a ≡ Err OutOfMemory)
parses_records roster text es (Ok ds) k h p = inl (ap Ok (one_records roster text ds es k p h))
parses_records roster text es (Err (Line n)) k h p = absurd (read_not_refused roster text es n k h p)
parses_records roster text es (Err OutOfMemory) k h p = inr refl

abbrev answer_of : ℕ → Result (List Entry) RecordsFault
answer_of n = Err (Line n)

-- and the line of a text that is refused
pub parses_refused : (roster : Entries) (text : List ℕ) (n : ℕ) (a : Result (List Entry) RecordsFault) → IsRoster roster → IsRefused roster text n
    → Parses roster text a → (a ≡ Err (Line n)) ⊎ (a ≡ Err OutOfMemory)
parses_refused roster text n (Ok ds) k h p = absurd (read_not_refused roster text ds n k p h)
parses_refused roster text n (Err (Line m)) k h p = inl (ap answer_of (one_refusal roster text m n k p h))
parses_refused roster text n (Err OutOfMemory) k h p = inr refl

-- the text of one line
pub printed_record : (roster : Entries) (e : Entry) → IsEntry roster e → IsRecords roster (ended_line roster e) (e ∷ [])
printed_record roster e h = record {
  fit = All-from_recursion (IsEntry roster) (e ∷ []) (h, tt);
  spelled = sym (append-nil (ended_line roster e));
}

-- the empty text
pub reading_end : (roster : Entries) (text : List ℕ) → text ≡ [] → HasReading roster text
reading_end roster text none = inl ([], record { fit = All-nil (IsEntry roster); spelled = none })

-- a text whose first line is refused
pub reading_none : (roster : Entries) (text : List ℕ) → text ≢ [] → BeginsNoLine roster text → HasReading roster text
reading_none roster text more none = inr (1, refused_here roster text text [] 1 (All-nil (IsEntry roster)) refl refl more none)

-- a text whose first line is in the grammar
pub reading_more : (roster : Entries) (text line behind : List ℕ) (e : Entry) → IsEntry roster e → line ≡ line_of roster e → text ≡ line ++ 10 ∷ behind
    → HasReading roster behind → HasReading roster text
reading_more roster text line behind e fits is cut (inl read) =
    let first = cut ∙ ap (λ l. l ++ 10 ∷ behind) is ∙ sym (append_assoc (line_of roster e) (10 ∷ []) behind) in
    inl (
      e ∷ read.0,
      record {
        fit = All-cons (IsEntry roster) e read.0 fits read.1.fit;
        spelled = first ∙ ap (λ t. ended_line roster e ++ t) read.1.spelled;
      },
    )
reading_more roster text line behind e fits is cut (inr refused) =
    let f = refused.1 in
    let first = cut ∙ ap (λ l. l ++ 10 ∷ behind) is ∙ sym (append_assoc (line_of roster e) (10 ∷ []) behind) in
    inr (
      refused.0 + 1,
      record {
        before = e ∷ f.before;
        rest = f.rest;
        fit = All-cons (IsEntry roster) e f.before fits f.fit;
        cut = first ∙ ap (λ t. ended_line roster e ++ t) f.cut ∙ sym (append_assoc (ended_line roster e) (lines_text roster f.before) f.rest);
        number = let number = f.number in omega (arith, number);
        more = f.more;
        none = f.none;
      },
    )
