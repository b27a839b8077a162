-- Names of the roster, reasons and ends: they are cut at opening brackets, and one value a word.
use Rattle.std.proofs.Common.{◌≡◌, ℕ, ◌+◌, ◌*◌, ◌≤◌, List, [], ◌∷◌, ◌++◌, length, get_or, refl, sym, ap, ◌∙◌, arith, lit<, inl, inr}
use Rattle.std.specs.Prelude.{◌==◌, codes, true, false}
use Rattle.std.specs.List.{join_with_byte}
use Rattle.std.specs.Fmt.{decimal}
use Rattle.std.proofs.lemmas.Bool.{cases_order}
use Rattle.std.proofs.lemmas.Bool.Decides.{nat_tests}
use Rattle.std.proofs.lemmas.Fmt.{decimal_injective}
use Rattle.std.proofs.lemmas.List.{append_cancel_left, append_cancel_right}
use Rattle.std.proofs.lemmas.List.Elements.{All-from_recursion, All-append, All-cons}
use Rattle.std.proofs.lemmas.List.Splits.{slice_split_none}
use Rattle.wire_base.specs.declared.ids.InstanceId.{InstanceId}
use Rattle.text_words.specs.Names.{IsName, is_name_byte}
use Rattle.text_words.specs.Pieces.{pieces_of}
use Rattle.text_words.proofs.NumberLemmas.{decimal-lacks}
use Rattle.sfc_routes.specs.Entries.{Entries, IsRoster}
use Rattle.record_text.specs.declared.records.End.{End}
use Rattle.record_text.specs.declared.records.End.TheVariants.{Egress, Bypass, Drop}
use Rattle.record_text.specs.declared.records.Reason.{Reason}
use Rattle.record_text.specs.declared.records.Reason.TheVariants.{Rule, NshIngress, Ttl, NoPath, NoInstance, Denied, HopLimit, Meta, MetaFull, TooLong}
use Rattle.record_text.specs.declared.reason_words.ReasonWord.{ReasonWord}
use Rattle.record_text.specs.declared.reason_words.ReasonWord.TheVariants as word
use Rattle.record_text.specs.Names.{no_instance, IsInstance, instance_text}
use Rattle.record_text.specs.Ends.{bracketed, reason_text, end_text, ReasonNames, EndNames, ReasonFits, EndFits}
use Rattle.record_text.specs.Steps.{reason_word_text, word_of, closed, told_pieces, reason_pieces}
use Rattle.record_text.proofs.FieldLemmas.{same_head, same_tail}
use Rattle.record_text.proofs.WordLemmas.{Lacks, IsWord, literal, number_word, name_word, name_lacks, joined_pieces}

pub instance_name : (roster : Entries) → IsRoster roster → (i : InstanceId) → IsInstance roster i → IsName (instance_text roster i)
instance_name roster k i h = k.instance_names i.0 no_instance h

abbrev id_of : ℕ → InstanceId
id_of n = record { 0 = n }

-- one instance a name
pub one_instance : (roster : Entries) → IsRoster roster → (a b : InstanceId) → IsInstance roster a → IsInstance roster b
    → instance_text roster a ≡ instance_text roster b → a ≡ b
one_instance roster k a b ha hb e = elim (cases_order a.0 b.0) [
  | inl same ↦ ap id_of same
  | inr (inl less) ↦ absurd (k.instance_names_differ a.0 b.0 no_instance less hb e)
  | inr (inr more) ↦ absurd (k.instance_names_differ b.0 a.0 no_instance more ha (sym e))
]

name_byte_no_bracket : (c : ℕ) → is_name_byte c ≡ true → (c == 40) ≡ false
name_byte_no_bracket c h = grind (arith, nat_tests)

closed_lacks : (more : List ℕ) → Lacks 40 more → Lacks 40 (more ++ 41 ∷ [])
closed_lacks more h = All-append (λ b. (b == 40) ≡ false) more (41 ∷ []) h (All-from_recursion (λ b. (b == 40) ≡ false) (41 ∷ []) (refl, tt))

cut_closed : (more : List ℕ) → Lacks 40 more → pieces_of 40 (more ++ 41 ∷ []) ≡ closed more
unfolding pieces_of
cut_closed more h = slice_split_none (λ b. b == 40) (more ++ 41 ∷ []) (closed_lacks more h)

cut_index : (si : ℕ) → si ≤ 255 → pieces_of 40 (decimal si ++ 41 ∷ []) ≡ closed (decimal si)
cut_index si h = cut_closed (decimal si) (decimal-lacks 40 si (lit< tt) (omega (arith, h)))

cut_name : (roster : Entries) → IsRoster roster → (i : InstanceId) → IsInstance roster i → pieces_of 40 (instance_text roster i ++ 41 ∷ []) ≡ closed (instance_text roster i)
cut_name roster k i h = cut_closed (instance_text roster i) (name_lacks 40 _ name_byte_no_bracket (instance_name roster k i h))

-- the pieces of a reason
pub cut_reason : (roster : Entries) → IsRoster roster → (r : Reason) → ReasonFits roster r → pieces_of 40 (reason_text roster r) ≡ reason_pieces roster r
unfolding pieces_of
cut_reason roster k Rule h = refl
cut_reason roster k NshIngress h = refl
cut_reason roster k Ttl h = refl
cut_reason roster k NoPath h = refl
cut_reason roster k (NoInstance si) h = ap (λ r. codes "no-instance" ∷ r) (cut_index si h)
cut_reason roster k (Denied i) h = ap (λ r. codes "denied" ∷ r) (cut_name roster k i h)
cut_reason roster k (HopLimit i) h = ap (λ r. codes "hop-limit" ∷ r) (cut_name roster k i h)
cut_reason roster k (Meta i) h = ap (λ r. codes "meta" ∷ r) (cut_name roster k i h)
cut_reason roster k (MetaFull i) h = ap (λ r. codes "meta-full" ∷ r) (cut_name roster k i h)
cut_reason roster k (TooLong i) h = ap (λ r. codes "too-long" ∷ r) (cut_name roster k i h)

pieces_joined : (roster : Entries) (r : Reason) → join_with_byte 40 (reason_pieces roster r) ≡ reason_text roster r
pieces_joined roster Rule = refl
pieces_joined roster NshIngress = refl
pieces_joined roster Ttl = refl
pieces_joined roster NoPath = refl
pieces_joined roster (NoInstance si) = refl
pieces_joined roster (Denied i) = refl
pieces_joined roster (HopLimit i) = refl
pieces_joined roster (Meta i) = refl
pieces_joined roster (MetaFull i) = refl
pieces_joined roster (TooLong i) = refl

pub reason_joined : (roster : Entries) (text : List ℕ) (r : Reason) → pieces_of 40 text ≡ reason_pieces roster r → text ≡ reason_text roster r
reason_joined roster text r e = joined_pieces 40 text (reason_pieces roster r) e ∙ pieces_joined roster r

-- words differ that have other lengths or other first bytes
differ : (v w : List ℕ) → v ≡ w → (65536 * length v + 256 * get_or v 0 0 + get_or v 1 0) ≡ (65536 * length w + 256 * get_or w 0 0 + get_or w 1 0)
differ v w e = ap (λ x. 65536 * length x + 256 * get_or x 0 0 + get_or x 1 0) e

one_reason_word : (a b : ReasonWord) → reason_word_text a ≡ reason_word_text b → a ≡ b
one_reason_word word.Rule word.Rule e = refl
one_reason_word word.NshIngress word.NshIngress e = refl
one_reason_word word.Ttl word.Ttl e = refl
one_reason_word word.NoPath word.NoPath e = refl
one_reason_word word.NoInstance word.NoInstance e = refl
one_reason_word word.Denied word.Denied e = refl
one_reason_word word.HopLimit word.HopLimit e = refl
one_reason_word word.Meta word.Meta e = refl
one_reason_word word.MetaFull word.MetaFull e = refl
one_reason_word word.TooLong word.TooLong e = refl
one_reason_word a b e = absurd (omega (arith, differ _ _ e))

one_closed : (a b : List ℕ) → closed a ≡ closed b → a ≡ b
one_closed a b e = append_cancel_right a b (41 ∷ []) (same_head (a ++ 41 ∷ []) (b ++ 41 ∷ []) [] [] e)

one_told : (roster : Entries) → IsRoster roster → (r q : Reason) → word_of r ≡ word_of q → ReasonFits roster r → ReasonFits roster q
    → told_pieces roster r ≡ told_pieces roster q → r ≡ q
one_told roster k Rule Rule w hr hq e = refl
one_told roster k NshIngress NshIngress w hr hq e = refl
one_told roster k Ttl Ttl w hr hq e = refl
one_told roster k NoPath NoPath w hr hq e = refl
one_told roster k (NoInstance a) (NoInstance b) w hr hq e =
    ap NoInstance (decimal_injective a b (omega (arith, hr)) (omega (arith, hq)) (one_closed (decimal a) (decimal b) e))
one_told roster k (Denied a) (Denied b) w hr hq e = ap Denied (one_instance roster k a b hr hq (one_closed _ _ e))
one_told roster k (HopLimit a) (HopLimit b) w hr hq e = ap HopLimit (one_instance roster k a b hr hq (one_closed _ _ e))
one_told roster k (Meta a) (Meta b) w hr hq e = ap Meta (one_instance roster k a b hr hq (one_closed _ _ e))
one_told roster k (MetaFull a) (MetaFull b) w hr hq e = ap MetaFull (one_instance roster k a b hr hq (one_closed _ _ e))
one_told roster k (TooLong a) (TooLong b) w hr hq e = ap TooLong (one_instance roster k a b hr hq (one_closed _ _ e))
one_told roster k r q w hr hq e = absurd cc

one_reason : (roster : Entries) → IsRoster roster → (r q : Reason) → ReasonFits roster r → ReasonFits roster q → reason_text roster r ≡ reason_text roster q → r ≡ q
one_reason roster k r q hr hq e =
    let pieces = sym (cut_reason roster k r hr) ∙ ap (pieces_of 40) e ∙ cut_reason roster k q hq in
    one_told roster k r q (one_reason_word (word_of r) (word_of q) (same_head _ _ _ _ pieces)) hr hq (same_tail _ _ _ _ pieces)

first_differs : (v w : List ℕ) → v ≡ w → get_or v 0 0 ≡ get_or w 0 0
first_differs v w e = ap (λ x. get_or x 0 0) e

-- one end a word
pub one_end : (roster : Entries) → IsRoster roster → (a b : End) → EndFits roster a → EndFits roster b → end_text roster a ≡ end_text roster b → a ≡ b
one_end roster k Egress Egress ha hb e = refl
one_end roster k Bypass Bypass ha hb e = refl
one_end roster k (Drop r) (Drop q) ha hb e =
    ap Drop (one_reason roster k r q ha hb (append_cancel_left (codes "drop:") (reason_text roster r) (reason_text roster q) e))
one_end roster k a b ha hb e = absurd (omega (arith, first_differs _ _ e))

bracketed_word : (w more : List ℕ) → IsWord w → IsWord more → IsWord (bracketed w more)
bracketed_word w more hw hm =
    All-append (λ b. 33 ≤ b) w (40 ∷ (more ++ 41 ∷ [])) hw (All-cons (λ b. 33 ≤ b) 40 (more ++ 41 ∷ []) (omega arith)
    (All-append (λ b. 33 ≤ b) more (41 ∷ []) hm (literal (41 ∷ []) refl)))

named_word : (roster : Entries) → IsRoster roster → (i : InstanceId) → IsInstance roster i → IsWord (instance_text roster i)
named_word roster k i h = name_word _ (instance_name roster k i h)

reason_word : (roster : Entries) → IsRoster roster → (r : Reason) → ReasonFits roster r → IsWord (reason_text roster r)
reason_word roster k Rule h = literal (codes "rule") refl
reason_word roster k NshIngress h = literal (codes "nsh-ingress") refl
reason_word roster k Ttl h = literal (codes "ttl") refl
reason_word roster k NoPath h = literal (codes "no-path") refl
reason_word roster k (NoInstance si) h = bracketed_word (codes "no-instance") (decimal si) (literal (codes "no-instance") refl) (number_word si (omega (arith, h)))
reason_word roster k (Denied i) h = bracketed_word (codes "denied") _ (literal (codes "denied") refl) (named_word roster k i h)
reason_word roster k (HopLimit i) h = bracketed_word (codes "hop-limit") _ (literal (codes "hop-limit") refl) (named_word roster k i h)
reason_word roster k (Meta i) h = bracketed_word (codes "meta") _ (literal (codes "meta") refl) (named_word roster k i h)
reason_word roster k (MetaFull i) h = bracketed_word (codes "meta-full") _ (literal (codes "meta-full") refl) (named_word roster k i h)
reason_word roster k (TooLong i) h = bracketed_word (codes "too-long") _ (literal (codes "too-long") refl) (named_word roster k i h)

-- the word of an end
pub end_word : (roster : Entries) → IsRoster roster → (a : End) → EndFits roster a → IsWord (end_text roster a)
end_word roster k Egress h = literal (codes "egress") refl
end_word roster k Bypass h = literal (codes "bypass") refl
end_word roster k (Drop r) h =
    All-append (λ b. 33 ≤ b) (codes "drop:") (reason_text roster r) (literal (codes "drop:") refl) (reason_word roster k r h)

reason_names : (roster : Entries) (r : Reason) → ReasonFits roster r → ReasonNames roster r
reason_names roster Rule h = tt
reason_names roster NshIngress h = tt
reason_names roster Ttl h = tt
reason_names roster NoPath h = tt
reason_names roster (NoInstance si) h = tt
reason_names roster (Denied i) h = h
reason_names roster (HopLimit i) h = h
reason_names roster (Meta i) h = h
reason_names roster (MetaFull i) h = h
reason_names roster (TooLong i) h = h

-- an end in its ranges names an instance of the roster
pub end_names : (roster : Entries) (a : End) → EndFits roster a → EndNames roster a
end_names roster Egress h = tt
end_names roster Bypass h = tt
end_names roster (Drop r) h = reason_names roster r h
