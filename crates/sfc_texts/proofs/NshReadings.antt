-- The text of a header and of what follows it, from the first bytes; and that there is one.
use Rattle.std.proofs.Common.{◌≡◌, ℕ, ◌+◌, ◌-◌, ◌<◌, ◌≤◌, List, [], ◌∷◌, ◌++◌, length, append-nil, Result, Ok, Err, IfOk, refl, sym, ap, subst, ◌∙◌, inl, inr, arith}
use Rattle.std.specs.Prelude.{IfErr}
use Rattle.std.proofs.lemmas.List.{length-append}
use Rattle.std.proofs.lemmas.Bool.{cases_lt}
use Rattle.nsh_headers.specs.declared.faults.NshFault.{NshFault}
use Rattle.nsh_headers.specs.declared.faults.NshFault.TheVariants.{Short}
use Rattle.nsh_metadata.specs.Header.{Header, BeginsWith}
use Rattle.nsh_metadata.specs.Refusal.{Refused}
use Rattle.nsh_metadata.proofs.FeedLemmas.{begins_append, breaks_append}
use Rattle.sfc_texts.specs.NshText.{header_lines, refusal_line, ShowsNsh, header, refusal}

-- a header is at the front, whatever follows
pub header_of_front : (front rest : List ℕ) (h : Header) (n behind : ℕ) (text : List ℕ) → BeginsWith front h n → length rest ≡ behind
    → text ≡ header_lines h (length front - n + behind) → ShowsNsh (front ++ rest) text
header_of_front front rest h n behind text begins count is =
    let same : length front - n + behind ≡ length (front ++ rest) - n = omega (arith, length-append front rest, begins.within, count) in
    header h n (begins_append front rest h n begins) (is ∙ ap (λ (k : ℕ). header_lines h k) same)

none_of_no_length : (rest : List ℕ) → length rest ≡ 0 → rest ≡ []
none_of_no_length [] none = refl
none_of_no_length (b ∷ rest) none = absurd (omega (arith, none))

-- what is refused with 252 bytes is refused whatever follows, and with fewer nothing follows
pub refusal_of_front : (front rest : List ℕ) (f : NshFault) (behind : ℕ) (text : List ℕ) → Refused front f → (f ≡ Short (length front) → length front < 252) → (length front < 252 → behind ≡ 0)
    → length rest ≡ behind → text ≡ refusal_line f → ShowsNsh (front ++ rest) text
refusal_of_front front rest f behind text (inl breaks) few none count is = refusal f (inl (breaks_append front rest f breaks)) is
refusal_of_front front rest f behind text (inr held) few none count is =
    let ended : rest ≡ [] = none_of_no_length rest (count ∙ none (few held.1)) in
    let all : front ≡ front ++ rest = sym (append-nil front) ∙ ap (λ (r : List ℕ). front ++ r) (sym ended) in
    subst (λ (b : List ℕ). ShowsNsh b text) all (refusal f (inr held) is)

-- where 252 bytes are never too few
pub few_are_short : (front : List ℕ) (f : NshFault) → (252 ≤ length front → f ≡ Short (length front) → ⊥) → f ≡ Short (length front) → length front < 252
few_are_short front f enough short =
    elim (cases_lt (length front) 252) [ inl less ↦ less | inr more ↦ absurd (enough more short) ]

-- a reading has a text
pub some_text : (bytes : List ℕ) (r : Result (Header × ℕ) NshFault) → IfOk r (λ x. BeginsWith bytes x.0 x.1) → IfErr r (Refused bytes) → (text : List ℕ) × ShowsNsh bytes text
some_text bytes (Ok x) begins refused = (header_lines x.0 (length bytes - x.1), header x.0 x.1 begins refl)
some_text bytes (Err f) begins refused = (refusal_line f, refusal f refused refl)
