-- A text has one reading: one setup, or one refusal, and never both.
use Rattle.std.proofs.Common.{◌≡◌, ◌⊎◌, ℕ, ◌+◌, List, [], ◌∷◌, ◌++◌, length, refl, sym, ◌∙◌, ap, subst, arith, inl, inr, Option, Some, Result, Ok, Err}
use Rattle.std.specs.Prelude.{◌≢◌}
use Rattle.std.specs.List.{AllPairs}
use Rattle.std.proofs.lemmas.Bool.{cases_order}
use Rattle.std.proofs.lemmas.List.Quantifiers.{all_pairs_push}
use Rattle.wire_base.specs.declared.ids.ForwarderId.{ForwarderId}
use Rattle.text_words.specs.Lines.{lines_of}
use Rattle.text_words.specs.Pieces.{words_of}
use Rattle.bgp_session.specs.declared.local_sides.Local.{Local as LocalSide}
use Rattle.classifier.specs.declared.rules.Rule.{Rule as OneRule}
use Rattle.sfc_routes.specs.Entries.{Entries, IsAt}
use Rattle.sfc_routes.specs.declared.entries.ForwarderEntry.{ForwarderEntry}
use Rattle.setup_statements.specs.declared.statements.Bound.{Bound}
use Rattle.setup_statements.specs.declared.statements.Statement.{Statement}
use Rattle.setup_statements.specs.declared.statements.Statement.TheVariants.{Forwarder, Ingress}
use Rattle.setup_statements.specs.Statements.{Spells, keyword_of}
use Rattle.setup_statements.proofs.StepLemmas.{head_is, tail_is}
use Rattle.setup_statements.proofs.StatementLemmas.{one_statement}
use Rattle.sfc_config.specs.declared.drafts.Draft.{Draft}
use Rattle.sfc_config.specs.declared.faults.SetupReason.{SetupReason}
use Rattle.sfc_config.specs.declared.faults.SetupReason.TheVariants.{Byte, Word, Shape, Count, Name, Twice, Mode, Missing, NoPeer}
use Rattle.sfc_config.specs.declared.faults.SetupFault.{SetupFault}
use Rattle.sfc_config.specs.declared.faults.SetupFault.TheVariants.{Line, OutOfMemory}
use Rattle.sfc_config.specs.Parts.{Parts}
use Rattle.sfc_config.specs.Drafts.{nothing, Fits, Adds}
use Rattle.sfc_config.specs.Texts.{IsSaid, Says, Skips, Takes, Begins, Clashes, Refused, Refuses, Runs, IsWhole, Ends, IsSetup, LineRefused, EndRefused, IsRefused, Parses}

-- no two forwarders have one name
abbrev pub NamesDiffer : Draft → Type 0
NamesDiffer d = AllPairs (λ (f g : ForwarderEntry). f.name ≢ g.name) d.roster.forwarders

place_one : (xs : List ForwarderEntry) (n : List ℕ) (i j : ℕ) → AllPairs (λ f g. f.name ≢ g.name) xs
    → IsAt (λ f. f.name ≡ n) xs i → IsAt (λ f. f.name ≡ n) xs j → i ≡ j
place_one [] n i j pairs a b = absurd (omega (arith, a.0))
place_one (x ∷ xs) n i j pairs a b = elim (cases_order i j) [
  | inl same ↦ same
  | inr (inl less) ↦ absurd (pairs i j x less b.0 (a.1 x ∙ sym (b.1 x)))
  | inr (inr more) ↦ absurd (pairs j i x more a.0 (b.1 x ∙ sym (a.1 x)))
]

abbrev id_of : ℕ → ForwarderId
id_of n = record { 0 = n }

adds_one : (d e f : Draft) (s : Statement) → NamesDiffer d → Adds d s e → Adds d s f → e ≡ f
adds_one d e f (Ingress name) k a b =
    let place = place_one d.roster.forwarders name a.0.0 b.0.0 k a.1 b.1 in
    a.2 ∙ ap (λ (n : ℕ). record d { ingress = Some (id_of n) }) place ∙ sym b.2
adds_one d e f s k a b = a ∙ sym b

adds_named : (d e : Draft) (s : Statement) → Fits d s → NamesDiffer d → Adds d s e → NamesDiffer e
adds_named d e (Forwarder f) fits k h =
    subst NamesDiffer (sym h) (all_pairs_push (λ (f g : ForwarderEntry). f.name ≢ g.name) d.roster.forwarders f k (λ i g lt. fits.new.0 i g lt))
adds_named d e (Ingress name) fits k h = subst NamesDiffer (sym h.2) k
adds_named d e s fits k h = subst NamesDiffer (sym h) k

pub takes_named : (d e : Draft) (line : List ℕ) → NamesDiffer d → Takes d line e → NamesDiffer e
takes_named d e line k (inl skips) = subst NamesDiffer (sym skips.same) k
takes_named d e line k (inr says) = adds_named d e says.statement says.fits k says.added

pub takes_one : (d e f : Draft) (line : List ℕ) → NamesDiffer d → Takes d line e → Takes d line f → e ≡ f
takes_one d e f line k (inl a) (inl b) = a.same ∙ sym b.same
takes_one d e f line k (inl a) (inr b) = let wrong = sym a.skipped ∙ b.said.kept in absurd cc
takes_one d e f line k (inr a) (inl b) = let wrong = sym b.skipped ∙ a.said.kept in absurd cc
takes_one d e f line k (inr a) (inr b) =
    let same = one_statement _ a.statement b.statement a.spelled b.spelled in
    adds_one d e f b.statement k (subst (λ s. Adds d s e) same a.added) b.added

runs_one : (d e f : Draft) (lines : List (List ℕ)) → NamesDiffer d → Runs d lines e → Runs d lines f → e ≡ f
runs_one d e f [] k a b = a ∙ sym b
runs_one d e f (line ∷ lines) k a b =
    let same = takes_one d a.0 b.0 line k a.1 b.1 in
    runs_one b.0 e f lines (takes_named d b.0 line k b.1) (subst (λ m. Runs m lines e) same a.2) b.2

abbrev parts_of : LocalSide → List (ℕ × ℕ) → Entries → ForwarderId → List Bound → List OneRule → Parts
parts_of l p r i b q = record { local = l; peers = p; roster = r; ingress = i; instances = b; rules = q }

some_one : {X : Type 0} (o : Option X) (x y : X) → o ≡ Some x → o ≡ Some y → x ≡ y
some_one o x y a b = cc

ends_one : (d : Draft) (p q : Parts) → Ends d p → Ends d q → p ≡ q
ends_one d p q a b =
    ap (λ x. parts_of x p.peers p.roster p.ingress p.instances p.rules) (some_one d.local _ _ a.local b.local)
    ∙ ap (λ x. parts_of q.local x p.roster p.ingress p.instances p.rules) (a.peers ∙ sym b.peers)
    ∙ ap (λ x. parts_of q.local q.peers x p.ingress p.instances p.rules) (a.roster ∙ sym b.roster)
    ∙ ap (λ x. parts_of q.local q.peers q.roster x p.instances p.rules) (some_one d.ingress _ _ a.ingress b.ingress)
    ∙ ap (λ x. parts_of q.local q.peers q.roster q.ingress x p.rules) (a.instances ∙ sym b.instances)
    ∙ ap (λ x. parts_of q.local q.peers q.roster q.ingress q.instances x) (a.rules ∙ sym b.rules)

none_named : NamesDiffer nothing
none_named = λ i j f low lt. absurd (omega (arith, lt))

-- one setup
pub one_setup : (text : List ℕ) (p q : Parts) → IsSetup text p → IsSetup text q → p ≡ q
one_setup text p q a b =
    let same = runs_one nothing a.draft b.draft (lines_of text) none_named a.runs b.runs in
    ends_one b.draft p q (subst (λ d. Ends d p) same a.ends) b.ends

begins : (line : List ℕ) (s : Statement) → Spells (words_of line) s → Begins line
begins line s spelled = (keyword_of s, spelled.behind, spelled.first)

fits_no_clash : (d : Draft) (s : Statement) (r : SetupReason) → Fits d s → Clashes d s r → ⊥
fits_no_clash d s Count fits c = c fits.room
fits_no_clash d s Name fits c = c.1 fits.known
fits_no_clash d s Twice fits c = c.2 fits.new
fits_no_clash d s Mode fits c = c.3 fits.servable
fits_no_clash d s r fits c = c

skipped_or_said : (d e : Draft) (line : List ℕ) → Skips d line e → IsSaid line → ⊥
skipped_or_said d e line skips said = let wrong = sym skips.skipped ∙ said.kept in absurd cc

printable_of : (d e : Draft) (line : List ℕ) → Takes d line e → Refuses d line Byte → ⊥
printable_of d e line (inl skips) r = r skips.printable
printable_of d e line (inr says) r = r says.said.printable

says_not_refused : (d e : Draft) (line : List ℕ) (r : SetupReason) → Says d line e → Refused d line r → ⊥
says_not_refused d e line r says f =
    let same = one_statement _ f.statement says.statement f.spelled says.spelled in
    fits_no_clash d says.statement r says.fits (subst (λ s. Clashes d s r) same f.clash)

-- no line is both taken and refused
pub taken_not_refused : (d e : Draft) (line : List ℕ) (r : SetupReason) → Takes d line e → Refuses d line r → ⊥
taken_not_refused d e line Byte takes f = printable_of d e line takes f
taken_not_refused d e line Word (inl skips) f = skipped_or_said d e line skips f.0
taken_not_refused d e line Word (inr says) f = f.1 (begins line says.statement says.spelled)
taken_not_refused d e line Shape (inl skips) f = skipped_or_said d e line skips f.0
taken_not_refused d e line Shape (inr says) f = f.2 says.statement says.spelled
taken_not_refused d e line r (inl skips) f = skipped_or_said d e line skips f.said
taken_not_refused d e line r (inr says) f = says_not_refused d e line r says f

clash_one : (d : Draft) (s : Statement) (r q : SetupReason) → Clashes d s r → Clashes d s q → r ≡ q
clash_one d s Count Count a b = refl
clash_one d s Count Name a b = absurd (a b.0)
clash_one d s Count Twice a b = absurd (a b.0)
clash_one d s Count Mode a b = absurd (a b.0)
clash_one d s Name Count a b = absurd (b a.0)
clash_one d s Name Name a b = refl
clash_one d s Name Twice a b = absurd (a.1 b.1)
clash_one d s Name Mode a b = absurd (a.1 b.1)
clash_one d s Twice Count a b = absurd (b a.0)
clash_one d s Twice Name a b = absurd (b.1 a.1)
clash_one d s Twice Twice a b = refl
clash_one d s Twice Mode a b = absurd (a.2 b.2)
clash_one d s Mode Count a b = absurd (b a.0)
clash_one d s Mode Name a b = absurd (b.1 a.1)
clash_one d s Mode Twice a b = absurd (b.2 a.2)
clash_one d s Mode Mode a b = refl
clash_one d s Byte q a b = absurd a
clash_one d s Word q a b = absurd a
clash_one d s Shape q a b = absurd a
clash_one d s Missing q a b = absurd a
clash_one d s NoPeer q a b = absurd a
clash_one d s r q a b = absurd b

refused_one_by_clash : (d : Draft) (line : List ℕ) (r q : SetupReason) → Refused d line r → Refused d line q → r ≡ q
refused_one_by_clash d line r q a b =
    let same = one_statement _ a.statement b.statement a.spelled b.spelled in
    clash_one d b.statement r q (subst (λ s. Clashes d s r) same a.clash) b.clash

-- a line has one first reason
pub refused_one : (d : Draft) (line : List ℕ) (r q : SetupReason) → Refuses d line r → Refuses d line q → r ≡ q
refused_one d line Byte Byte a b = refl
refused_one d line Byte Word a b = absurd (a b.0.printable)
refused_one d line Byte Shape a b = absurd (a b.0.printable)
refused_one d line Byte q a b = absurd (a b.said.printable)
refused_one d line Word Byte a b = absurd (b a.0.printable)
refused_one d line Word Word a b = refl
refused_one d line Word Shape a b = absurd (a.1 b.1)
refused_one d line Word q a b = absurd (a.1 (begins line b.statement b.spelled))
refused_one d line Shape Byte a b = absurd (b a.0.printable)
refused_one d line Shape Word a b = absurd (b.1 a.1)
refused_one d line Shape Shape a b = refl
refused_one d line Shape q a b = absurd (a.2 b.statement b.spelled)
refused_one d line r Byte a b = absurd (b a.said.printable)
refused_one d line r Word a b = absurd (b.1 (begins line a.statement a.spelled))
refused_one d line r Shape a b = absurd (b.2 a.statement a.spelled)
refused_one d line r q a b = refused_one_by_clash d line r q a b

-- no run goes past a line that is refused
no_run_past : (d m e : Draft) (before behind : List (List ℕ)) (line : List ℕ) (r : SetupReason) → NamesDiffer d
    → Runs d before m → Refuses m line r → Runs d (before ++ line ∷ behind) e → ⊥
no_run_past d m e [] behind line r k runs refuses past = taken_not_refused d past.0 line r past.1 (subst (λ x. Refuses x line r) runs refuses)
no_run_past d m e (l ∷ ls) behind line r k runs refuses past =
    let same = takes_one d past.0 runs.0 l k past.1 runs.1 in
    no_run_past runs.0 m e ls behind line r (takes_named d runs.0 l k runs.1) runs.2 refuses
    (subst (λ x. Runs x (ls ++ line ∷ behind) e) same past.2)

abbrev OneRefusal : ℕ → ℕ → SetupReason → SetupReason → Type 0
OneRefusal m n r q = (m ≡ n) × (r ≡ q)

-- two first refusals of the same lines
first_one : (d m n : Draft) (b c : List (List ℕ)) (x y : List ℕ) (xs ys : List (List ℕ)) (r q : SetupReason) → NamesDiffer d → b ++ x ∷ xs ≡ c ++ y ∷ ys
    → Runs d b m → Refuses m x r → Runs d c n → Refuses n y q → OneRefusal (length b) (length c) r q
first_one d m n [] [] x y xs ys r q k e rb fb rc fc =
    let line : x ≡ y = cc in
    let here = subst (λ z. Refuses z x r) rb fb in
    (refl, refused_one d y r q (subst (λ z. Refuses d z r) line here) (subst (λ z. Refuses z y q) rc fc))
first_one d m n [] (c ∷ cs) x y xs ys r q k e rb fb rc fc =
    let line : x ≡ c = cc in
    let here = subst (λ z. Refuses z x r) rb fb in
    absurd (taken_not_refused d rc.0 c r rc.1 (subst (λ z. Refuses d z r) line here))
first_one d m n (b ∷ bs) [] x y xs ys r q k e rb fb rc fc =
    let line : y ≡ b = cc in
    let here = subst (λ z. Refuses z y q) rc fc in
    absurd (taken_not_refused d rb.0 b q rb.1 (subst (λ z. Refuses d z q) line here))
first_one d m n (b ∷ bs) (c ∷ cs) x y xs ys r q k e rb fb rc fc =
    let line : b ≡ c = head_is _ _ _ _ _ refl e in
    let same = takes_one d rb.0 rc.0 c k (subst (λ z. Takes d z rb.0) line rb.1) rc.1 in
    let rest = first_one rc.0 m n bs cs x y xs ys r q (takes_named d rc.0 c k rc.1) (tail_is _ _ _ _ _ refl e)
    (subst (λ z. Runs z bs m) same rb.2) fb rc.2 fc in
    (omega (arith, rest.0), rest.1)

line_and_end : (text : List ℕ) (m n : ℕ) (r q : SetupReason) → LineRefused text m r → EndRefused text n q → ⊥
line_and_end text m n r q a b =
    no_run_past nothing a.draft b.draft a.before a.behind a.line r none_named a.runs a.refused (subst (λ ls. Runs nothing ls b.draft) a.lines b.runs)

-- one refusal
pub one_refusal : (text : List ℕ) (m n : ℕ) (r q : SetupReason) → IsRefused text m r → IsRefused text n q → OneRefusal m n r q
one_refusal text m n r q (inl a) (inl b) =
    let both = first_one nothing a.draft b.draft a.before b.before a.line b.line a.behind b.behind r q none_named (sym a.lines ∙ b.lines)
    a.runs a.refused b.runs b.refused in
    (omega (arith, both.0, a.number, b.number), both.1)
one_refusal text m n r q (inl a) (inr b) = absurd (line_and_end text m n r q a b)
one_refusal text m n r q (inr a) (inl b) = absurd (line_and_end text n m q r b a)
one_refusal text m n r q (inr a) (inr b) = (a.number ∙ sym b.number, a.missing ∙ sym b.missing)

whole_of : (d : Draft) (p : Parts) → Ends d p → IsWhole d
whole_of d p ends = record {
  local = λ none. let some = sym none ∙ ends.local in absurd cc;
  forwarder = ends.forwarder;
  ingress = λ none. let some = sym none ∙ ends.ingress in absurd cc;
}

-- never both
pub setup_not_refused : (text : List ℕ) (p : Parts) (n : ℕ) (r : SetupReason) → IsSetup text p → IsRefused text n r → ⊥
setup_not_refused text p n r s (inl f) =
    no_run_past nothing f.draft s.draft f.before f.behind f.line r none_named f.runs f.refused (subst (λ ls. Runs nothing ls s.draft) f.lines s.runs)
setup_not_refused text p n r s (inr f) =
    let same = runs_one nothing s.draft f.draft (lines_of text) none_named s.runs f.runs in
    f.short (subst IsWhole same (whole_of s.draft p s.ends))

abbrev answer_of : ℕ → SetupReason → Result Parts SetupFault
answer_of n r = Err (Line n r)

-- parsing gives the setup of a text that spells one
pub parses_setup : (text : List ℕ) (p : Parts) (a : Result Parts SetupFault) → IsSetup text p → Parses text a → (a ≡ Ok p) ⊎ (a ≡ Err OutOfMemory)
parses_setup text p (Ok q) s h = inl (ap Ok (one_setup text q p h s))
parses_setup text p (Err (Line n r)) s h = absurd (setup_not_refused text p n r s h)
parses_setup text p (Err OutOfMemory) s h = inr refl

-- and the refusal of a text that is refused
pub parses_refused : (text : List ℕ) (n : ℕ) (r : SetupReason) (a : Result Parts SetupFault) → IsRefused text n r → Parses text a
    → (a ≡ Err (Line n r)) ⊎ (a ≡ Err OutOfMemory)
parses_refused text n r (Ok q) s h = absurd (setup_not_refused text q n r h s)
parses_refused text n r (Err (Line m q)) s h = let one = one_refusal text m n q r h s in inl (ap (λ k. answer_of k q) one.0 ∙ ap (answer_of n) one.1)
parses_refused text n r (Err OutOfMemory) s h = inr refl
