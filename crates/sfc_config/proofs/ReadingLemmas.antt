-- Every text has a reading: what may stand where is decided statement by statement.
use Rattle.std.proofs.Common.{◌≡◌, ◌⊎◌, ℕ, zero, suc, ◌+◌, ◌<◌, ◌≤◌, Bool, true, false, ◌&&◌, List, [], ◌∷◌, ◌++◌, length, refl, sym, ap, ◌∙◌, arith, inl, inr, Option, Some, None, Result, Ok, Err}
use Rattle.std.specs.Prelude.{◌≢◌, All}
use Rattle.std.specs.List.{AllByRecursion, AllPass}
use Rattle.std.proofs.lemmas.Bool.{cases_eq, cases_lt}
use Rattle.std.proofs.lemmas.List.Elements.{All-from_recursion, recursion_from_All, All-cons, All-head, All-nil, All-tail}
use Rattle.wire_base.specs.declared.ids.ForwarderId.{ForwarderId}
use Rattle.wire_base.specs.declared.next_hops.NextHop.{NextHop}
use Rattle.wire_base.specs.declared.next_hops.NextHop.TheVariants.{Four, Sixteen}
use Rattle.text_words.specs.Lines.{lines_of}
use Rattle.text_words.specs.Pieces.{words_of}
use Rattle.sfc_routes.specs.Entries.{IsAt, Serves, with_forwarder, with_instance, with_target}
use Rattle.sfc_routes.specs.declared.entries.ForwarderEntry.{ForwarderEntry}
use Rattle.sfc_routes.specs.declared.entries.InstanceEntry.{InstanceEntry}
use Rattle.bgp_session.specs.declared.local_sides.Local.{Local as LocalSide}
use Rattle.service_functions.specs.Functions.{on_metadata}
use Rattle.setup_statements.specs.declared.statements.Bound.{Bound}
use Rattle.setup_statements.specs.declared.statements.Statement.{Statement}
use Rattle.setup_statements.specs.declared.statements.Statement.TheVariants.{Local, Target, Peer, Forwarder, Ingress, Instance, Rule}
use Rattle.setup_statements.specs.Statements.{Spells}
use Rattle.sfc_config.specs.declared.drafts.Draft.{Draft}
use Rattle.sfc_config.specs.declared.faults.SetupReason.{SetupReason}
use Rattle.sfc_config.specs.declared.faults.SetupReason.TheVariants.{Byte, Word, Shape, Count, Name, Twice, Mode, Missing, NoPeer}
use Rattle.sfc_config.specs.Parts.{Parts, FitsMode}
use Rattle.sfc_config.specs.Drafts.{nothing, HasRoom, IsKnown, IsNew, IsServable, Fits, Adds}
use Rattle.sfc_config.specs.Texts.{IsPrintable, is_text_byte, is_skipped, IsSaid, Takes, Clashes, Refuses, Runs, IsWhole, Ends, IsSetup, LineRefused, EndRefused, IsRefused, HasReading}
use Rattle.sfc_config.specs.Steps.{LineRead, IsTold}

-- ---- what can be decided

-- a fact holds or not
abbrev Decided : Type 0 → Type 0
Decided P = P ⊎ (P → ⊥)

same_number : (m n : ℕ) → Decided (m ≡ n)
same_number m n = elim (cases_eq m n) [
  | inl same ↦ inl same
  | inr other ↦ inr other
]

same_list : (xs ys : List ℕ) → Decided (xs ≡ ys)
same_list [] [] = inl refl
same_list [] (y ∷ ys) = inr (λ e. absurd (omega (arith, ap length e)))
same_list (x ∷ xs) [] = inr (λ e. absurd (omega (arith, ap length e)))
same_list (x ∷ xs) (y ∷ ys) = elim (same_number x y) [
  | inr other ↦ inr (λ e. other cc)
  | inl head ↦ elim (same_list xs ys) [
    | inl tail ↦ inl cc
    | inr other ↦ inr (λ e. other cc)
  ]
]

same_address : (a b : NextHop) → Decided (a ≡ b)
same_address (Four x) (Four y) = elim (same_list x y) [
  | inl same ↦ inl (ap Four same)
  | inr other ↦ inr (λ e. other cc)
]
same_address (Four x) (Sixteen y) = inr (λ e. cc)
same_address (Sixteen x) (Four y) = inr (λ e. cc)
same_address (Sixteen x) (Sixteen y) = elim (same_list x y) [
  | inl same ↦ inl (ap Sixteen same)
  | inr other ↦ inr (λ e. other cc)
]

-- what does not hold of one does not hold of both
both : (P Q : Type 0) → Decided P → Decided Q → Decided (P × Q)
both P Q (inl p) (inl q) = inl (p, q)
both P Q (inl p) (inr fails) = inr (λ h. fails h.1)
both P Q (inr fails) q = inr (λ h. fails h.0)

not_so : (P : Type 0) → Decided P → Decided (P → ⊥)
not_so P (inl p) = inr (λ fails. fails p)
not_so P (inr fails) = inl fails

all_so : {X : Type 0} (P : X → Type 0) → ((x : X) → Decided (P x)) → (xs : List X) → Decided (AllByRecursion P xs)
all_so P each [] = inl tt
all_so P each (x ∷ xs) = both (P x) (AllByRecursion P xs) (each x) (all_so P each xs)

all_are : {X : Type 0} (P : X → Type 0) → ((x : X) → Decided (P x)) → (xs : List X) → Decided (All P xs)
all_are P each xs = elim (all_so P each xs) [
  | inl so ↦ inl (All-from_recursion P xs so)
  | inr fails ↦ inr (λ all. fails (recursion_from_All P xs all))
]

is_true : (b c : Bool) → Decided (b ≡ c)
is_true true true = inl refl
is_true true false = inr (λ e. absurd cc)
is_true false true = inr (λ e. absurd cc)
is_true false false = inl refl

is_none : {X : Type 0} (o : Option X) → Decided (o ≡ None)
is_none None = inl refl
is_none (Some x) = inr (λ e. absurd cc)

less_or_not : (m n : ℕ) → Decided (m < n)
less_or_not m n = elim (cases_lt m n) [
  | inl less ↦ inl less
  | inr more ↦ inr (λ less. absurd (omega (arith, less, more)))
]

-- ---- whether a statement may stand where it stands

has_room : (d : Draft) (s : Statement) → Decided (HasRoom d s)
has_room d (Local l) = inl tt
has_room d (Target t) = less_or_not (length d.roster.targets) 16
has_room d (Peer p) = less_or_not (length d.peers) 16
has_room d (Forwarder f) = less_or_not (length d.roster.forwarders) 64
has_room d (Ingress name) = inl tt
has_room d (Instance i b) = less_or_not (length d.roster.instances) 1024
has_room d (Rule r) = less_or_not (length d.rules) 256

-- a forwarder with this name
abbrev Named : List ForwarderEntry → List ℕ → Type 0
Named fs name = (id : ℕ) × IsAt (λ f. f.name ≡ name) fs id

not_named : (f : ForwarderEntry) (fs : List ForwarderEntry) (name : List ℕ) → f.name ≢ name → (Named fs name → ⊥)
    → (id : ℕ) → IsAt (λ g. g.name ≡ name) (f ∷ fs) id → ⊥
not_named f fs name other none zero at = other (at.1 f)
not_named f fs name other none (suc i) at = none (i, (omega (arith, at.0), at.1))

named : (fs : List ForwarderEntry) (name : List ℕ) → Decided (Named fs name)
named [] name = inr (λ h. absurd (omega (arith, h.1.0)))
named (f ∷ fs) name = elim (same_list f.name name) [
  | inl same ↦ inl (0, (omega arith, λ x. same))
  | inr other ↦ elim (named fs name) [
    | inl found ↦ inl (suc found.0, (omega (arith, found.1.0), found.1.1))
    | inr none ↦ inr (λ h. not_named f fs name other none h.0 h.1)
  ]
]

is_known : (d : Draft) (s : Statement) → Decided (IsKnown d s)
is_known d (Local l) = inl tt
is_known d (Target t) = inl tt
is_known d (Peer p) = inl tt
is_known d (Forwarder f) = inl tt
is_known d (Ingress name) = named d.roster.forwarders name
is_known d (Instance i b) = inl tt
is_known d (Rule r) = inl tt

is_new : (d : Draft) (s : Statement) → Decided (IsNew d s)
is_new d (Local l) = is_none d.local
is_new d (Target t) = all_are (λ (u : List ℕ). u ≢ t) (λ u. not_so (u ≡ t) (same_list u t)) d.roster.targets
is_new d (Peer p) = all_are (λ (q : ℕ × ℕ). q.0 ≢ p.0) (λ q. not_so (q.0 ≡ p.0) (same_number q.0 p.0)) d.peers
is_new d (Forwarder f) =
    both _ _ (all_are (λ (g : ForwarderEntry). g.name ≢ f.name) (λ g. not_so (g.name ≡ f.name) (same_list g.name f.name)) d.roster.forwarders)
    (all_are (λ (g : ForwarderEntry). g.address ≢ f.address) (λ g. not_so (g.address ≡ f.address) (same_address g.address f.address)) d.roster.forwarders)
is_new d (Ingress name) = is_none d.ingress
is_new d (Instance i b) =
    both _ _ (all_are (λ (j : InstanceEntry). j.name ≢ i.name) (λ j. not_so (j.name ≡ i.name) (same_list j.name i.name)) d.roster.instances)
    (all_are (λ (j : InstanceEntry). ¬ (Serves i.rd i.kind j))
    (λ j. not_so (Serves i.rd i.kind j) (both (j.rd ≡ i.rd) (j.kind ≡ i.kind) (same_list j.rd i.rd) (same_number j.kind i.kind))) d.roster.instances)
is_new d (Rule r) = inl tt

is_servable : (s : Statement) → Decided (IsServable s)
is_servable (Local l) = inl tt
is_servable (Target t) = inl tt
is_servable (Peer p) = inl tt
is_servable (Forwarder f) = inl tt
is_servable (Ingress name) = inl tt
is_servable (Instance i b) = is_true (b.proxy && on_metadata b.function) false
is_servable (Rule r) = inl tt

-- what is said with a statement
added : (d : Draft) (s : Statement) → IsKnown d s → (e : Draft) × Adds d s e
added d (Local l) known = (record d { local = Some l }, refl)
added d (Target t) known = (record d { roster = with_target d.roster t }, refl)
added d (Peer p) known = (record d { peers = d.peers ++ p ∷ [] }, refl)
added d (Forwarder f) known = (record d { roster = with_forwarder d.roster f.name f.address }, refl)
added d (Ingress name) known = let id : ForwarderId = record { 0 = known.0 } in (record d { ingress = Some id }, (id, known.1, refl))
added d (Instance i b) known = (record d { roster = with_instance d.roster i.name i.rd i.kind; instances = d.instances ++ b ∷ [] }, refl)
added d (Rule r) known = (record d { rules = d.rules ++ r ∷ [] }, refl)

-- it fits, or clashes for a first reason
placed : (d : Draft) (s : Statement) → (Fits d s × ((e : Draft) × Adds d s e)) ⊎ ((reason : SetupReason) × Clashes d s reason)
placed d s = elim (has_room d s) [
  | inr fails ↦ inr (Count, fails)
  | inl room ↦ elim (is_known d s) [
    | inr fails ↦ inr (Name, (room, fails))
    | inl known ↦ elim (is_new d s) [
      | inr fails ↦ inr (Twice, (room, known, fails))
      | inl new ↦ elim (is_servable s) [
        | inr fails ↦ inr (Mode, (room, known, new, fails))
        | inl servable ↦ inl (record { room = room; known = known; new = new; servable = servable }, added d s known)
      ]
    ]
  ]
]

-- ---- lines

refused_for : (d : Draft) (line : List ℕ) (s : Statement) → IsSaid line → Spells (words_of line) s → (reason : SetupReason) → Clashes d s reason
    → Refuses d line reason
refused_for d line s said spelled Count clash = record { said = said; statement = s; spelled = spelled; clash = clash }
refused_for d line s said spelled Name clash = record { said = said; statement = s; spelled = spelled; clash = clash }
refused_for d line s said spelled Twice clash = record { said = said; statement = s; spelled = spelled; clash = clash }
refused_for d line s said spelled Mode clash = record { said = said; statement = s; spelled = spelled; clash = clash }
refused_for d line s said spelled Byte clash = absurd clash
refused_for d line s said spelled Word clash = absurd clash
refused_for d line s said spelled Shape clash = absurd clash
refused_for d line s said spelled Missing clash = absurd clash
refused_for d line s said spelled NoPeer clash = absurd clash

-- a line is taken, or refused for a first reason
abbrev LineDecided : Draft → List ℕ → Type 0
LineDecided d line = ((e : Draft) × Takes d line e) ⊎ ((reason : SetupReason) × Refuses d line reason)

said_decided : (d : Draft) (line : List ℕ) → IsSaid line → (answer : Result Statement SetupReason) → LineRead line answer → LineDecided d line
said_decided d line said (Ok s) spelled = elim (placed d s) [
  | inl fits ↦ inl (fits.1.0, inr (record { said = said; statement = s; spelled = spelled; fits = fits.0; added = fits.1.1 }))
  | inr clash ↦ inr (clash.0, refused_for d line s said spelled clash.0 clash.1)
]
said_decided d line said (Err Word) none = inr (Word, (said, none))
said_decided d line said (Err Shape) none = inr (Shape, (said, none.0, none.1))
said_decided d line said (Err Byte) none = absurd none
said_decided d line said (Err Count) none = absurd none
said_decided d line said (Err Name) none = absurd none
said_decided d line said (Err Twice) none = absurd none
said_decided d line said (Err Mode) none = absurd none
said_decided d line said (Err Missing) none = absurd none
said_decided d line said (Err NoPeer) none = absurd none

skipped_or_said : (d : Draft) (line : List ℕ) → IsTold line → IsPrintable line → (skips : Bool) → is_skipped line ≡ skips → LineDecided d line
skipped_or_said d line told printable true skips = inl (d, inl (record { printable = printable; skipped = skips; same = refl }))
skipped_or_said d line told printable false keeps = said_decided d line (record { printable = printable; kept = keeps }) told.0 told.1

line_decided : (d : Draft) (line : List ℕ) → IsTold line → LineDecided d line
line_decided d line told = elim (all_are (λ (b : ℕ). is_text_byte b ≡ true) (λ b. is_true (is_text_byte b) true) line) [
  | inr fails ↦ inr (Byte, fails)
  | inl printable ↦ skipped_or_said d line told printable (is_skipped line) refl
]

-- the first of some lines that is refused
record FirstRefused (d : Draft) (lines : List (List ℕ)) : Type 0 where
  before : List (List ℕ)
  line : List ℕ
  behind : List (List ℕ)
  cut : lines ≡ before ++ line ∷ behind
  draft : Draft
  runs : Runs d before draft
  reason : SetupReason
  refused : Refuses draft line reason

lines_decided : (d : Draft) (lines : List (List ℕ)) → AllByRecursion IsTold lines → ((e : Draft) × Runs d lines e) ⊎ FirstRefused d lines
lines_decided d [] told = inl (d, refl)
lines_decided d (line ∷ lines) told = elim (line_decided d line told.0) [
  | inr fails ↦ inr (record { before = []; line = line; behind = lines; cut = refl; draft = d; runs = refl; reason = fails.0; refused = fails.1 })
  | inl taken ↦ elim (lines_decided taken.0 lines told.1) [
    | inl all ↦ inl (all.0, (taken.0, taken.1, all.1))
    | inr first ↦ inr (record {
      before = line ∷ first.before;
      line = first.line;
      behind = first.behind;
      cut = ap (λ (ls : List (List ℕ)). line ∷ ls) first.cut;
      draft = first.draft;
      runs = (taken.0, taken.1, first.runs);
      reason = first.reason;
      refused = first.refused;
    })
  ]
]

-- ---- the end of a text

missing : (text : List ℕ) (d : Draft) → Runs nothing (lines_of text) d → (IsWhole d → ⊥) → HasReading text
missing text d runs short = inr (0, Missing, inr (record { number = refl; missing = refl; draft = d; runs = runs; short = short }))

ended : (text : List ℕ) (d : Draft) → Runs nothing (lines_of text) d → (local : Option LocalSide) → d.local ≡ local
    → (ingress : Option ForwarderId) → d.ingress ≡ ingress → HasReading text
ended text d runs None l ingress i = missing text d runs (λ whole. whole.local l)
ended text d runs (Some local) l None i = missing text d runs (λ whole. whole.ingress i)
ended text d runs (Some local) l (Some ingress) i = elim (less_or_not 0 (length d.roster.forwarders)) [
  | inr none ↦ missing text d runs (λ whole. none whole.forwarder)
  | inl some ↦
      let parts : Parts = record { local = local; peers = d.peers; roster = d.roster; ingress = ingress; instances = d.instances; rules = d.rules } in
      inl (
        parts,
        record {
          draft = d;
          runs = runs;
          ends = record { local = l; forwarder = some; ingress = i; peers = refl; roster = refl; instances = refl; rules = refl };
        },
      )
]

-- a text of whose lines it is known what they say has a reading
pub reading_of : (text : List ℕ) → AllByRecursion IsTold (lines_of text) → HasReading text
reading_of text told = elim (lines_decided nothing (lines_of text) told) [
  | inl all ↦ ended text all.0 all.1 all.0.local refl all.0.ingress refl
  | inr first ↦ inr (
    length first.before + 1,
    first.reason,
    inl (record {
      before = first.before;
      line = first.line;
      behind = first.behind;
      lines = first.cut;
      number = refl;
      draft = first.draft;
      runs = first.runs;
      refused = first.refused;
    }),
  )
]
