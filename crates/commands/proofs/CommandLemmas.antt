-- From a command's own facts to what its call says: a command gives its facts, and copies no proof.
use Rattle.std.proofs.Common.{◌≡◌, ◌≢◌, inl, inr, ℕ, ◌<◌, ◌≤◌, Bool, true, List, Option, Some, None, length, refl, sym, ◌∙◌, subst, arith}
use Rattle.sfc_desk.specs.declared.ports.Port.{Port}
use Rattle.sfc_desk.specs.Desks.{Shown, Files, IsAbsent}
use Rattle.commands.specs.declared.statuses.Status.{Status}
use Rattle.commands.specs.declared.statuses.Status.TheVariants as status
use Rattle.commands.specs.Commands.{Asks, Behaves, CommandCall, FailsAs, NoneRose}
use Rattle.commands.specs.Places.{Place, HasPort}

-- The facts of a command: its words say one thing; it never answers Words to them; each answer has its cause, where no
-- call failed and memory was there; and causes of different answers exclude each other.
pub record Laws {Said : Type 0} (Is : List (List ℕ) → Said → Type 0) (row : Said → List Place) (Runs : Said → Bool → Files → (Port → Shown) → (Port → Shown) → Status → Type 0) (Wants : Said → Files → Status → Type 0) : Type 0 where
  pub one : (words : List (List ℕ)) (a b : Said) → Is words a → Is words b → a ≡ b
  pub never_words : (said : Said) (tells : Bool) (held : Files) (then now : Port → Shown) → Runs said tells held then now status.Words → ⊥
  pub caused : (said : Said) (tells : Bool) (held : Files) (then now : Port → Shown) (answer : Status) → Runs said tells held then now answer → Behaves (row said) tells held then now answer → tells ≡ true → NoneRose then now → answer ≢ status.Memory → Wants said held answer
  pub exclusive : (said : Said) (held : Files) (a b : Status) → Wants said held a → Wants said held b → a ≡ b

-- the words are those of the command, and its answer is what the files ask for
pub answered : {Said : Type 0} (Is : List (List ℕ) → Said → Type 0) (row : Said → List Place) (Runs : Said → Bool → Files → (Port → Shown) → (Port → Shown) → Status → Type 0) (Wants : Said → Files → Status → Type 0) (words : List (List ℕ)) (said : Said) (tells : Bool) (held : Files) (then now : Port → Shown) (answer : Status) → ((other : Said) → Is words other → said ≡ other) → (answer ≡ status.Words → ⊥)
    → ((wanted : Status) → Wants said held wanted → tells ≡ true → NoneRose then now → answer ≢ status.Memory → answer ≡ wanted)
    → Is words said → Runs said tells held then now answer → Behaves (row said) tells held then now answer → CommandCall Is row Runs Wants words tells held then now answer
answered {Said} Is row Runs Wants words said tells held then now answer one never asked is runs behaves = record {
  words_fault = (λ refused. absurd (never refused), λ none. absurd (none said is));
  runs = λ other is_other. subst (λ (s : Said). Runs s tells held then now answer) (one other is_other) runs;
  behaves = λ other is_other. subst (λ (s : Said). Behaves (row s) tells held then now answer) (one other is_other) behaves;
  untouched = λ refused. absurd (never refused);
  exact = λ other wanted is_other wants told none some. asked wanted (subst (λ (s : Said). Wants s held wanted) (sym (one other is_other)) wants) told none some;
}

-- the words are those of the command, and it answers
pub called : {Said : Type 0} (Is : List (List ℕ) → Said → Type 0) (row : Said → List Place) (Runs : Said → Bool → Files → (Port → Shown) → (Port → Shown) → Status → Type 0) (Wants : Said → Files → Status → Type 0) (words : List (List ℕ)) (said : Said) (tells : Bool) (held : Files) (then now : Port → Shown) (answer : Status) → Laws Is row Runs Wants → Is words said → Runs said tells held then now answer → Behaves (row said) tells held then now answer → CommandCall Is row Runs Wants words tells held then now answer
called {Said} Is row Runs Wants words said tells held then now answer laws is runs behaves =
    answered Is row Runs Wants words said tells held then now answer (λ other. laws.one words said other is)
    (λ refused. laws.never_words said tells held then now (subst (λ (s : Status). Runs said tells held then now s) refused runs))
    (λ wanted wants told none some. laws.exclusive said held answer wanted (laws.caused said tells held then now answer runs behaves told none some) wants)
    is runs behaves

-- the words are none of the command's, and nothing is done
pub refused : {Said : Type 0} (Is : List (List ℕ) → Said → Type 0) (row : Said → List Place) (Runs : Said → Bool → Files → (Port → Shown) → (Port → Shown) → Status → Type 0) (Wants : Said → Files → Status → Type 0) (words : List (List ℕ)) (tells : Bool) (held : Files) (then : Port → Shown) → ((said : Said) → Is words said → ⊥) → CommandCall Is row Runs Wants words tells held then then status.Words
refused Is row Runs Wants words tells held then none = record {
  words_fault = (λ refused said is. none said is, λ all. refl);
  runs = λ said is. absurd (none said is);
  behaves = λ said is. absurd (none said is);
  untouched = λ refused port. refl;
  exact = λ said wanted is. absurd (none said is);
}

-- one input asks for one answer, where its bytes do
pub asks_once : (port : Port) (limit : ℕ) (Judged : List ℕ → Status → Type 0) (found : Option (List ℕ)) (a b : Status) → ((input : List ℕ) (c d : Status) → Judged input c → Judged input d → c ≡ d) → Asks port limit Judged found a → Asks port limit Judged found b → a ≡ b
asks_once port limit Judged None a b once is_a is_b = is_a ∙ sym is_b
asks_once port limit Judged (Some input) a b once (inl long_a) (inl long_b) = long_a.1 ∙ sym long_b.1
asks_once port limit Judged (Some input) a b once (inl long_a) (inr b_is) = let past = long_a.0 in let within = b_is.0 in absurd (omega (arith, past, within))
asks_once port limit Judged (Some input) a b once (inr a_is) (inl long_b) = let past = long_b.0 in let within = a_is.0 in absurd (omega (arith, past, within))
asks_once port limit Judged (Some input) a b once (inr a_is) (inr b_is) = once input a b a_is.1 b_is.1

-- an input that is not there, is too long, or is within its limit
pub asks_absent : (port : Port) (limit : ℕ) (Judged : List ℕ → Status → Type 0) (found : Option (List ℕ)) → found ≡ None → Asks port limit Judged found (status.File port)
asks_absent port limit Judged found none = subst (λ (f : Option (List ℕ)). Asks port limit Judged f (status.File port)) (sym none) refl

pub asks_long : (port : Port) (limit : ℕ) (Judged : List ℕ → Status → Type 0) (found : Option (List ℕ)) (input : List ℕ) → found ≡ Some input → limit < length input → Asks port limit Judged found (status.Long port)
asks_long port limit Judged found input there past = subst (λ (f : Option (List ℕ)). Asks port limit Judged f (status.Long port)) (sym there) (inl (past, refl))

pub asks_judged : (port : Port) (limit : ℕ) (Judged : List ℕ → Status → Type 0) (found : Option (List ℕ)) (input : List ℕ) (answer : Status) → found ≡ Some input → length input ≤ limit → Judged input answer → Asks port limit Judged found answer
asks_judged port limit Judged found input answer there within judged = subst (λ (f : Option (List ℕ)). Asks port limit Judged f answer) (sym there) (inr (within, judged))

-- where no count rose, a call that failed met an absent name
pub fails_absent : (row : List Place) (tells : Bool) (held : Files) (then now : Port → Shown) (port : Port) → FailsAs row tells held then now port → NoneRose then now → (name : List ℕ) × HasPort row port name × IsAbsent tells held port name
fails_absent row tells held then now port fails none = elim (fails.cause) [
  | inl absent ↦ (fails.name, fails.named, absent)
  | inr rose ↦ absurd (none port rose)
]
