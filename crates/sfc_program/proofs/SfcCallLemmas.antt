-- From the call of a row to the call of all commands: a line for each command, and what follows for any of them.
use Rattle.std.proofs.Common.{◌≡◌, ◌≢◌, ◌↔◌, ℕ, Bool, true, List, ap, subst}
use Rattle.sfc_desk.specs.declared.ports.Port.{Port}
use Rattle.sfc_desk.specs.Desks.{Shown, Files}
use Rattle.sfc_program.specs.declared.sfc_calls.Row.{Row}
use Rattle.sfc_program.specs.declared.sfc_calls.Row.TheVariants as row
use Rattle.commands.specs.declared.statuses.Status.{Status}
use Rattle.commands.specs.declared.statuses.Status.TheVariants as status
use Rattle.commands.specs.Commands.{Behaves, CommandCall, NoneRose}
use Rattle.commands.specs.Places.{Place}
use Rattle.sfc_program.specs.SfcCalls.{Command, walk, show, announce, paths, single, run, generate, from_pcapng, to_pcapng, Spells, Runs, Wants, RowCall, row_of}

-- ---- any command

-- what a call says where the words are those of its command
record Serves (says : Type 0) (asks : Status → Type 0) (tells : Bool) (then now : Port → Shown) (answer : Status) : Type 0 where
  no_words : answer ≢ status.Words
  runs : says
  exact : (wanted : Status) → asks wanted → tells ≡ true → NoneRose then now → answer ≢ status.Memory → answer ≡ wanted

served : {Said : Type 0} {Is : List (List ℕ) → Said → Type 0} {ports : Said → List Place} {Does : Said → Bool → Files → (Port → Shown) → (Port → Shown) → Status → Type 0} {Asked : Said → Files → Status → Type 0} {words : List (List ℕ)} {tells : Bool} {held : Files} {then now : Port → Shown} {answer : Status} (said : Said) → Is words said → CommandCall Is ports Does Asked words tells held then now answer → Serves (Does said tells held then now answer × Behaves (ports said) tells held then now answer) (Asked said held) tells then now answer
served said is call = record {
  no_words = λ refused. call.words_fault.0 refused said is;
  runs = (call.runs said is, call.behaves said is);
  exact = λ wanted wants told none some. call.exact said wanted is wants told none some;
}

-- what a call says where the words spell no command
record Refuses (words : List (List ℕ)) (then now : Port → Shown) (answer : Status) : Type 0 where
  words_fault : ((command : Command) → Spells words command → ⊥) → answer ≡ status.Words
  untouched : answer ≡ status.Words → (port : Port) → now port ≡ then port

refused : {Said : Type 0} {Is : List (List ℕ) → Said → Type 0} {ports : Said → List Place} {Does : Said → Bool → Files → (Port → Shown) → (Port → Shown) → Status → Type 0} {Asked : Said → Files → Status → Type 0} {words : List (List ℕ)} {tells : Bool} {held : Files} {then now : Port → Shown} {answer : Status} (tag : Said → Command) → ((said : Said) → Is words said → Spells words (tag said)) → CommandCall Is ports Does Asked words tells held then now answer → Refuses words then now answer
refused tag spelled call = record {
  words_fault = λ none. call.words_fault.1 (λ said is. none (tag said) (spelled said is));
  untouched = call.untouched;
}

-- ---- a line for each command

-- the row of a command
abbrev row_for : Command → Row
row_for (walk said) = row.Walk
row_for (show said) = row.Show
row_for (announce said) = row.Announce
row_for (paths said) = row.Paths
row_for (single said) = row.Single
row_for (run said) = row.Run
row_for (generate said) = row.Generate
row_for (from_pcapng said) = row.FromPcapng
row_for (to_pcapng said) = row.ToPcapng

-- the words of a command pick its row
picks_row : (words : List (List ℕ)) (command : Command) → Spells words command → row_of words ≡ row_for command
picks_row words (walk said) is = ap row_of is.spelled
picks_row words (show said) is = ap row_of is.spelled
picks_row words (announce said) is = ap row_of is.spelled
picks_row words (paths said) is = ap row_of is.spelled
picks_row words (single said) is = ap row_of is.spelled
picks_row words (run said) is = ap row_of is.spelled
picks_row words (generate said) is = ap row_of is.spelled
picks_row words (from_pcapng said) is = ap row_of is.spelled
picks_row words (to_pcapng said) is = ap row_of is.spelled

-- the call at the row of a command serves it
serves : (words : List (List ℕ)) (command : Command) (tells : Bool) (held : Files) (then now : Port → Shown) (answer : Status) → Spells words command → RowCall (row_for command) words tells held then now answer → Serves (Runs command tells held then now answer) (Wants command held) tells then now answer
serves words (walk said) tells held then now answer is call = served said is call
serves words (show said) tells held then now answer is call = served said is call
serves words (announce said) tells held then now answer is call = served said is call
serves words (paths said) tells held then now answer is call = served said is call
serves words (single said) tells held then now answer is call = served said is call
serves words (run said) tells held then now answer is call = served said is call
serves words (generate said) tells held then now answer is call = served said is call
serves words (from_pcapng said) tells held then now answer is call = served said is call
serves words (to_pcapng said) tells held then now answer is call = served said is call

-- the call at any row refuses words that spell no command
refuses : (picked : Row) (words : List (List ℕ)) (tells : Bool) (held : Files) (then now : Port → Shown) (answer : Status) → RowCall picked words tells held then now answer → Refuses words then now answer
refuses row.Walk words tells held then now answer call = refused walk (λ said is. is) call
refuses row.Show words tells held then now answer call = refused show (λ said is. is) call
refuses row.Announce words tells held then now answer call = refused announce (λ said is. is) call
refuses row.Paths words tells held then now answer call = refused paths (λ said is. is) call
refuses row.Single words tells held then now answer call = refused single (λ said is. is) call
refuses row.Run words tells held then now answer call = refused run (λ said is. is) call
refuses row.Generate words tells held then now answer call = refused generate (λ said is. is) call
refuses row.FromPcapng words tells held then now answer call = refused from_pcapng (λ said is. is) call
refuses row.ToPcapng words tells held then now answer call = refused to_pcapng (λ said is. is) call
refuses row.Unknown words tells held then now answer call = record { words_fault = λ none. call.0; untouched = λ none. call.1 }

-- ---- all commands

-- what the call of a row says, said of all commands
pub record AllCommands (words : List (List ℕ)) (tells : Bool) (held : Files) (then now : Port → Shown) (answer : Status) : Type 0 where
  pub words_fault : (answer ≡ status.Words) ↔ ((command : Command) → Spells words command → ⊥)
  pub runs : (command : Command) → Spells words command → Runs command tells held then now answer
  pub untouched : answer ≡ status.Words → (port : Port) → now port ≡ then port
  pub exact : (command : Command) (wanted : Status) → Spells words command → Wants command held wanted → tells ≡ true → NoneRose then now → answer ≢ status.Memory → answer ≡ wanted

-- the call at the row that the words pick serves each command that they spell
serves_at : (picked : Row) (words : List (List ℕ)) (tells : Bool) (held : Files) (then now : Port → Shown) (answer : Status) → row_of words ≡ picked → RowCall picked words tells held then now answer → (command : Command) → Spells words command → Serves (Runs command tells held then now answer) (Wants command held) tells then now answer
serves_at picked words tells held then now answer is call command spells =
    let same : picked ≡ row_for command = subst (λ (at : Row). at ≡ row_for command) is (picks_row words command spells) in
    serves words command tells held then now answer spells (subst (λ (at : Row). RowCall at words tells held then now answer) same call)

-- the row that the words pick
pub of_row : (picked : Row) (words : List (List ℕ)) (tells : Bool) (held : Files) (then now : Port → Shown) (answer : Status) → row_of words ≡ picked → RowCall picked words tells held then now answer → AllCommands words tells held then now answer
of_row picked words tells held then now answer is call =
    let serving : (command : Command) → Spells words command → Serves (Runs command tells held then now answer) (Wants command held) tells then now answer = serves_at picked words tells held then now answer is call in
    let refusing : Refuses words then now answer = refuses picked words tells held then now answer call in
    record {
      words_fault = ((λ said_words command spells. (serving command spells).no_words said_words), refusing.words_fault);
      runs = λ command spells. (serving command spells).runs;
      untouched = refusing.untouched;
      exact = λ command wanted spells. (serving command spells).exact wanted;
    }
