-- What the words of `show` say, as the program keeps them, and what is done on the bound source.
use Rattle.std.specs.Prelude.{◌≡◌, ◌≢◌, ◌⊎◌, ℕ, ◌^◌, ◌<◌, ◌≤◌, Bool, true, List, [], ◌++◌, length}
use Rattle.sfc_desk.specs.declared.ports.Port.{Port}
use Rattle.sfc_desk.specs.declared.ports.Port.TheVariants as ports
use Rattle.sfc_desk.specs.Desks.{Shown, Rose}
use Rattle.commands.specs.declared.statuses.Status.{Status}
use Rattle.commands.specs.declared.statuses.Status.TheVariants as status
use Rattle.commands.specs.Fronts.{IsFrontBehind}
use Rattle.commands.specs.Pieces.{NoneBound}
use Rattle.sfc_texts.specs.Showings.{Showing, Stands}
use Rattle.show_command.specs.declared.show_words.Format.{Format}
use Rattle.show_command.specs.declared.show_words.ShowWords.{ShowWords}
use Rattle.show_command.specs.ShowCommand.{Show, Shows}

abbrev pub show_of : ShowWords → Show
show_of said = record { format = said.format; source = said.source.now }

-- what was read of the source
abbrev pub input_of : (Port → Shown) → List ℕ
input_of then = (then ports.Source).left

-- behind what Report had stands a front of what shows the input
abbrev pub ReportedFront : Format → List ℕ → Shown → Shown → Type 0
ReportedFront format input then now = (text : List ℕ) → Shows format input text → IsFrontBehind then.written now.written text

-- Report took what shows the input
abbrev pub Reported : Format → List ℕ → Shown → Shown → Type 0
Reported format input then now = (text : List ℕ) × Shows format input text × (now.written ≡ then.written ++ text)

-- what each answer says of the bound source and Report
abbrev pub ShowWorks : Format → Bool → (Port → Shown) → (Port → Shown) → Status → Type 0
ShowWorks format tells then now status.Ok =
    tells ≡ true → (length (input_of then) ≤ 2 ^ 40) × (input_of now ≡ []) × Reported format (input_of then) (then ports.Report) (now ports.Report)
ShowWorks format tells then now (status.Long port) =
    (port ≡ ports.Source) × (tells ≡ true → (2 ^ 40 < length (input_of then)) × ReportedFront format (input_of then) (then ports.Report) (now ports.Report))
ShowWorks format tells then now (status.File port) =
    (((port ≡ ports.Source) ⊎ (port ≡ ports.Report)) × Rose (then port) (now port))
    × (tells ≡ true → ReportedFront format (input_of then) (then ports.Report) (now ports.Report))
ShowWorks format tells then now status.Memory = tells ≡ true → ReportedFront format (input_of then) (then ports.Report) (now ports.Report)
ShowWorks format tells then now _ = ⊥

-- what is said of a call that shows the bound source
pub record ShowsSource (format : Format) (tells : Bool) (then now : Port → Shown) (answer : Status) : Type 0 where
  pub works : ShowWorks format tells then now answer
  pub none_bound : NoneBound tells then now
  pub counts : (port : Port) → answer ≢ status.File port → (now port).faults ≡ (then port).faults
  pub others : (port : Port) → port ≢ ports.Source → port ≢ ports.Report → now port ≡ then port

-- these bytes of a stream were taken, and behind what was there stand the lines that were given for them
pub record GaveLines (lines : Showing) (taken before written : List ℕ) : Type 0 where
  pub given : List ℕ
  pub stands : Stands lines taken given
  pub put : written ≡ before ++ given
