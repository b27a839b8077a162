-- A text of record lines, each ended by byte 0A.
use Rattle.std.specs.Prelude.{◌≡◌, ◌≢◌, ◌⊎◌, ℕ, ◌+◌, List, [], ◌++◌, length, Result, Ok, Err}
use Rattle.std.specs.List.{All, flat_map}
use Rattle.sfc_routes.specs.Entries.{Entries}
use Rattle.record_text.specs.declared.records.Record.{Record}
use Rattle.record_text.specs.declared.faults.RecordsFault.{RecordsFault}
use Rattle.record_text.specs.declared.faults.RecordsFault.TheVariants.{Line, OutOfMemory}
use Rattle.record_text.specs.Lines.{IsEntry, ended_line}

-- the lines of some entries, one after another
abbrev pub lines_text : Entries → List (ℕ × Record) → List ℕ
lines_text roster entries = flat_map (ended_line roster) entries

-- the text is the lines of the entries, and nothing else
pub record IsRecords (roster : Entries) (text : List ℕ) (entries : List (ℕ × Record)) : Type 0 where
  pub fit : All (IsEntry roster) entries
  pub spelled : text ≡ lines_text roster entries

-- no line of the grammar stands at the front of a text
abbrev pub BeginsNoLine : Entries → List ℕ → Type 0
BeginsNoLine roster text = (e : ℕ × Record) (behind : List ℕ) → IsEntry roster e → text ≢ ended_line roster e ++ behind

-- line n, counted from 1, is the first that is not in the grammar: those before it are, and more stands behind them
pub record IsRefused (roster : Entries) (text : List ℕ) (n : ℕ) : Type 0 where
  pub before : List (ℕ × Record)
  pub rest : List ℕ
  pub fit : All (IsEntry roster) before
  pub cut : text ≡ lines_text roster before ++ rest
  pub number : n ≡ length before + 1
  pub more : rest ≢ []
  pub none : BeginsNoLine roster rest

-- what parsing answers: the entries of the text, or the first line that is not in the grammar
abbrev pub Parses : Entries → List ℕ → Result (List (ℕ × Record)) RecordsFault → Type 0
Parses roster text (Ok entries) = IsRecords roster text entries
Parses roster text (Err (Line n)) = IsRefused roster text n
Parses roster text (Err OutOfMemory) = Unit {0}

-- the text is that of some entries, or a line of it is refused
abbrev pub HasReading : Entries → List ℕ → Type 0
HasReading roster text = ((entries : List (ℕ × Record)) × IsRecords roster text entries) ⊎ ((n : ℕ) × IsRefused roster text n)
