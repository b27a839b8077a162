-- The grammar of a setup text: line by line over what was said so far.
use Rattle.std.specs.Prelude.{◌≡◌, ◌≢◌, ℕ, ◌==◌, ◌&&◌, ◌+◌, ◌<◌, ◌⊎◌, nat_le, Bool, true, false, List, [], ◌∷◌, ◌++◌, length, Some, None, Result, Ok, Err}
use Rattle.std.specs.List.{AllPass}
use Rattle.text_words.specs.Lines.{lines_of}
use Rattle.text_words.specs.Pieces.{words_of}
use Rattle.setup_statements.specs.declared.keywords.Keyword.{Keyword}
use Rattle.setup_statements.specs.declared.statements.Statement.{Statement}
use Rattle.setup_statements.specs.Keywords.{keyword_text}
use Rattle.setup_statements.specs.Statements.{Spells}
use Rattle.sfc_config.specs.declared.drafts.Draft.{Draft}
use Rattle.sfc_config.specs.declared.faults.SetupReason.{SetupReason}
use Rattle.sfc_config.specs.declared.faults.SetupReason.TheVariants.{Byte, Word, Shape, Count, Name, Twice, Mode, Missing}
use Rattle.sfc_config.specs.declared.faults.SetupFault.{SetupFault}
use Rattle.sfc_config.specs.declared.faults.SetupFault.TheVariants.{Line, OutOfMemory}
use Rattle.sfc_config.specs.Parts.{Parts}
use Rattle.sfc_config.specs.Drafts.{nothing, HasRoom, IsKnown, IsNew, IsServable, Fits, Adds}

-- the bytes that a text may have: 20 to 7E
abbrev pub is_text_byte : ℕ → Bool
is_text_byte b = nat_le 32 b && nat_le b 126

abbrev pub IsPrintable : List ℕ → Type 0
IsPrintable line = AllPass is_text_byte line

-- an empty line, and one that begins with `#`
abbrev pub is_skipped : List ℕ → Bool
is_skipped [] = true
is_skipped (b ∷ bs) = b == 35

-- a line that has the text's bytes and is not skipped, so that its words decide
pub record IsSaid (line : List ℕ) : Type 0 where
  pub printable : IsPrintable line
  pub kept : is_skipped line ≡ false

-- a line that says a statement which may stand here
pub record Says (d : Draft) (line : List ℕ) (e : Draft) : Type 0 where
  pub said : IsSaid line
  pub statement : Statement
  pub spelled : Spells (words_of line) statement
  pub fits : Fits d statement
  pub added : Adds d statement e

-- a line that says nothing
pub record Skips (d : Draft) (line : List ℕ) (e : Draft) : Type 0 where
  pub printable : IsPrintable line
  pub skipped : is_skipped line ≡ true
  pub same : e ≡ d

-- a line that is taken, and what was said with it
abbrev pub Takes : Draft → List ℕ → Draft → Type 0
Takes d line e = Skips d line e ⊎ Says d line e

-- the first word begins a statement
abbrev pub Begins : List ℕ → Type 0
Begins line = (k : Keyword) × (behind : List (List ℕ)) × (words_of line ≡ keyword_text k ∷ behind)

-- The first reason why a statement may not stand here.
abbrev pub Clashes : Draft → Statement → SetupReason → Type 0
Clashes d s Count = HasRoom d s → ⊥
Clashes d s Name = HasRoom d s × (IsKnown d s → ⊥)
Clashes d s Twice = HasRoom d s × IsKnown d s × (IsNew d s → ⊥)
Clashes d s Mode = HasRoom d s × IsKnown d s × IsNew d s × (IsServable s → ⊥)
Clashes d s _ = ⊥

-- a statement of the line and the first reason why it may not stand here
pub record Refused (d : Draft) (line : List ℕ) (reason : SetupReason) : Type 0 where
  pub said : IsSaid line
  pub statement : Statement
  pub spelled : Spells (words_of line) statement
  pub clash : Clashes d statement reason

-- The first reason why a line is refused, in the order of the table.
abbrev pub Refuses : Draft → List ℕ → SetupReason → Type 0
Refuses d line Byte = IsPrintable line → ⊥
Refuses d line Word = IsSaid line × (Begins line → ⊥)
Refuses d line Shape = IsSaid line × Begins line × ((s : Statement) → Spells (words_of line) s → ⊥)
Refuses d line reason = Refused d line reason

-- all of the lines are taken, one after another
abbrev pub Runs : Draft → List (List ℕ) → Draft → Type 0
Runs d [] e = e ≡ d
Runs d (line ∷ lines) e = (m : Draft) × Takes d line m × Runs m lines e

-- a local side, a forwarder and an ingress were said
pub record IsWhole (d : Draft) : Type 0 where
  pub local : d.local ≢ None
  pub forwarder : 0 < length d.roster.forwarders
  pub ingress : d.ingress ≢ None

-- the parts that a whole draft has said
pub record Ends (d : Draft) (p : Parts) : Type 0 where
  pub local : d.local ≡ Some p.local
  pub forwarder : 0 < length d.roster.forwarders
  pub ingress : d.ingress ≡ Some p.ingress
  pub peers : p.peers ≡ d.peers
  pub roster : p.roster ≡ d.roster
  pub instances : p.instances ≡ d.instances
  pub rules : p.rules ≡ d.rules

-- the text spells the setup
pub record IsSetup (text : List ℕ) (p : Parts) : Type 0 where
  pub draft : Draft
  pub runs : Runs nothing (lines_of text) draft
  pub ends : Ends draft p

-- the first line that is refused, counted from 1, and its first reason
pub record LineRefused (text : List ℕ) (n : ℕ) (reason : SetupReason) : Type 0 where
  pub before : List (List ℕ)
  pub line : List ℕ
  pub behind : List (List ℕ)
  pub lines : lines_of text ≡ before ++ line ∷ behind
  pub number : n ≡ length before + 1
  pub draft : Draft
  pub runs : Runs nothing before draft
  pub refused : Refuses draft line reason

-- all lines are taken, and a part is missing; this is told at line 0
pub record EndRefused (text : List ℕ) (n : ℕ) (reason : SetupReason) : Type 0 where
  pub number : n ≡ 0
  pub missing : reason ≡ Missing
  pub draft : Draft
  pub runs : Runs nothing (lines_of text) draft
  pub short : IsWhole draft → ⊥

abbrev pub IsRefused : List ℕ → ℕ → SetupReason → Type 0
IsRefused text n reason = LineRefused text n reason ⊎ EndRefused text n reason

-- what parsing answers: the setup that the text spells, or its first refusal
abbrev pub Parses : List ℕ → Result Parts SetupFault → Type 0
Parses text (Ok p) = IsSetup text p
Parses text (Err (Line n reason)) = IsRefused text n reason
Parses text (Err OutOfMemory) = Unit {0}

-- the text spells a setup, or is refused at a line for a reason
abbrev pub HasReading : List ℕ → Type 0
HasReading text = ((p : Parts) × IsSetup text p) ⊎ ((n : ℕ) × (reason : SetupReason) × IsRefused text n reason)
