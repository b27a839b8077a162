-- What the parser keeps and answers on the way, step by step. The grammar does not stand on it.
use Rattle.std.specs.Prelude.{◌≡◌, ◌≢◌, ℕ, ◌<◌, ◌≤◌, List, length, All, Result, Ok, Err}
use Rattle.std.specs.List.{AllPairs}
use Rattle.text_words.specs.Numbers.{IsWithin}
use Rattle.text_words.specs.Pieces.{words_of}
use Rattle.bgp_session.specs.LocalSide.{IsLocal}
use Rattle.service_functions.specs.Functions.{IsFunction}
use Rattle.classifier.specs.Rules.{FitsIfAsked}
use Rattle.setup_statements.specs.declared.statements.Statement.{Statement}
use Rattle.setup_statements.specs.Statements.{IsPeer, Spells}
use Rattle.sfc_config.specs.declared.drafts.Draft.{Draft}
use Rattle.sfc_config.specs.declared.faults.SetupReason.{SetupReason}
use Rattle.sfc_config.specs.declared.faults.SetupReason.TheVariants.{Word, Shape, Missing}
use Rattle.sfc_config.specs.declared.faults.SetupFault.{SetupFault}
use Rattle.sfc_config.specs.declared.faults.SetupFault.TheVariants.{Line, OutOfMemory}
use Rattle.sfc_config.specs.declared.faults.LineFault.{LineFault}
use Rattle.sfc_config.specs.declared.faults.LineFault.TheVariants as line_fault
use Rattle.sfc_config.specs.Parts.{Parts, FitsMode}
use Rattle.sfc_config.specs.Drafts.{Fits, Adds}
use Rattle.sfc_config.specs.Texts.{Takes, Begins, Clashes, Refuses, Ends, IsWhole}

-- what every draft keeps that a text has said
pub record IsDraft (d : Draft) : Type 0 where
  pub local_fits : FitsIfAsked IsLocal d.local
  pub peers_fit : All IsPeer d.peers
  pub few_peers : length d.peers ≤ 16
  pub peers_differ : AllPairs (λ q r. q.0 ≢ r.0) d.peers
  pub kinds_fit : All (λ i. IsWithin 32 65535 i.kind) d.roster.instances
  pub ingress_known : FitsIfAsked (λ id. id.0 < length d.roster.forwarders) d.ingress
  pub all_bound : length d.instances ≡ length d.roster.instances
  pub functions_fit : All (λ b. IsFunction b.function) d.instances
  pub modes_fit : All FitsMode d.instances

-- what taking a line into a draft answers
abbrev pub Taken : Draft → List ℕ → Result (Unit {0}) LineFault → Draft → Type 0
Taken d line (Ok u) e = Takes d line e
Taken d line (Err (line_fault.Reason reason)) e = Refuses d line reason
Taken d line (Err line_fault.OutOfMemory) e = Unit {0}

-- the fault of a text whose line with this number is not taken
abbrev pub fault_at : ℕ → LineFault → SetupFault
fault_at n (line_fault.Reason reason) = Line n reason
fault_at n line_fault.OutOfMemory = OutOfMemory

-- what taking a statement into a draft answers
abbrev pub Placed : Draft → Statement → Result (Unit {0}) LineFault → Draft → Type 0
Placed d s (Ok u) e = Fits d s × Adds d s e
Placed d s (Err (line_fault.Reason reason)) e = Clashes d s reason
Placed d s (Err line_fault.OutOfMemory) e = Unit {0}

-- what reading a line answers
abbrev pub LineRead : List ℕ → Result Statement SetupReason → Type 0
LineRead line (Ok s) = Spells (words_of line) s
LineRead line (Err Word) = Begins line → ⊥
LineRead line (Err Shape) = Begins line × ((s : Statement) → Spells (words_of line) s → ⊥)
LineRead line (Err _) = ⊥

-- it is known what a line says: a statement, none, or one that its words do not tell
abbrev pub IsTold : List ℕ → Type 0
IsTold line = (answer : Result Statement SetupReason) × LineRead line answer

-- what the end of a text answers
abbrev pub Finished : Draft → Result Parts SetupFault → Type 0
Finished d (Ok p) = Ends d p
Finished d (Err fault) = (fault ≡ Line 0 Missing) × (IsWhole d → ⊥)
