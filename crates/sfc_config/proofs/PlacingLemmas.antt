-- What is there, and what is not.
use Rattle.std.proofs.Common.{ℕ, List, [], ◌∷◌, arith}
use Rattle.std.specs.List.{All}
use Rattle.std.proofs.Common.{Result, Ok, Err, inr}
use Rattle.text_words.specs.Pieces.{words_of}
use Rattle.sfc_routes.specs.Entries.{IsAt}
use Rattle.setup_statements.specs.declared.statements.Statement.{Statement}
use Rattle.setup_statements.specs.Statements.{Spells}
use Rattle.sfc_config.specs.declared.drafts.Draft.{Draft}
use Rattle.sfc_config.specs.declared.faults.SetupReason.{SetupReason}
use Rattle.sfc_config.specs.declared.faults.SetupReason.TheVariants.{Byte, Word, Shape}
use Rattle.sfc_config.specs.declared.faults.LineFault.{LineFault}
use Rattle.sfc_config.specs.declared.faults.LineFault.TheVariants as line_fault
use Rattle.sfc_config.specs.Texts.{IsSaid, Clashes, Refuses}
use Rattle.sfc_config.specs.Steps.{Placed, Taken}

-- where an element has a property, not all lack it
pub at_not : {X : Type 0} (P : X → Type 0) (xs : List X) (i : ℕ) → IsAt P xs i → All (λ x. P x → ⊥) xs → ⊥
at_not P [] i has none = absurd (omega (arith, has.0))
at_not P (x ∷ xs) i has none = none i x has.0 (has.1 x)

-- the reasons of a statement are those of its line
refuses_as_clashes : (d : Draft) (line : List ℕ) (s : Statement) (r : SetupReason) → IsSaid line → Spells (words_of line) s → Clashes d s r → Refuses d line r
refuses_as_clashes d line s Byte said spelled clash = absurd clash
refuses_as_clashes d line s Word said spelled clash = absurd clash
refuses_as_clashes d line s Shape said spelled clash = absurd clash
refuses_as_clashes d line s r said spelled clash = record { said = said; statement = s; spelled = spelled; clash = clash }

-- what placing the statement of a line answers says what taking the line does
pub taken_as_placed : (d e : Draft) (line : List ℕ) (s : Statement) (r : Result (Unit {0}) LineFault) → IsSaid line → Spells (words_of line) s
    → Placed d s r e → Taken d line r e
taken_as_placed d e line s (Ok u) said spelled placed = inr (record { said = said; statement = s; spelled = spelled; fits = placed.0; added = placed.1 })
taken_as_placed d e line s (Err (line_fault.Reason r)) said spelled placed = refuses_as_clashes d line s r said spelled placed
taken_as_placed d e line s (Err line_fault.OutOfMemory) said spelled placed = tt
