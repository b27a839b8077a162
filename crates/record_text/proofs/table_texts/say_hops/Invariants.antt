-- what was written of the hops
use Rattle.std.proofs.Common.{◌∷◌}
use Rattle.record_text.specs.Tables.{hop_text}
use Rattle.record_text.proofs.AppendLemmas.{SoFar}
use Rattle.record_text.proofs.table_texts.say_hops.Given as goal

abbrev pub invariant-loop-row : goal.invariant-loop-row
invariant-loop-row l = SoFar (λ row. 32 ∷ hop_text l.roster row) l.rows l.row-index l.initial.out l.out
