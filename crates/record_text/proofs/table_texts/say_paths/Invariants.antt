-- what was written of the paths
use Rattle.record_text.specs.Tables.{path_words, ended_words}
use Rattle.record_text.proofs.AppendLemmas.{SoFar}
use Rattle.record_text.proofs.table_texts.say_paths.Given as goal

abbrev pub invariant-loop-i : goal.invariant-loop-i
invariant-loop-i l = SoFar (λ path. ended_words (path_words l.roster path)) l.table l.i l.initial.out l.out
