-- what was written of the names
use Rattle.std.proofs.Common.{◌∷◌}
use Rattle.record_text.specs.Names.{instance_text}
use Rattle.record_text.proofs.AppendLemmas.{SoFar}
use Rattle.record_text.proofs.list_text.say_other_instances.Given as goal

abbrev pub invariant-loop-id : goal.invariant-loop-id
invariant-loop-id l = SoFar (λ i. 44 ∷ instance_text l.roster i) l.instances l.id-index l.initial.out l.out
