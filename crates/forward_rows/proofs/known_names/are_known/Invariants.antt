-- the visits before the place are of the roster
use Rattle.std.proofs.Common.{ℕ, ◌<◌, slice_index_or}
use Rattle.wire_base.specs.declared.ids.InstanceId.{InstanceId}
use Rattle.record_text.specs.Names.{IsInstance}
use Rattle.forward_rows.proofs.known_names.are_known.Given as goal

abbrev pub invariant-loop-instance : goal.invariant-loop-instance
invariant-loop-instance l = (k : ℕ) (d : InstanceId) → k < l.instance-index → IsInstance l.roster (slice_index_or l.visits k d)
