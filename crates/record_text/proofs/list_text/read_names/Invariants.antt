-- the instances so far, and the pieces that are left
use Rattle.std.proofs.Common.{◌≡◌, ◌≤◌, ◌++◌, length}
use Rattle.std.specs.Prelude.{map}
use Rattle.std.specs.List.{All}
use Rattle.record_text.specs.Names.{IsInstance, instance_text}
use Rattle.record_text.proofs.list_text.read_names.Given as goal

abbrev pub invariant-loop-piece : goal.invariant-loop-piece
invariant-loop-piece l = record {
  cut : map (instance_text l.roster) l.instances.items ++ l.pieces ≡ l.initial.pieces;
  few : length l.instances.items ≤ 63;
  fit : All (IsInstance l.roster) l.instances.items;
}

abbrev pub decreases-loop-piece : goal.decreases-loop-piece
decreases-loop-piece l = length l.pieces
