-- The words so far.
use Rattle.std.proofs.Common.{◌≡◌, ◌++◌, take}
use Rattle.std.specs.List.{flat_map}
use Rattle.wire_base.specs.Numbers.{two}
use Rattle.generated_inputs.proofs.headers.push_words.Given as goal

abbrev pub invariant-loop-word : goal.invariant-loop-word
invariant-loop-word l = l.bytes ≡ l.initial.bytes ++ flat_map two (take l.word-index l.words)
