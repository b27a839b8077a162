use Rattle.std.proofs.Common.{◌≡◌, ◌≤◌, ◌+◌, length, find}
use Rattle.pcapng_io.specs.Options.{is_wanted, options_from, first_option}
use Rattle.pcapng_io.proofs.interface_options.first_option.Given as goal

-- what is looked for among the options that are left is what is looked for among all
abbrev pub invariant-options : goal.invariant-options
invariant-options l = record {
  rest : find (is_wanted l.want (length l.block)) (options_from l.left l.big l.at l.block) ≡ first_option l.want l.big l.block;
  small : l.at ≤ length l.block + 65539;
}

abbrev pub decreases-options : goal.decreases-options
decreases-options l = l.left
