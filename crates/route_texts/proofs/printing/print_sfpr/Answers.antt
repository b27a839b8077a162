-- The words in turn, and the hops each behind a space.
use Rattle.std.specs.Prelude.{codes}
use Rattle.route_texts.specs.Printed.{hops_of}
use Rattle.text_words.specs.Hexadecimal.{hexadecimal}
use Rattle.route_texts.proofs.PrintedLemmas.{sfpr_in_turn}
use Rattle.route_texts.proofs.printing.print_sfpr.Goals as goal

pub returns : goal.returns
returns c =
    sfpr_in_turn c.args.out.now c.print_head.new.out c.print_next_targets.new.out c.print_path.new.out (codes "sfpr") (hexadecimal c.args.rd.now) c.from.result c.args.spi
    c.as_slice.result.now c.args.route.now.targets (hops_of c.args.route.now.path) c.from.ensures c.as_slice.ensures
    c.in_ok-print_head.ensures c.in_ok-print_next_targets.ensures c.in_ok-print_path.ensures
