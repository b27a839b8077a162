-- The first type, and each other behind a semicolon.
use Rattle.route_texts.specs.Printed.{sft_text}
use Rattle.route_texts.proofs.PrintedLemmas.{all_joined}
use Rattle.route_texts.proofs.printing.print_sfts.Goals as goal

pub returns-in_ok-print_other_sfts-in-Some : goal.returns-in_ok-print_other_sfts-in-Some
returns-in_ok-print_other_sfts-in-Some c =
    all_joined 59 sft_text c.args.parts.now c.in-Some.first.now c.in-Some.others.now c.args.out.now c.print_sft.new.out c.print_other_sfts.new.out c.in-Some.ensures.cases.0
    c.in_ok-print_sft-in-Some.ensures c.in_ok-print_other_sfts-in-Some.ensures
