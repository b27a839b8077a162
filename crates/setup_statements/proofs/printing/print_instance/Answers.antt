-- The words were written in turn.
use Rattle.std.proofs.Common.{ap}
use Rattle.std.specs.Prelude.{codes}
use Rattle.std.specs.Fmt.{decimal}
use Rattle.setup_statements.specs.FunctionText.{function_words}
use Rattle.setup_statements.proofs.PrintingLemmas.{instance_in_turn}
use Rattle.setup_statements.proofs.printing.print_instance.Goals as goal

pub returns : goal.returns
returns c =
    instance_in_turn c.args.out.now (codes "instance") _ (function_words c.args.bound.now.function)
    c.in_ok-push_all.ensures.ok c.in_ok-say.ensures c.in_ok-say_octets.ensures c.in_ok-say_number.ensures c.in_ok-say-2.ensures
    c.in_ok-say_function.ensures c.in_ok-push_all-2.ensures.ok c.as_bytes.ensures.value (ap decimal c.from.ensures) c.mode_word.ensures
