-- The words were written in turn.
use Rattle.std.specs.Prelude.{codes}
use Rattle.setup_statements.specs.RuleText.{action_words}
use Rattle.setup_statements.proofs.PrintingLemmas.{rule_in_turn}
use Rattle.setup_statements.proofs.printing.print_rule.Goals as goal

pub returns : goal.returns
returns c =
    rule_in_turn c.args.out.now (codes "rule") _ _ _ _ _ (action_words c.args.rule.now.action)
    c.in_ok-push_all.ensures.ok c.in_ok-say_vlan.ensures c.in_ok-say_prefix.ensures c.in_ok-say_prefix-2.ensures c.in_ok-say_protocol.ensures
    c.in_ok-say_ports.ensures c.in_ok-say_action.ensures c.in_ok-push_all-2.ensures.ok
