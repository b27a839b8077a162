-- A range of ports is cut at its dash.
use Rattle.std.proofs.Common.{subst}
use Rattle.text_words.specs.Reading.{Reads}
use Rattle.classifier.specs.Rules.{IsPorts}
use Rattle.setup_statements.specs.Steps.{ports_parts}
use Rattle.setup_statements.proofs.PairLemmas.{reads_ports}
use Rattle.setup_statements.proofs.rule_text.read_ports.Goals as goal

pub returns : goal.returns
returns c = reads_ports _ _ (subst (λ w. Reads IsPorts ports_parts w c.read_ports_parts.result) c.of-parts.ensures c.read_ports_parts.ensures)
