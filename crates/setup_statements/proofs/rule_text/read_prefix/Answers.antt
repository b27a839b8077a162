-- A network is cut at its slash.
use Rattle.std.proofs.Common.{subst}
use Rattle.text_words.specs.Reading.{Reads}
use Rattle.classifier.specs.Rules.{IsPrefix}
use Rattle.setup_statements.specs.Steps.{prefix_parts}
use Rattle.setup_statements.proofs.PairLemmas.{reads_prefix}
use Rattle.setup_statements.proofs.rule_text.read_prefix.Goals as goal

pub returns : goal.returns
returns c = reads_prefix _ _ (subst (λ w. Reads IsPrefix prefix_parts w c.read_prefix_parts.result) c.of-parts.ensures c.read_prefix_parts.ensures)
