-- Each line is cut into its words, and each word spells one value.
use Rattle.record_text.proofs.TableLemmas.{one_table}
use Rattle.record_text.proofs.laws.a_table_text_has_one_table.Goals as goal

pub returns : goal.returns
returns c = one_table
