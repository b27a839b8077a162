use Rattle.std.proofs.Common.{sym, ◌∙◌, arith}
use Rattle.commands.proofs.WordLemmas.{passed_test, same_word}
use Rattle.single_command.proofs.SingleLemmas.{words_named}
use Rattle.single_command.proofs.single_words.single_words.Goals as goal

-- the first word is `single`, and the six others are the names
pub returns : goal.returns
returns c = words_named c.args.words.now c.read_run_words.result (omega arith) (sym c.word.ensures ∙ same_word _ _ (passed_test _ c.if-ne.ensures)) c.read_run_words.ensures
