use Rattle.std.proofs.Common.{sym, ◌∙◌, arith}
use Rattle.commands.proofs.WordLemmas.{three_spelled_so, passed_test, same_word, some_word}
use Rattle.paths_command.proofs.paths_words.paths_words.Goals as goal

-- the three words are what was read of them
pub returns : goal.returns
returns c = record {
  spelled = three_spelled_so c.args.words.now _ _ _ (omega arith)
      (sym c.word.ensures ∙ same_word _ _ (passed_test _ c.if-ne.ensures))
      (sym c.word-setup.ensures)
      (sym c.word-control.ensures);
  of_setup = some_word c.word-setup.result.now c.if-is_empty.ensures;
  of_control = some_word c.word-control.result.now c.if-is_empty-2.ensures;
}
