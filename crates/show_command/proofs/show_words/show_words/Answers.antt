use Rattle.std.proofs.Common.{sym, ◌∙◌, arith}
use Rattle.commands.proofs.WordLemmas.{three_spelled_so, passed_test, same_word, some_word}
use Rattle.show_command.proofs.show_words.show_words.Goals as goal

-- the three words are what was read of them
pub returns : goal.returns
returns c = record {
  spelled = three_spelled_so c.args.words.now _ _ _ (omega arith)
      (sym c.word.ensures ∙ same_word _ _ (passed_test _ c.if-ne.ensures))
      (sym c.word-2.ensures ∙ c.in-Some.ensures)
      (sym c.word-source.ensures);
  from_somewhere = some_word c.word-source.result.now c.if-is_empty.ensures;
}
