use Rattle.std.proofs.Common.{sym, ◌∙◌, arith}
use Rattle.commands.proofs.WordLemmas.{three_spelled_so, passed_test, same_word, other_word, some_word}
use Rattle.to_pcapng_command.proofs.to_pcapng_words.to_pcapng_words.Goals as goal

-- the three words are what was read of them
pub returns : goal.returns
returns c = record {
  spelled = three_spelled_so c.args.words.now _ _ _ (omega arith)
      (sym c.word.ensures ∙ same_word _ _ (passed_test _ c.if-ne.ensures))
      (sym c.word-capture.ensures)
      (sym c.word-made.ensures);
  from_somewhere = some_word c.word-capture.result.now c.if-is_empty.ensures;
  to_somewhere = some_word c.word-made.result.now c.if-is_empty-2.ensures;
  two_files = other_word c.word-made.result.now c.word-capture.result.now c.if-eq.ensures;
}
