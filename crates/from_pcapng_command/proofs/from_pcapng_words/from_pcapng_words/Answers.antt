use Rattle.std.proofs.Common.{sym, ◌∙◌, arith}
use Rattle.commands.proofs.WordLemmas.{passed_test, same_word, other_word, some_word}
use Rattle.from_pcapng_command.proofs.WordLemmas.{four_spelled_so}
use Rattle.from_pcapng_command.proofs.from_pcapng_words.from_pcapng_words.Goals as goal

-- the four words are what was read of them
pub returns : goal.returns
returns c = record {
  spelled = four_spelled_so c.args.words.now _ _ _ _ (omega arith)
      (sym c.word.ensures ∙ same_word _ _ (passed_test _ c.if-ne.ensures))
      (sym c.word-source.ensures)
      (sym c.word-2.ensures ∙ c.in-Some.ensures.1)
      (sym c.word-made.ensures);
  range = c.in-Some.ensures.0;
  from_somewhere = some_word c.word-source.result.now c.if-is_empty.ensures;
  to_somewhere = some_word c.word-made.result.now c.if-is_empty-2.ensures;
  two_files = other_word c.word-made.result.now c.word-source.result.now c.if-eq.ensures;
}
