use Rattle.std.proofs.Common.{sym, ◌∙◌, arith}
use Rattle.commands.proofs.WordLemmas.{spelled_so, passed_test, same_word, other_word, some_word}
use Rattle.announce_command.proofs.announce_words.announce_words.Goals as goal

-- the five words are what was read of them
pub returns : goal.returns
returns c = record {
  spelled = spelled_so c.args.words.now _ _ _ _ _ (omega arith)
      (sym c.word.ensures ∙ same_word _ _ (passed_test _ c.if-ne.ensures))
      (sym c.word-setup.ensures)
      (sym c.word-2.ensures ∙ (sym c.as_bytes.ensures.value ∙ c.in-Some.ensures.1))
      (sym c.word-routes.ensures)
      (sym c.word-made.ensures);
  some = c.in-Some.ensures.0.0;
  most = c.in-Some.ensures.0.1;
  from_setup = some_word c.word-setup.result.now c.if-is_empty.ensures;
  from_routes = some_word c.word-routes.result.now c.if-is_empty-2.ensures;
  to_somewhere = some_word c.word-made.result.now c.if-is_empty-3.ensures;
  other_than_setup = other_word c.word-made.result.now c.word-setup.result.now c.if-eq.ensures;
  other_than_routes = other_word c.word-made.result.now c.word-routes.result.now c.if-eq-2.ensures;
}
