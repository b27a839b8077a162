-- The three words are what was read of them.
use Rattle.std.proofs.Common.{sym, ◌∙◌, arith}
use Rattle.commands.proofs.WordLemmas.{passed_test, same_word, three_spelled_so}
use Rattle.generate_command.proofs.generate_words.generate_words.Goals as goal

pub returns : goal.returns
returns c =
    record {
      spelled = three_spelled_so c.args.words.now _ _ _ (omega arith)
          (sym c.word.ensures ∙ same_word _ _ (passed_test _ c.if-ne.ensures))
          (sym c.word-2.ensures ∙ (sym c.as_bytes.ensures.value ∙ c.in-Some.ensures.1))
          (sym c.word-3.ensures ∙ (sym c.as_bytes-2.ensures.value ∙ c.in-Some-read_number.ensures.1));
      seed_range = omega (arith, c.in-Some.ensures.0.1);
      some = c.in-Some-read_number.ensures.0.0;
      most = c.in-Some-read_number.ensures.0.1;
    }
