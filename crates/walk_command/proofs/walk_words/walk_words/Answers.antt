use Rattle.std.proofs.Common.{◌≡◌, ◌<◌, ◌≤◌, ◌^◌, Option, ℕ, MatchOption, sym, ap, ◌∙◌, subst, decimal, arith}
use Rattle.commands.proofs.WordLemmas.{spelled_so, passed_test, same_word, other_word, some_word}
use Rattle.walk_command.proofs.walk_words.walk_words.Goals as goal

-- the five words are what was read of them
pub returns : goal.returns
returns c =
    let spi = subst (λ (found : Option ℕ). MatchOption found (2 ^ 24 ≤ c.in-Some.spi) (λ s. (s ≡ c.in-Some.spi) × (c.in-Some.spi < 2 ^ 24))) c.unwrap.ensures c.of.ensures in
    record {
      spelled = spelled_so c.args.words.now _ _ _ _ _ (omega arith)
          (sym c.word.ensures ∙ same_word _ _ (passed_test _ c.if-ne.ensures))
          (sym c.word-2.ensures ∙ (sym c.as_bytes.ensures.value ∙ (c.in-Some.ensures.1 ∙ ap decimal (sym spi.0))))
          (sym c.word-3.ensures ∙ (sym c.as_bytes-2.ensures.value ∙ c.in-Some-read_number.ensures.1))
          (sym c.word-capture.ensures)
          (sym c.word-egress.ensures);
      spi_range = omega (arith, spi.0, spi.1);
      some = c.in-Some-read_number.ensures.0.0;
      most = c.in-Some-read_number.ensures.0.1;
      from_somewhere = some_word c.word-capture.result.now c.if-is_empty.ensures;
      to_somewhere = some_word c.word-egress.result.now c.if-is_empty-2.ensures;
      two_files = other_word c.word-egress.result.now c.word-capture.result.now c.if-eq.ensures;
    }
