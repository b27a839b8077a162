-- The eight words are what was read of them, or one of them is none of the command's.
use Rattle.std.proofs.Common.{sym, ◌∙◌, arith}
use Rattle.commands.proofs.WordLemmas.{passed_test, same_word}
use Rattle.file_runs.specs.RunSteps.{files_of}
use Rattle.run_command.proofs.ThreadedLemmas.{words_are}
use Rattle.run_command.proofs.threaded_words.threaded_words.Goals as goal

pub returns : goal.returns
returns c =
    words_are c.args.words.now (files_of c.in-Some-read_run_words.files) _ _ (omega arith)
    (sym c.word.ensures ∙ same_word _ _ (passed_test _ c.if-ne.ensures))
    (sym c.word-2.ensures ∙ sym c.as_bytes.ensures.value) c.in-Some.ensures.1 c.in-Some.ensures.0
    c.in-Some-read_run_words.ensures.0 c.in-Some-read_run_words.ensures.1
