-- The word of a function is text.
use Rattle.std.proofs.Common.{subst, sym}
use Rattle.std.specs.Prelude.{IsUtf8}
use Rattle.setup_statements.proofs.KeywordLemmas.{function_word_is_text}
use Rattle.setup_statements.proofs.keywords.FunctionWord.of.Goals as goal

pub returns-in_default : goal.returns-in_default
returns-in_default c = λ f fits e. c.in_default.ensures.cases.0 (subst IsUtf8 (sym e) (function_word_is_text f))
