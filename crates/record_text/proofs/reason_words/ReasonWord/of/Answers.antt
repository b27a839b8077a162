-- The word of a reason is text.
use Rattle.std.proofs.Common.{subst, sym}
use Rattle.std.specs.Prelude.{IsUtf8}
use Rattle.record_text.proofs.DropReasonLemmas.{reason_word_is_text}
use Rattle.record_text.proofs.reason_words.ReasonWord.of.Goals as goal

pub returns-in_default : goal.returns-in_default
returns-in_default c = λ w fits e. c.in_default.ensures.cases.0 (subst IsUtf8 (sym e) (reason_word_is_text w))
