-- The characters of a name are ASCII, so a name is text.
use Rattle.text_words.proofs.NameLemmas.{name_is_text}
use Rattle.std.proofs.Common.{subst, sym}
use Rattle.std.specs.Prelude.{IsUtf8}
use Rattle.text_words.proofs.name_text.Name.of.Goals as goal

pub returns-in_default : goal.returns-in_default
returns-in_default c = λ v name e. c.in_default.ensures.cases.0 (subst IsUtf8 (sym e) (name_is_text v name))
