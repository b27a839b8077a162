-- A text is what is printed of its routes.
use Rattle.route_texts.proofs.PrintedLemmas.{text_is}
use Rattle.route_texts.proofs.laws.a_text_is_printed_again.Goals as goal

pub returns : goal.returns
returns c = text_is
