-- The law of a text for every stream.
use Rattle.sfc_texts.proofs.BgpTotal.{some_text}
use Rattle.sfc_texts.proofs.laws.every_stream_is_shown.Goals as goal

pub returns : goal.returns
returns c = some_text
