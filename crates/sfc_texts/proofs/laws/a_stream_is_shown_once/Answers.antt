-- The law of texts.
use Rattle.sfc_texts.proofs.BgpReadings.{one_text}
use Rattle.sfc_texts.proofs.laws.a_stream_is_shown_once.Goals as goal

pub returns : goal.returns
returns c = λ stream s t. one_text 0 stream s t
