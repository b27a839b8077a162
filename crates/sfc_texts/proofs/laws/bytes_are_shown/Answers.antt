-- The law of a text for all bytes.
use Rattle.sfc_texts.proofs.NshReadings.{some_text}
use Rattle.sfc_texts.proofs.laws.bytes_are_shown.Goals as goal

pub returns : goal.returns
returns c = some_text c.args.bytes.now c.decode_nsh.result c.decode_nsh.ensures.found c.decode_nsh.ensures.refused
