-- Four bytes spell one number.
use Rattle.std.proofs.Common.{◌∙◌}
use Rattle.pcap_io.proofs.ReadingLemmas.{word_one_to_one}
use Rattle.pcap_io.proofs.steps.has_word.Goals as goal

pub returns : goal.returns
returns c = λ is.
    absurd (c.if-word_at-number.false (word_one_to_one c.args.form c.word_at.result c.args.number c.word_at.type_inv c.ranges.number.fits (c.word_at.ensures ∙ is)))
