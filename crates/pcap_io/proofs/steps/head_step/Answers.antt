-- What is not there refuses nothing, and a whole header is one.
use Rattle.std.proofs.Common.{ap, take, sym, ◌∙◌}
use Rattle.std.proofs.lemmas.List.{take_rest}
use Rattle.pcap_io.proofs.FileHeadLemmas.{held_24, whole_head}
use Rattle.pcap_io.proofs.steps.head_step.Goals as goal

pub returns-then-bytes-lt24 : goal.returns-then-bytes-lt24
returns-then-bytes-lt24 c =
    held_24 c.args.bytes.now c.in-Some.form c.in-Some.ensures
    (ap (take 4) (sym (take_rest c.args.bytes.now 4)) ∙ c.if-not-has_word.ensures ∙ c.version_number.ensures) c.if-bytes-lt24.true

pub returns : goal.returns
returns c =
    whole_head c.args.bytes.now c.in-Some.form c.in-Some.ensures
    (ap (take 4) (sym (take_rest c.args.bytes.now 4)) ∙ c.if-not-has_word.ensures ∙ c.version_number.ensures)
    (ap (take 4) (sym (take_rest c.args.bytes.now 20)) ∙ c.if-not-has_word-2.ensures)
    c.if-bytes-lt24.false
