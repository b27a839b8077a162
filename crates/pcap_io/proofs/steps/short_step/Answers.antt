-- What is not there refuses nothing.
use Rattle.std.proofs.Common.{arith, ap, take, ◌∙◌}
use Rattle.std.proofs.lemmas.List.{take_rest}
use Rattle.pcap_io.proofs.PacketLemmas.{held_12, held_16}
use Rattle.pcap_io.proofs.steps.short_step.Goals as goal

pub returns-then-bytes-lt12 : goal.returns-then-bytes-lt12
returns-then-bytes-lt12 c = (omega arith, held_12 c.args.form c.args.bytes.now (omega arith))

pub returns : goal.returns
returns c = (
  omega arith,
  held_16 c.args.form c.args.bytes.now c.word_at.result (omega arith)
      (record { there = omega arith; fits = c.word_at.type_inv; spelled = c.word_at.ensures ∙ ap (take 4) (take_rest c.args.bytes.now 8) })
      (omega arith),
)
