-- An offset that is not refused has its 8 bytes.
use Rattle.std.proofs.Common.{arith}
use Rattle.pcapng_io.proofs.OptionLemmas.{offset_if}
use Rattle.pcapng_io.proofs.blocks.described.Goals as goal

pub offset_in-requires : goal.offset_in-requires
offset_in-requires c = offset_if c.args.big c.args.block.now c.first_option-offset.result (omega (arith, c.requires.some)) c.requires.good c.first_option-offset.ensures.value
