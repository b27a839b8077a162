use Rattle.nsh_metadata.proofs.ReadingLemmas.{fixed_held}
use Rattle.nsh_metadata.proofs.decoding.with_fixed.Goals as goal

pub returns-then-bytes-lt-FIXED_SIZE : goal.returns-then-bytes-lt-FIXED_SIZE
returns-then-bytes-lt-FIXED_SIZE c =
    fixed_held c.args.bytes.now c.args.head c.requires.front c.requires.md c.requires.words c.if-bytes-lt-FIXED_SIZE.true
