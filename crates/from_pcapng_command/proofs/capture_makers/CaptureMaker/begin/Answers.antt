-- The file does not begin, and nothing was put.
use Rattle.pcapng_io.specs.Reads.{BeginsNg}
use Rattle.from_pcapng_command.proofs.MakerLemmas.{not_begun}
use Rattle.from_pcapng_command.proofs.capture_makers.CaptureMaker.begin.Goals as goal

pub returns-then-not-begun-clause-begins : goal.returns-then-not-begun-clause-begins
returns-then-not-begun-clause-begins c = λ taken given s none.
    not_begun c.args.self.now.begun c.begun.result (BeginsNg taken) none c.if-not-begun.true (c.begun.ensures.history taken given s)
