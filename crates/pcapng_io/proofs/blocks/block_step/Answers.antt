-- What the first bytes show, and then what the whole block shows.
use Rattle.std.proofs.Common.{arith}
use Rattle.pcapng_io.proofs.StepLemmas.{opened, step_waits, step_refused, step_short, step_bad, step_whole, long_block}
use Rattle.pcapng_io.proofs.blocks.block_step.Goals as goal

pub returns-in-Wait-clause-gives : goal.returns-in-Wait-clause-gives
returns-in-Wait-clause-gives c = step_waits c.args.section.now c.args.bytes.now c.front_of.result.now c.front_of.ensures c.in-Wait.ensures

pub returns-in-Refused-clause-gives : goal.returns-in-Refused-clause-gives
returns-in-Refused-clause-gives c = step_refused c.args.section.now c.args.bytes.now c.front_of.result.now c.in-Refused.at c.in-Refused.reason c.front_of.ensures c.in-Refused.ensures

pub returns-then-bytes-size-clause-gives : goal.returns-then-bytes-size-clause-gives
returns-then-bytes-size-clause-gives c =
    step_short c.args.section.now c.args.bytes.now c.in-Block.kind c.in-Block.big c.in-Block.size
    (opened c.args.section.now c.args.bytes.now c.front_of.result.now c.in-Block.kind c.in-Block.big c.in-Block.size c.front_of.ensures c.in-Block.ensures) (omega (arith, c.if-bytes-size.true))

pub judge-requires-clause-long : goal.judge-requires-clause-long
judge-requires-clause-long c =
    long_block c.args.section.now c.args.bytes.now c.in-Block.kind c.in-Block.big c.in-Block.size
    (opened c.args.section.now c.args.bytes.now c.front_of.result.now c.in-Block.kind c.in-Block.big c.in-Block.size c.front_of.ensures c.in-Block.ensures) (omega (arith, c.if-bytes-size.false))

pub returns-in-Refused-judge-clause-gives : goal.returns-in-Refused-judge-clause-gives
returns-in-Refused-judge-clause-gives c =
    step_bad c.args.section.now c.args.bytes.now c.in-Block.kind c.in-Block.big c.in-Block.size c.in-Refused-judge.at c.in-Refused-judge.reason
    (opened c.args.section.now c.args.bytes.now c.front_of.result.now c.in-Block.kind c.in-Block.big c.in-Block.size c.front_of.ensures c.in-Block.ensures) (omega (arith, c.if-bytes-size.false)) c.in-Refused-judge.ensures.judged

pub returns-in-Good-clause-gives : goal.returns-in-Good-clause-gives
returns-in-Good-clause-gives c =
    step_whole c.args.section.now c.args.bytes.now c.in-Block.kind c.in-Block.big c.in-Block.size c.in-Good.said
    (opened c.args.section.now c.args.bytes.now c.front_of.result.now c.in-Block.kind c.in-Block.big c.in-Block.size c.front_of.ensures c.in-Block.ensures) (omega (arith, c.if-bytes-size.false)) c.in-Good.ensures.judged
