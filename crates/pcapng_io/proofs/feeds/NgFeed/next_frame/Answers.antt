-- Blocks without a frame are used up until one has a frame, or none is whole.
use Rattle.std.proofs.Common.{None, Some, arith}
use Rattle.pcapng_io.specs.Calls.{lent_frame}
use Rattle.pcapng_io.proofs.StreamLemmas.{used_stands, skipped_stands, takes_frame, takes_none, refused_used}
use Rattle.pcapng_io.proofs.feeds.NgFeed.next_frame.Goals as goal

pub returns-in-Ok-Frame-clause-history : goal.returns-in-Ok-Frame-clause-history
returns-in-Ok-Frame-clause-history c = λ taken given s.
    used_stands c.each.self c.take_block.new.self (Some (lent_frame c.in-Ok-Frame.head c.take_block.new.self)) taken given
    (takes_frame c.each.self c.take_block.new.self c.in-Ok-Frame.field-0 c.in-Ok-Frame.head c.in-Ok-Frame.field-0-is c.in-Ok-Frame.ensures.takes)
    (c.each.invariant.history taken given s)

pub returns-in-Ok-Frame-clause-again : goal.returns-in-Ok-Frame-clause-again
returns-in-Ok-Frame-clause-again c = λ t sound bad.
    absurd (refused_used c.args.self.now c.each.self c.take_block.new.self (Some (lent_frame c.in-Ok-Frame.head c.take_block.new.self)) t bad (c.each.invariant.still t bad)
    (takes_frame c.each.self c.take_block.new.self c.in-Ok-Frame.field-0 c.in-Ok-Frame.head c.in-Ok-Frame.field-0-is c.in-Ok-Frame.ensures.takes))

pub each-preserved : goal.each-preserved
each-preserved c =
    let uses = takes_none c.each.self c.take_block.new.self c.in-Ok-Skipped.field-0 c.in-Ok-Skipped.field-0-is c.in-Ok-Skipped.ensures.takes in
    record {
      history = λ taken given s. skipped_stands c.each.self c.take_block.new.self taken given uses (c.each.invariant.history taken given s);
      still = λ t bad. absurd (refused_used c.args.self.now c.each.self c.take_block.new.self None t bad (c.each.invariant.still t bad) uses);
      count = omega (arith, c.each.invariant.count, c.in-Ok-Skipped.ensures.count);
      shorter = grind arith;
    }
