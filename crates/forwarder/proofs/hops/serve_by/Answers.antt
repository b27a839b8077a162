-- a proxy's function sees no header, and serves as one that does
use Rattle.std.proofs.Common.{◌∙◌, ap, sym, ◌&&◌}
use Rattle.service_functions.specs.Functions.{on_metadata}
use Rattle.forwarder.proofs.HopLemmas.{unaware_serves}
use Rattle.forwarder.proofs.hops.serve_by.Goals as goal

pub returns-then-bound : goal.returns-then-bound
returns-then-bound c =
    unaware_serves c.args.bound.now.function c.args.frame.now c.unaware_in_place.new.frame c.args.header.now c.unaware_in_place.new.header c.args.size c.unaware_in_place.result
    (ap (λ b. b && on_metadata c.args.bound.now.function) (sym c.if-bound.true) ∙ c.requires.mode) c.unaware_in_place.ensures.frame c.unaware_in_place.ensures.bytes
