-- A packet whose length does not fit, and one that is put.
use Rattle.std.proofs.Common.{◌≡◌, ℕ, ◌+◌, length, take, ap, subst, ◌∙◌, arith}
use Rattle.std.proofs.lemmas.List.{get_or_default, take_min}
use Rattle.pcap_io.specs.Captures.{packet}
use Rattle.pcap_io.specs.declared.frames.Captured.{Captured}
use Rattle.round_outputs.specs.RoundOutputs.{Puts}
use Rattle.round_outputs.proofs.PutLemmas.{puts_refused}
use Rattle.frame_traces.specs.Keeping.{as_captured}
use Rattle.frame_traces.proofs.traces_put.put_handed.Goals as goal

pub returns-in_default-clause-puts : goal.returns-in_default-clause-puts
returns-in_default-clause-puts g c = puts_refused g.D.Desk.tells (g.D.Desk.at c.args.desk.now) (g.D.Desk.held c.args.desk.now) c.args.trace.now _ c.requires.bound

pub returns-clause-puts : goal.returns-clause-puts
returns-clause-puts g c =
    let whole = c.args.whole.now in
    let size : c.in-Some.original ≡ length whole + c.args.missing = c.in-Some.ensures in
    let cut : take c.min-captured.result whole ≡ take 262144 whole = ap (λ (n : ℕ). take n whole) c.min-captured.ensures ∙ take_min 262144 whole in
    let same : record { seconds = c.args.times.0; fraction = c.args.times.1; original = c.in-Some.original; bytes = take c.min-captured.result whole } ≡ as_captured c.args.times.0 c.args.times.1 c.args.missing whole =
    λ k. record { seconds = c.args.times.0; fraction = c.args.times.1; original = size k; bytes = cut k } in
    subst (λ (p : Captured). Puts g.D.Desk.tells (g.D.Desk.at c.args.desk.now) (g.D.Desk.at c.put_packet.new.desk) (g.D.Desk.held c.args.desk.now) (g.D.Desk.held c.put_packet.new.desk) c.args.trace.now c.put_packet.new.egress c.put_packet.result (packet c.args.form p))
    same c.put_packet.ensures

pub returns-clause-are_bytes : goal.returns-clause-are_bytes
returns-clause-are_bytes g c = λ k d below. omega (arith, get_or_default c.args.whole.now k d 0 below, c.type_inv.whole k)
