-- What is not refused waits, or is whole.
use Rattle.std.proofs.Common.{◌≡◌, ◌<◌, ◌≤◌, ◌+◌, length, arith, subst, sym, ap, ◌∙◌}
use Rattle.std.proofs.lemmas.List.Elements.{All-from_get_or}
use Rattle.wire_base.specs.Numbers.{AreBytes}
use Rattle.control_files.specs.declared.segments.SegmentHead.{SegmentHead}
use Rattle.control_files.specs.Refusals.{length_at}
use Rattle.control_files.specs.Steps.{StepGives}
use Rattle.control_files.specs.declared.steps.SegmentStep.TheVariants as steps
use Rattle.control_files.proofs.SegmentLemmas.{held_short, held_body, at_most, begins}
use Rattle.control_files.proofs.steps.segment_step.Goals as goal

pub returns-then-bytes-lt23 : goal.returns-then-bytes-lt23
returns-then-bytes-lt23 c =
    let none = sym c.refusal_at.ensures ∙ c.in_default.is in
    (omega arith, held_short c.args.peers.now c.args.mark c.args.place c.args.bytes.now none (omega arith))

pub returns-then-bytes-head : goal.returns-then-bytes-head
returns-then-bytes-head c =
    let none = sym c.refusal_at.ensures ∙ c.in_default.is in
    let size : c.head_at-head.result.length ≡ length_at c.args.bytes.now = ap (λ (h : SegmentHead). h.length) c.head_at-head.ensures in
    let most = at_most c.args.peers.now c.args.mark c.args.place c.args.bytes.now c.if-bytes-lt23.false none in
    (omega (arith, size, most), held_body c.args.peers.now c.args.mark c.args.place c.args.bytes.now none (omega (arith, size)))

pub returns : goal.returns
returns c =
    let none = sym c.refusal_at.ensures ∙ c.in_default.is in
    let each : AreBytes c.args.bytes.now = All-from_get_or (λ b. b < 256) c.args.bytes.now 0 (λ i _. omega (arith, c.type_inv.bytes i)) in
    let size : c.head_at-head.result.length ≡ length_at c.args.bytes.now = ap (λ (h : SegmentHead). h.length) c.head_at-head.ensures in
    let there : 23 + length_at c.args.bytes.now ≤ length c.args.bytes.now = omega (arith, size) in
    let whole = begins c.args.peers.now c.args.mark c.args.place c.args.bytes.now each none c.if-bytes-lt23.false there in
    subst (λ (h : SegmentHead). StepGives c.args.peers.now c.args.mark c.args.place c.args.bytes.now (steps.Whole h)) (sym c.head_at-head.ensures) (there, whole)
