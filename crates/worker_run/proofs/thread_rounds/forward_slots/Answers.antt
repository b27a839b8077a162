-- The slots are dealt out, forwarded part by part, and taken back.
use Rattle.std.proofs.Common.{◌≡◌, ◌∙◌, ◌/◌, None, length, ap, sym, subst}
use Rattle.std.specs.List.{AllByRecursion, AllZip}
use Rattle.std.proofs.lemmas.List.Elements.{recursion_from_All}
use Rattle.pcap_io.specs.Captures.{IsWithinLimits}
use Rattle.worker_run.specs.declared.parts.Part.{Part}
use Rattle.worker_run.specs.Batches.{AreWithinLimits, Carried}
use Rattle.worker_run.specs.Deals.{IsSize}
use Rattle.worker_run.specs.Shares.{AreNumbered, AreShared, Forwarded, published_on, slots_of}
use Rattle.worker_run.proofs.ShareLemmas.{exchanged_seats, exchanged_shape, parts_limits, shape_long, shape_numbered, slots_many}
use Rattle.worker_run.proofs.DealtLemmas.{shape_sized}
use Rattle.worker_run.proofs.StepLemmas.{on_ok}
use Rattle.worker_run.proofs.thread_rounds.forward_slots.Goals as goal

pub forward_parts-forwarded-requires-clause-limits : goal.forward_parts-forwarded-requires-clause-limits
forward_parts-forwarded-requires-clause-limits g c κs within =
    parts_limits c.exchange.new.parts (recursion_from_All (λ (x : Carried). IsWithinLimits x.frame) (slots_of c.exchange.new.parts) (subst AreWithinLimits (sym c.exchange.ensures.parts) c.requires.limits))

pub forward_parts-forwarded-requires-clause-seats : goal.forward_parts-forwarded-requires-clause-seats
forward_parts-forwarded-requires-clause-seats g c κs within =
    exchanged_seats c.as_mut_slice-parts.result.now c.exchange.new.parts (subst (AllByRecursion (λ (p : Part). p.seat ≡ None)) (sym c.as_mut_slice-parts.ensures.value) c.in_ok-parts.ensures.seats) c.exchange.ensures.shape

pub exchange-requires-2 : goal.exchange-requires-2
exchange-requires-2 g c =
    ap length c.exchange.ensures.slots ∙ sym (slots_many c.as_mut_slice-parts.result.now c.exchange.new.parts (exchanged_shape c.as_mut_slice-parts.result.now c.exchange.new.parts c.exchange.ensures.shape))
    ∙ sym (slots_many c.exchange.new.parts c.forward_parts-forwarded.new.parts c.forward_parts-forwarded.ensures.shape)

pub returns-clause-shares : goal.returns-clause-shares
returns-clause-shares g c =
    let setup = c.args.setup.now in
    let published = published_on c.args.table.now c.args.version c.args.versions.now.lists.items in
    let made = c.as_mut_slice-parts.result.now in
    let before = c.exchange.new.parts in
    let parts = c.forward_parts-forwarded.new.parts in
    let shape = exchanged_shape made before c.exchange.ensures.shape in
    let all = c.in_ok-parts.ensures.numbered in
    let numbered : AreNumbered 0 made = subst (AreNumbered 0) (sym c.as_mut_slice-parts.ensures.value) all.0 in
    on_ok c.forward_parts-forwarded.result (AllZip (Forwarded setup published) before parts) (AreShared setup published c.args.workers c.args.slots.now c.exchange-2.new.slots) c.forward_parts-forwarded.ensures.forwarded
    (λ forwarded. record {
      before = before;
      parts = parts;
      old_is = sym c.exchange.ensures.parts;
      new_is = c.exchange-2.ensures.slots;
      numbered = shape_numbered 0 made before numbered shape;
      many = shape_long made before shape ∙ ap length c.as_mut_slice-parts.ensures.value ∙ all.1;
      size = (length c.args.slots.now / c.args.workers);
      sized = shape_sized (length c.args.slots.now / c.args.workers) made before (subst (AllByRecursion (λ (p : Part). IsSize (length c.args.slots.now / c.args.workers) (length p.slots.items))) (sym c.as_mut_slice-parts.ensures.value) c.in_ok-parts.ensures.sized) shape;
      forwarded = forwarded;
    })
