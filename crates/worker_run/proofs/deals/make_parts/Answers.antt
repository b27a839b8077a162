-- One part more, of the next worker and with its share of the slots; at last there are as many slots as frames.
use Rattle.std.proofs.Common.{◌≡◌, ℕ, ◌+◌, ◌%◌, ◌/◌, List, [], ◌∷◌, ◌++◌, None, length, length-append, ap, sym, subst, ◌∙◌, arith}
use Rattle.std.specs.List.{AllByRecursion}
use Rattle.sfc_routes.proofs.MemberLemmas.{all_join}
use Rattle.worker_run.specs.declared.parts.Part.{Part}
use Rattle.worker_run.specs.Deals.{IsSize}
use Rattle.worker_run.specs.Shares.{AreNumbered, slots_of}
use Rattle.worker_run.proofs.DealLemmas.{all_dealt, numbered_more, room_for_more, share_more, sized_share, slots_more}
use Rattle.worker_run.proofs.deals.make_parts.Goals as goal

pub share_of-requires : goal.share_of-requires
share_of-requires c = λ lt.
    let more = room_for_more c.args.count c.args.workers c.loop-worker.worker c.requires lt in
    let fits = c.ranges.count.fits in
    omega (arith, more, fits)

pub loop-worker-preserved : goal.loop-worker-preserved
loop-worker-preserved c =
    let was = c.loop-worker.invariant in
    let worker = c.loop-worker.worker in
    let old = c.loop-worker.parts.items in
    let p = c.in_ok-new.field-0 in
    let longer : c.push.new.self.items ≡ old ++ p ∷ [] = c.in_ok-push.ensures.items in
    let numbered = numbered_more 0 old p was.numbered (let is = c.in_ok-new.ensures.0 in let count = was.count in omega (arith, is, count)) in
    let seats = all_join (λ (q : Part). q.seat ≡ None) old (p ∷ []) was.seats (c.in_ok-new.ensures.1, tt) in
    let sized = all_join (λ (q : Part). IsSize (c.args.count / c.args.workers) (length q.slots.items)) old (p ∷ []) was.sized
    (sized_share worker (c.args.count / c.args.workers) (c.args.count % c.args.workers) c.share_of.result (length p.slots.items) c.share_of.ensures c.in_ok-new.ensures.2, tt) in
    let many : length (slots_of (old ++ p ∷ [])) ≡ length (slots_of old) + length p.slots.items = ap length (slots_more old p) ∙ length-append (slots_of old) p.slots.items in
    let share = share_more worker (c.args.count / c.args.workers) (c.args.count % c.args.workers) (length (slots_of old)) c.share_of.result was.many c.share_of.ensures in
    record {
      numbered = subst (AreNumbered 0) (sym longer) numbered;
      count = ap length longer ∙ length-append old (p ∷ []) ∙ ap (λ (k : ℕ). k + 1) was.count;
      seats = subst (AllByRecursion (λ (q : Part). q.seat ≡ None)) (sym longer) seats;
      sized = subst (AllByRecursion (λ (q : Part). IsSize (c.args.count / c.args.workers) (length q.slots.items))) (sym longer) sized;
      many = ap (λ (l : List Part). length (slots_of l)) longer ∙ many ∙ ap (λ (k : ℕ). length (slots_of old) + k) c.in_ok-new.ensures.2 ∙ share;
    }

pub returns-clause-many : goal.returns-clause-many
returns-clause-many c =
    all_dealt c.args.count c.args.workers c.loop-worker.worker (length (slots_of c.loop-worker.parts.items)) c.requires c.loop-worker-test.false c.loop-worker.auto.worker-end c.loop-worker.invariant.many
