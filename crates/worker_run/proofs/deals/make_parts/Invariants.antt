-- The parts of the workers so far.
use Rattle.std.proofs.Common.{◌≡◌, ◌+◌, ◌*◌, min, None, length}
use Rattle.std.specs.List.{AllByRecursion}
use Rattle.worker_run.specs.Deals.{IsSize}
use Rattle.worker_run.specs.Shares.{AreNumbered, slots_of}
use Rattle.worker_run.proofs.deals.make_parts.Given as goal

abbrev pub invariant-loop-worker : goal.invariant-loop-worker
invariant-loop-worker l = record {
  numbered : AreNumbered 0 l.parts.items;
  count : length l.parts.items ≡ l.worker;
  seats : AllByRecursion (λ p. p.seat ≡ None) l.parts.items;
  sized : AllByRecursion (λ p. IsSize l.each (length p.slots.items)) l.parts.items;
  many : length (slots_of l.parts.items) ≡ l.worker * l.each + min l.worker l.extra;
}
