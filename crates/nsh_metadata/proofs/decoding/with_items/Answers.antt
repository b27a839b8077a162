use Rattle.std.proofs.Common.{ℕ, ◌-◌, ◌*◌, ◌≤◌, List, length, drop, take, ap, subst, ◌∙◌}
use Rattle.nsh_metadata.specs.Item.{HoldsItems}
use Rattle.nsh_metadata.specs.Survey.{IsCutAt, IsPastAt}
use Rattle.nsh_metadata.proofs.ItemLemmas.{HoldsItems-take}
use Rattle.nsh_metadata.proofs.ReadingLemmas.{HasWhole, has_whole, whole_spelling, whole_begins, items_held, items_past}
use Rattle.nsh_metadata.proofs.decoding.with_items.Goals as goal

pub read-items-requires-clause-spelled : goal.read-items-requires-clause-spelled
read-items-requires-clause-spelled c =
    rw c.split_at-in-Whole.ensures.front
    (HoldsItems-take c.in-Whole.count (4 * c.from-size.result - 8) c.split_at.result.1.now c.in-Whole.ensures.1 c.in-Whole.ensures.0).0

whole : (c : goal.After-read-items) → HasWhole c.args.bytes.now c.args.head c.read-items.result
whole c =
    let size = ap (λ (n : ℕ). 4 * n - 8) c.from-size.ensures in
    has_whole c.args.bytes.now c.split_at.result.1.now c.split_at-in-Whole.result.0.now c.args.head c.in-Whole.count c.read-items.result c.requires.front c.requires.words c.split_at.ensures.back
    (subst (λ (n : ℕ). n ≤ length c.split_at.result.1.now) size c.in-Whole.ensures.0)
    (subst (λ (n : ℕ). HoldsItems c.in-Whole.count n c.split_at.result.1.now) size c.in-Whole.ensures.1)
    (c.split_at-in-Whole.ensures.front ∙ ap (λ (n : ℕ). take n c.split_at.result.1.now) size)
    c.read-items.ensures

pub invariant_of-result : goal.invariant_of-result
invariant_of-result c = whole_spelling c.args.bytes.now c.args.head c.read-items.result c.requires.front c.requires.md c.requires.words (whole c)

pub returns-in-Whole : goal.returns-in-Whole
returns-in-Whole c =
    rw c.from-size.ensures (whole_begins c.args.bytes.now c.args.head c.read-items.result c.requires.front c.requires.md c.requires.words (whole c))

pub returns-in-Cut : goal.returns-in-Cut
returns-in-Cut c =
    items_held c.args.bytes.now c.args.head c.in-Cut.ensures.0 c.requires.front c.requires.md c.requires.words
    (subst (λ (n : ℕ). IsCutAt (drop 8 c.args.bytes.now) (4 * n - 8) c.in-Cut.ensures.0) c.from-size.ensures
    (subst (λ (b : List ℕ). IsCutAt b (4 * c.from-size.result - 8) c.in-Cut.ensures.0) c.split_at.ensures.back c.in-Cut.ensures.1))

pub returns-in-Past : goal.returns-in-Past
returns-in-Past c =
    items_past c.args.bytes.now c.args.head c.in-Past.place c.requires.front c.requires.md c.requires.words
    (subst (λ (n : ℕ). IsPastAt (drop 8 c.args.bytes.now) (4 * n - 8) c.in-Past.place) c.from-size.ensures
    (subst (λ (b : List ℕ). IsPastAt b (4 * c.from-size.result - 8) c.in-Past.place) c.split_at.ensures.back c.in-Past.ensures))
