use Rattle.std.proofs.Common.{◌≡◌, ℕ, ◌+◌, drop, sym, ap, subst, ◌∙◌, arith, Some, slice_get}
use Rattle.nsh_metadata.specs.Item.{IsItem, items_bytes}
use Rattle.nsh_metadata.proofs.ItemLemmas.{item_here, size_here}
use Rattle.nsh_metadata.proofs.items.ItemList.item.Goals as goal

pub size_at-requires : goal.size_at-requires
size_at-requires c =
    let here = item_here c.args.self.now c.loop.counter c.bytes-rest.ensures.items (omega arith) in
    (size_here c.loop.rest.now here.item (items_bytes (drop (c.loop.counter + 1) c.args.self.now)) here.ok (c.loop.invariant ∙ here.bytes)).2

pub split_at-requires : goal.split_at-requires
split_at-requires c =
    let here = item_here c.args.self.now c.loop.counter c.bytes-rest.ensures.items (omega arith) in
    omega (arith, c.size_at.ensures.size, (size_here c.loop.rest.now here.item (items_bytes (drop (c.loop.counter + 1) c.args.self.now)) here.ok (c.loop.invariant ∙ here.bytes)).1)

pub loop-preserved : goal.loop-preserved
loop-preserved c =
    let here = item_here c.args.self.now c.loop.counter c.bytes-rest.ensures.items (omega arith) in
    c.split_at.ensures.back ∙ ap (λ (n : ℕ). drop n c.loop.rest.now) c.size_at.ensures.size
    ∙ (size_here c.loop.rest.now here.item (items_bytes (drop (c.loop.counter + 1) c.args.self.now)) here.ok (c.loop.invariant ∙ here.bytes)).3

pub item_ref-requires-clause-head : goal.item_ref-requires-clause-head
item_ref-requires-clause-head c =
    let at : c.loop.counter ≡ c.args.i = omega arith in
    let here = item_here c.args.self.now c.loop.counter c.bytes-rest.ensures.items (omega arith) in
    (size_here c.loop.rest.now here.item (items_bytes (drop (c.loop.counter + 1) c.args.self.now)) here.ok (c.loop.invariant ∙ here.bytes)).2

pub item_ref-requires-clause-whole : goal.item_ref-requires-clause-whole
item_ref-requires-clause-whole c =
    let at : c.loop.counter ≡ c.args.i = omega arith in
    let here = item_here c.args.self.now c.loop.counter c.bytes-rest.ensures.items (omega arith) in
    (size_here c.loop.rest.now here.item (items_bytes (drop (c.loop.counter + 1) c.args.self.now)) here.ok (c.loop.invariant ∙ here.bytes)).1

pub returns-clause-item : goal.returns-clause-item
returns-clause-item c =
    let at : c.loop.counter ≡ c.args.i = omega arith in
    let here = item_here c.args.self.now c.loop.counter c.bytes-rest.ensures.items (omega arith) in
    subst (λ (k : ℕ). slice_get c.args.self.now k ≡ Some here.item) at here.got
    ∙ ap Some (sym (c.item_ref.ensures ∙ (size_here c.loop.rest.now here.item (items_bytes (drop (c.loop.counter + 1) c.args.self.now)) here.ok (c.loop.invariant ∙ here.bytes)).4))

pub returns-clause-fits : goal.returns-clause-fits
returns-clause-fits c =
    let here = item_here c.args.self.now c.loop.counter c.bytes-rest.ensures.items (omega arith) in
    subst IsItem (sym (c.item_ref.ensures ∙ (size_here c.loop.rest.now here.item (items_bytes (drop (c.loop.counter + 1) c.args.self.now)) here.ok (c.loop.invariant ∙ here.bytes)).4)) here.ok
