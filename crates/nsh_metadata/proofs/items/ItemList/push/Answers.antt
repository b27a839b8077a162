use Rattle.std.proofs.Common.{ap, ◌∙◌, arith, List, ◌++◌, ◌∷◌, [], length}
use Rattle.std.proofs.lemmas.List.{length-take}
use Rattle.nsh_metadata.specs.Item.{Item, new_item, items_in}
use Rattle.nsh_metadata.proofs.ItemLemmas.{HoldsItems-push, IsItem-new_item, count-items_bytes, length-items_in}
use Rattle.nsh_metadata.proofs.items.ItemList.push.Goals as goal

pub overflow_add-self : goal.overflow_add-self
overflow_add-self c =
    let fields = c.self.inside in
    omega (arith, count-items_bytes (items_in fields.count fields.held), length-items_in fields.count fields.held, ap length c.self.invariant.1.spelled, length-take fields.len fields.held)

pub invariant_of-self : goal.invariant_of-self
invariant_of-self c =
    let fields = c.self.inside in (
      omega arith,
      (HoldsItems-push fields.held fields.count fields.len _ c.padded_size-size.result (new_item c.args.class c.args.kind c.args.body.now) c.write_item.new.into c.self.invariant.1 (omega arith)
          (IsItem-new_item c.args.class c.args.kind c.args.body.now (omega arith) (omega arith) (omega arith)) c.write_item.ensures c.padded_size-size.ensures).0,
    )

pub returns-clause-ok : goal.returns-clause-ok
returns-clause-ok c =
    let fields = c.self.inside in
    (HoldsItems-push fields.held fields.count fields.len _ c.padded_size-size.result (new_item c.args.class c.args.kind c.args.body.now) c.write_item.new.into c.self.invariant.1 (omega arith)
    (IsItem-new_item c.args.class c.args.kind c.args.body.now (omega arith) (omega arith) (omega arith)) c.write_item.ensures c.padded_size-size.ensures).1
    ∙ ap (λ (is : List Item). is ++ new_item c.args.class c.args.kind c.args.body.now ∷ []) c.self.view_is
