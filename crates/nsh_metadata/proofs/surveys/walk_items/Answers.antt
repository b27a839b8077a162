use Rattle.std.proofs.Common.{◌≡◌, ℕ, ◌<◌, ◌≤◌, List, length, drop, ap, ◌∙◌, arith}
use Rattle.std.proofs.lemmas.List.{length-drop}
use Rattle.std.proofs.lemmas.List.Elements.{All-from_get_or}
use Rattle.wire_base.specs.Numbers.{AreBytes}
use Rattle.nsh_metadata.specs.Item.{item_size}
use Rattle.nsh_metadata.proofs.ItemLemmas.{HoldsItems-more}
use Rattle.nsh_metadata.proofs.surveys.walk_items.Goals as goal

-- the item at the place is whole, so there is one more
pub loop-at-preserved : goal.loop-at-preserved
loop-at-preserved c =
    let bytes : List ℕ = c.args.bytes.now in
    let place : ℕ = c.loop-at.at in
    let fits : AreBytes bytes = All-from_get_or (λ b. b < 256) bytes 0 (λ i _. omega (arith, c.type_inv.bytes i)) in
    let size_is : c.size_at-size.result ≡ item_size (drop place bytes) = c.size_at-size.ensures.size ∙ ap item_size c.split_at.ensures.back in
    let len_is = ap length c.split_at.ensures.back in
    let long : 4 ≤ length (drop place bytes) = omega arith in
    let whole : item_size (drop place bytes) ≤ length (drop place bytes) = omega arith in
    let more = HoldsItems-more c.loop-at.count place bytes fits c.loop-at.invariant.items c.loop-at.invariant.within long whole in
    record {
      items = rw size_is more;
      within = omega (arith, length-drop place bytes);
      inside = omega arith;
      few = omega arith;
    }
