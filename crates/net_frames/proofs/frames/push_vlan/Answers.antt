use Rattle.std.proofs.Common.{◌≡◌, ◌≤◌, ◌∷◌, ◌++◌, [], length, take, drop, sym, ◌∙◌, refl, arith, true}
use Rattle.std.proofs.lemmas.Bool.{le-leb}
use Rattle.std.proofs.Math.Seq.{take-append_seam}
use Rattle.std.specs.Prelude.{nat_le}
use Rattle.std.specs.Vec.{with_items}
use Rattle.net_frames.specs.Edits.{tag_of}
use Rattle.net_frames.proofs.TagLemmas.{tag_in_room}
use Rattle.net_frames.proofs.frames.push_vlan.Goals as goal

-- the buffer with four bytes more, moved back and written over, has the tag before what stood from byte 12 on
pub returns-clause-ok : goal.returns-clause-ok
returns-clause-ok c =
    let bytes = c.frame.inside.buffer.items in
    let enough : 12 ≤ length bytes = omega arith in
    let test : nat_le 12 (length bytes) ≡ true = le-leb 12 (length bytes) enough in
    let lent : c.deref_mut.result.now ≡ bytes ++ 0 ∷ 0 ∷ 0 ∷ 0 ∷ [] = c.deref_mut.ensures.value ∙ c.in-Ok.ensures.items in
    let written : c.insert_tag.new.bytes ≡ take 12 bytes ++ (tag_of c.args.vid ++ drop 12 bytes) =
    rw (c.insert_tag.ensures.value, lent) (tag_in_room bytes (tag_of c.args.vid) enough) in
    let back : (with_items c.extend_from_slice.new.self c.insert_tag.new.bytes).items ≡ c.insert_tag.new.bytes =
    rw (sym (c.insert_tag.ensures.len ∙ c.deref_mut.ensures.len)) (take-append_seam c.insert_tag.new.bytes _) in
    rw (← c.frame.view_is, test, back, written) refl
