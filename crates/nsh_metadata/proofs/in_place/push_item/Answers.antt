use Rattle.nsh_metadata.proofs.InPlaceLemmas.{pushed}
use Rattle.std.proofs.Common.{sym, ap, ◌∙◌, ℕ, ◌+◌, ◌/◌, arith}
use borrow.Rule.Slice.PartMut.{put_mid}
use Rattle.nsh_metadata.proofs.in_place.push_item.Goals as goal

-- the item stands behind the others, and Length counts it
pub returns : goal.returns
returns c = λ h w.
    rw c.padded_size.ensures
    (pushed c.args.header.now _ c.set_words.new.bytes h.head h.context c.args.size c.args.class c.args.kind _ c.args.body.now c.write_item.new.into
    w (sym c.if-not-bears_items.false ∙ c.bears_items.ensures) (omega arith) (omega arith) c.requires.len c.write_item.ensures (omega (arith, c.padded_size.ensures))
    (ap (λ (n : ℕ). (c.args.size + n) / 4) c.padded_size.ensures)
    (ap (λ (n : ℕ). put_mid c.args.size n c.args.header.now c.write_item.new.into) (omega (arith, c.padded_size.ensures)))
    _ c.set_words.ensures.edit c.set_words.ensures.head)
