use Rattle.nsh_metadata.proofs.InPlaceLemmas.{cleared_items, cleared_bytes}
use Rattle.nsh_metadata.proofs.HeaderLemmas.{begins_head}
use Rattle.std.proofs.Common.{sym, ◌∙◌}
use Rattle.nsh_metadata.proofs.in_place.clear_context.Goals as goal

-- no items are left
pub returns-then-bears_items : goal.returns-then-bears_items
returns-then-bears_items c = λ h size w.
    cleared_items c.args.header.now c.set_words.new.bytes h.head h.context size w (sym c.if-bears_items.true ∙ c.bears_items.ensures) (c.set_words.ensures.head h.head (begins_head c.args.header.now h size w))

-- 16 bytes 0 are left
pub returns : goal.returns
returns c = λ h size w.
    cleared_bytes c.args.header.now c.zero.new.bytes h.head h.context size w (sym c.if-bears_items.false ∙ c.bears_items.ensures) c.zero.ensures
