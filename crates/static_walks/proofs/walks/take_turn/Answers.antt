-- A spent TTL ends the walk, and so does each answer but a hop; the hop of the packet's index serves it, so the index is at least 1 and
-- falls by 1.
use Rattle.std.proofs.Common.{ap, ◌∙◌, arith, refl, take, get_or}
use Rattle.std.proofs.lemmas.List.{take_rest}
use Rattle.wire_base.specs.Numbers.{big_endian}
use Rattle.nsh_headers.specs.Edit.{with_ttl}
use Rattle.path_selection.specs.declared.answers.Answer.TheVariants.{NoPath, NoInstance, Ended}
use Rattle.record_text.specs.declared.records.End.TheVariants.{Egress, Drop}
use Rattle.record_text.specs.declared.records.Reason.TheVariants as reason
use Rattle.static_walks.proofs.WalkLemmas.{ended_at, spent_at, turn_served}
use Rattle.static_walks.proofs.walks.take_turn.Goals as goal

pub overflow_sub-si : goal.overflow_sub-si
overflow_sub-si c = omega (arith, c.in-At.ensures.own.0)

pub returns-then-lower_ttl-eq0-clause-turn : goal.returns-then-lower_ttl-eq0-clause-turn
returns-then-lower_ttl-eq0-clause-turn c = λ s spelled home.
    spent_at c.args.path.now.spi c.args.path.now.count c.lower_ttl.result s (c.lower_ttl.ensures.head_answer s.header.head spelled) c.if-lower_ttl-eq0.true

pub returns-in-NoPath-clause-turn : goal.returns-in-NoPath-clause-turn
returns-in-NoPath-clause-turn c = λ s spelled home.
    let new = c.lower_ttl.new.bytes in
    let lowered_head = c.lower_ttl.ensures.head s.header.head spelled in
    let spi_is = c.be_u24.ensures.number ∙ ap (λ l. big_endian (take 3 l)) (take_rest new 4) ∙ lowered_head.spi in
    ended_at c.args.path.now.spi c.args.path.now.count c.lower_ttl.result c.be_u24.result (get_or new 7 0) s NoPath (Drop reason.NoPath)
    (c.lower_ttl.ensures.head_answer s.header.head spelled) c.if-lower_ttl-eq0.false spi_is lowered_head.si c.in-NoPath.ensures.answer refl

pub returns-in-NoInstance-clause-turn : goal.returns-in-NoInstance-clause-turn
returns-in-NoInstance-clause-turn c = λ s spelled home.
    let new = c.lower_ttl.new.bytes in
    let lowered_head = c.lower_ttl.ensures.head s.header.head spelled in
    let spi_is = c.be_u24.ensures.number ∙ ap (λ l. big_endian (take 3 l)) (take_rest new 4) ∙ lowered_head.spi in
    ended_at c.args.path.now.spi c.args.path.now.count c.lower_ttl.result c.be_u24.result (get_or new 7 0) s (NoInstance c.in-NoInstance.si) (Drop (reason.NoInstance c.in-NoInstance.si))
    (c.lower_ttl.ensures.head_answer s.header.head spelled) c.if-lower_ttl-eq0.false spi_is lowered_head.si c.in-NoInstance.ensures.answer refl

pub returns-in-Ended-clause-turn : goal.returns-in-Ended-clause-turn
returns-in-Ended-clause-turn c = λ s spelled home.
    let new = c.lower_ttl.new.bytes in
    let lowered_head = c.lower_ttl.ensures.head s.header.head spelled in
    let spi_is = c.be_u24.ensures.number ∙ ap (λ l. big_endian (take 3 l)) (take_rest new 4) ∙ lowered_head.spi in
    ended_at c.args.path.now.spi c.args.path.now.count c.lower_ttl.result c.be_u24.result (get_or new 7 0) s Ended Egress
    (c.lower_ttl.ensures.head_answer s.header.head spelled) c.if-lower_ttl-eq0.false spi_is lowered_head.si c.in-Ended.ensures.answer refl

pub returns-in-At-clause-turn : goal.returns-in-At-clause-turn
returns-in-At-clause-turn c = λ s spelled home.
    let new = c.lower_ttl.new.bytes in
    let ttl_is = c.lower_ttl.ensures.head_answer s.header.head spelled in
    let lowered_head = c.lower_ttl.ensures.head s.header.head spelled in
    let spi_is = c.be_u24.ensures.number ∙ ap (λ l. big_endian (take 3 l)) (take_rest new 4) ∙ lowered_head.spi in
    turn_served c.args.path.now.spi c.args.path.now.count s c.set_si.new.bytes c.lower_ttl.result c.in-At.si c.be_u24.result (get_or new 7 0) c.in-At.field-1 c.in-At.field-2
    home ttl_is c.if-lower_ttl-eq0.false spi_is lowered_head.si c.in-At.ensures.answer c.in-At.ensures.own
    (c.set_si.ensures.head (with_ttl s.header.head c.lower_ttl.result) lowered_head)
