-- The identifiers at the two places are compared.
use Rattle.std.proofs.Common.{arith}
use Rattle.table_publish.proofs.DifferenceLemmas.{same_spi}
use Rattle.table_publish.proofs.differences.next_of.Goals as goal

pub returns-then-goes-joins-clause-next : goal.returns-then-goes-joins-clause-next
returns-then-goes-joins-clause-next c = (
  omega (arith, c.if-at-olds.false, c.len-olds.ensures.value, c.requires.some.0),
  λ some p q at at'.
      let x = same_spi c.args.old.now c.args.at.gone p c.path.result.now (at.1 p) (c.path.ensures p) in
      let y = same_spi c.args.new.now c.args.at.made q c.path-2.result.now (at'.1 q) (c.path-2.ensures q) in
      omega (arith, c.if-goes-joins.true, c.number-goes.ensures.value, c.number-joins.ensures.value, c.spi.ensures.value, c.spi-2.ensures.value, x, y),
)

pub returns-then-joins-goes-clause-next : goal.returns-then-joins-goes-clause-next
returns-then-joins-goes-clause-next c = (
  omega (arith, c.if-at-news.false, c.len-news.ensures.value, c.requires.some.1),
  λ some p q at at'.
      let x = same_spi c.args.old.now c.args.at.gone p c.path.result.now (at.1 p) (c.path.ensures p) in
      let y = same_spi c.args.new.now c.args.at.made q c.path-2.result.now (at'.1 q) (c.path-2.ensures q) in
      omega (arith, c.if-joins-goes.true, c.number-goes.ensures.value, c.number-joins.ensures.value, c.spi.ensures.value, c.spi-2.ensures.value, x, y),
)

pub returns-clause-next : goal.returns-clause-next
returns-clause-next c = (
  omega (arith, c.if-at-olds.false, c.len-olds.ensures.value, c.requires.some.0),
  omega (arith, c.if-at-news.false, c.len-news.ensures.value, c.requires.some.1),
  λ p q at at'.
      let x = same_spi c.args.old.now c.args.at.gone p c.path.result.now (at.1 p) (c.path.ensures p) in
      let y = same_spi c.args.new.now c.args.at.made q c.path-2.result.now (at'.1 q) (c.path-2.ensures q) in
      omega (arith, c.if-goes-joins.false, c.if-joins-goes.false, c.number-goes.ensures.value, c.number-joins.ensures.value, c.spi.ensures.value, c.spi-2.ensures.value, x, y),
)
