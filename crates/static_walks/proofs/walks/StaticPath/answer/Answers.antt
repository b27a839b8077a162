-- The hop of an index serves it; below the last hop the path has ended.
use Rattle.std.proofs.Common.{◌≡◌, ◌-◌, ap, refl, sym, ◌∙◌, subst, arith}
use Rattle.wire_base.specs.declared.ids.InstanceId.{InstanceId}
use Rattle.path_selection.specs.declared.answers.Answer.TheVariants.{Ended, At}
use Rattle.path_selection.specs.Answers.{IsAnswer}
use Rattle.static_walks.specs.Walks.{here, static_table}
use Rattle.static_walks.proofs.StaticLemmas.{says_at, says_ended}
use Rattle.static_walks.proofs.walks.StaticPath.answer.Goals as goal

pub returns-then-from-lt256 : goal.returns-then-from-lt256
returns-then-from-lt256 c = record {
  answer = subst (λ spi. IsAnswer (static_table c.args.self.now.spi c.args.self.now.count) spi c.args.si Ended)
      (sym (c.if-spi-number.false ∙ c.number.ensures.value))
      (says_ended c.args.self.now.spi c.args.self.now.count c.args.si (omega arith) (omega arith));
  own = tt;
}

pub returns : goal.returns
returns c =
    let instance : (let i : InstanceId = record { 0 = 255 - c.args.si } in i) ≡ record { 0 = c.from-3.result } =
    ap (λ n. let i : InstanceId = record { 0 = n } in i) (sym c.from-3.ensures) in
    record {
      answer =
          subst (λ spi. IsAnswer (static_table c.args.self.now.spi c.args.self.now.count) spi c.args.si (At c.args.si here (record { 0 = c.from-3.result })))
          (sym (c.if-spi-number.false ∙ c.number.ensures.value))
          (subst (λ i. IsAnswer (static_table c.args.self.now.spi c.args.self.now.count) c.args.self.now.spi c.args.si (At c.args.si here i)) instance
          (says_at c.args.self.now.spi c.args.self.now.count c.args.si (omega arith) (omega arith)));
      own = (omega arith, refl, refl, sym instance);
    }
