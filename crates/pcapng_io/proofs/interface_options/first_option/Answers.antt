-- The list ends here, the option here is wanted, or it is one of those behind.
use Rattle.std.proofs.Common.{◌≡◌, ◌<◌, ◌+◌, ◌-◌, length, ap, sym, ◌∙◌, subst, find, Some, arith}
use Rattle.pcapng_io.specs.declared.interface_options.OptionAt.{OptionAt}
use Rattle.pcapng_io.specs.Options.{is_wanted, option_at, options_from, behind, first_option}
use Rattle.pcapng_io.proofs.OptionLemmas.{find_end, find_here, find_later}
use Rattle.pcapng_io.proofs.interface_options.first_option.Goals as goal

pub returns-then-is_end-clause-value : goal.returns-then-is_end-clause-value
returns-then-is_end-clause-value c =
    sym (find_end (is_wanted c.args.want (length c.args.block.now)) c.options.left c.args.big c.options.at c.args.block.now (sym c.is_end.ensures ∙ c.if-is_end.true))
    ∙ c.options.invariant.rest

pub returns-then-is_wanted-clause-value : goal.returns-then-is_wanted-clause-value
returns-then-is_wanted-clause-value c =
    let here = c.option_at-option.ensures in
    ap Some here
    ∙ sym (find_here (is_wanted c.args.want (length c.args.block.now)) c.options.left c.args.big c.options.at c.args.block.now (omega (arith, c.options-test.true)) (sym c.is_end.ensures ∙ c.if-is_end.false)
    (ap (is_wanted c.args.want (length c.args.block.now)) (sym here) ∙ sym c.is_wanted.ensures ∙ c.if-is_wanted.true))
    ∙ c.options.invariant.rest

pub options-preserved : goal.options-preserved
options-preserved c =
    let here = c.option_at-option.ensures in
    let size : c.option_at-option.result.size < 65536 = omega (arith, c.option_at-option.type_inv) in
    let later : behind (option_at c.args.big c.options.at c.args.block.now) ≡ c.options.at + (4 + c.padded.result) =
    ap behind (sym here) ∙ omega (arith, c.padded.ensures, ap (λ (o : OptionAt). o.at) here) in
    record {
      rest =
          subst (λ n. find (is_wanted c.args.want (length c.args.block.now)) (options_from (c.options.left - 1) c.args.big n c.args.block.now) ≡ first_option c.args.want c.args.big c.args.block.now) later
          (sym (find_later (is_wanted c.args.want (length c.args.block.now)) c.options.left c.args.big c.options.at c.args.block.now (omega (arith, c.options-test.true)) (sym c.is_end.ensures ∙ c.if-is_end.false)
          (ap (is_wanted c.args.want (length c.args.block.now)) (sym here) ∙ sym c.is_wanted.ensures ∙ c.if-is_wanted.false))
          ∙ c.options.invariant.rest);
      small = grind arith;
    }

pub returns-clause-value : goal.returns-clause-value
unfolding options_from
returns-clause-value c =
    let none : c.options.left ≡ 0 = omega (arith, c.options-test.false) in
    ap (λ n. find (is_wanted c.args.want (length c.args.block.now)) (options_from n c.args.big c.options.at c.args.block.now)) (sym none)
    ∙ c.options.invariant.rest
