use Rattle.sfc_texts.proofs.TextLemmas.{on_ok_so, class_appended}
use Rattle.sfc_texts.proofs.nsh_text.print_class.Goals as goal

-- the label and then the digits were appended
pub returns : goal.returns
returns c =
    on_ok_so _ _ c.print_four_digits.result
    (λ last. class_appended c.args.out.now _ _ c.args.class c.in_ok-push_all.ensures.ok last)
    c.print_four_digits.ensures.ok
