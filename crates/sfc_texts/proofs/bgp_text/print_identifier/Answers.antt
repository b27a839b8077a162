-- The label and then the four numbers were appended.
use Rattle.std.proofs.Common.{◌++◌, ap, ◌∙◌}
use Rattle.text_words.specs.Addresses.{dotted}
use Rattle.sfc_texts.proofs.TextLemmas.{on_ok_so}
use Rattle.sfc_texts.proofs.BgpLemmas.{identifier_appended}
use Rattle.sfc_texts.proofs.bgp_text.print_identifier.Goals as goal

pub returns : goal.returns
returns c =
    let found = rw c.unwrap.ensures at c.of.ensures.value in
    on_ok_so _ _ c.print_dotted.result
    (λ last. identifier_appended c.args.out.now c.push_all.new.self c.print_dotted.new.out c.args.id c.in_ok-push_all.ensures.ok
    (last ∙ ap (λ o. c.push_all.new.self ++ dotted o) found.0))
    c.print_dotted.ensures.ok
