-- Nothing follows.
use Rattle.std.proofs.Common.{ℕ, List, [], append-nil, refl, subst}
use Rattle.sfc_texts.specs.NshText.{ShowsNsh}
use Rattle.sfc_texts.proofs.TextLemmas.{if_ok_so}
use Rattle.sfc_texts.proofs.nsh_text.nsh_lines.Goals as goal

pub returns : goal.returns
returns c =
    if_ok_so _ _ c.nsh_lines_of_front.result (λ text shows. subst (λ (b : List ℕ). ShowsNsh b text) (append-nil c.args.bytes.now) shows) (c.nsh_lines_of_front.ensures [] refl)
