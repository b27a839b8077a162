use Rattle.std.proofs.Common.{◌≡◌, ◌<◌, List, ℕ, length, slice_index_or, sym, ap, ◌∙◌, subst, IsUtf8}
use Rattle.commands.proofs.WordLemmas.{ok_of_text}
use Rattle.commands.proofs.words.Words.word.Goals as goal

-- every word is text
pub unwrap-requires : goal.unwrap-requires
unwrap-requires c =
    let within : c.args.i < length c.self.inside.held = rw c.self.view_is c.requires in
    let same : c.as_slice.result.now ≡ slice_index_or c.self.inside.held c.args.i c.index-words-i.result =
    c.as_slice.ensures ∙ (c.index-words-i.is ∙ ap (λ ws. slice_index_or ws c.args.i c.index-words-i.result) c.as_slice-words.ensures) in
    let text : IsUtf8 c.as_slice.result.now = subst (λ (w : List ℕ). IsUtf8 w) (sym same) (c.self.invariant c.args.i c.index-words-i.result within) in
    ok_of_text c.as_slice.result.now _ _ c.from_utf8.result c.from_utf8.ensures.cases text
