use Rattle.std.proofs.Common.{◌≡◌, List, ℕ, ◌++◌, sym, ap, ◌∙◌, subst, IsUtf8}
use Rattle.std.specs.List.{All}
use Rattle.commands.proofs.WordLemmas.{texts_and_one}
use Rattle.commands.proofs.words.Words.push.Goals as goal

-- the words are as they were
pub invariant_of-self : goal.invariant_of-self
invariant_of-self c = subst (λ (ws : List (List ℕ)). All IsUtf8 ws) (sym c.in_err-push.ensures.err) c.self.invariant

-- the new word is text
pub invariant_of-self-2 : goal.invariant_of-self-2
invariant_of-self-2 c =
    let same : c.push_all.new.self ≡ c.args.word.now =
    c.in_ok-push_all.ensures.ok ∙ (ap (λ b. b ++ c.as_bytes.result.now) c.new-own.ensures ∙ c.as_bytes.ensures.value) in
    let text : IsUtf8 c.push_all.new.self = subst (λ (w : List ℕ). IsUtf8 w) (sym same) c.utf8.word in
    subst (λ (ws : List (List ℕ)). All IsUtf8 ws) (sym c.in_ok-push.ensures.ok) (texts_and_one c.self.inside.held c.push_all.new.self c.self.invariant text)
