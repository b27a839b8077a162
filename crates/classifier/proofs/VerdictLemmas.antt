-- One rule of a list decides, so a frame has one verdict.
use Rattle.std.proofs.Common.{◌≡◌, ℕ, List, [], ◌∷◌, ◌++◌, All, get_or, drop, subst, sym, ap, ◌∙◌, inl, inr, arith}
use Rattle.std.proofs.lemmas.List.Elements.{All-tail}
use Rattle.net_frames.specs.declared.contents.Fields.{Fields}
use Rattle.classifier.specs.declared.rules.Rule.{Rule}
use Rattle.classifier.specs.declared.verdicts.Verdict.{Verdict}
use Rattle.classifier.specs.Matching.{Matches}
use Rattle.classifier.specs.Verdicts.{Start, Ruled, verdict_of}

-- two places, before each of which no rule matches and at each of which one does, are one
same_rule : (f : Fields) (before after before' after' : List Rule) (r r' : Rule) → before ++ r ∷ after ≡ before' ++ r' ∷ after'
    → Matches r f → Matches r' f → All (λ q. ¬ (Matches q f)) before → All (λ q. ¬ (Matches q f)) before' → r ≡ r'
same_rule f [] after [] after' r r' e m m' none none' = ap (λ l. get_or l 0 r) e
same_rule f [] after (x ∷ before') after' r r' e m m' none none' =
    absurd (none' 0 x (omega arith) (subst (λ q. Matches q f) (ap (λ l. get_or l 0 r) e) m))
same_rule f (x ∷ before) after [] after' r r' e m m' none none' =
    absurd (none 0 x (omega arith) (subst (λ q. Matches q f) (ap (λ l. get_or l 0 r') (sym e)) m'))
same_rule f (x ∷ before) after (y ∷ before') after' r r' e m m' none none' =
    same_rule f before after before' after' r r' (ap (λ l. drop 1 l) e) m m'
    (All-tail (λ q. ¬ (Matches q f)) x before none) (All-tail (λ q. ¬ (Matches q f)) y before' none')

-- a rule that decides is in the list, so some rule matches
some_matches : (f : Fields) (before after : List Rule) (r : Rule) → Matches r f → All (λ q. ¬ (Matches q f)) (before ++ r ∷ after) → ⊥
some_matches f [] after r m none = none 0 r (omega arith) m
some_matches f (x ∷ before) after r m none = some_matches f before after r m (All-tail (λ q. ¬ (Matches q f)) x (before ++ r ∷ after) none)

one_ruled : (rules : List Rule) (f : Fields) (v w : Verdict) → Ruled rules f v → Ruled rules f w → v ≡ w
one_ruled rules f v w (inl a) (inl b) =
    let one = same_rule f a.decides.earlier a.decides.later b.decides.earlier b.decides.later a.rule b.rule (sym a.decides.listed ∙ b.decides.listed)
    a.decides.matching b.decides.matching a.decides.unmatched b.decides.unmatched in
    a.value ∙ ap (λ r. verdict_of r.action) one ∙ sym b.value
one_ruled rules f v w (inl a) (inr b) =
    absurd (some_matches f a.decides.earlier a.decides.later a.rule a.decides.matching (subst (λ l. All (λ q. ¬ (Matches q f)) l) a.decides.listed b.unmatched))
one_ruled rules f v w (inr a) (inl b) =
    absurd (some_matches f b.decides.earlier b.decides.later b.rule b.decides.matching (subst (λ l. All (λ q. ¬ (Matches q f)) l) b.decides.listed a.unmatched))
one_ruled rules f v w (inr a) (inr b) = a.value ∙ sym b.value

pub one_start : (rules : List Rule) (bytes : List ℕ) (v w : Verdict) → Start rules bytes v → Start rules bytes w → v ≡ w
one_start rules bytes v w (inl a) (inl b) = a.1 ∙ sym b.1
one_start rules bytes v w (inl a) (inr b) = absurd (b.0 a.0)
one_start rules bytes v w (inr a) (inl b) = absurd (a.0 b.0)
one_start rules bytes v w (inr a) (inr b) = one_ruled rules _ v w a.1 b.1
