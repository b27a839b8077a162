-- Words that are written one after another.
use Rattle.std.proofs.Common.{◌≡◌, ℕ, List, [], ◌∷◌, ◌++◌, refl, ◌∙◌, ap, append_assoc}
use Rattle.setup_statements.specs.Statements.{said}

-- what stood before the words stays before them
pub said_after : (a b : List ℕ) (ws : List (List ℕ)) → said (a ++ b) ws ≡ a ++ said b ws
said_after a b [] = refl
said_after a b (w ∷ ws) = ap (λ o. said o ws) (append_assoc a b (32 ∷ w)) ∙ said_after a (b ++ 32 ∷ w) ws

ended : (out key : List ℕ) (ws : List (List ℕ)) → said (out ++ key) ws ++ 10 ∷ [] ≡ out ++ (said key ws ++ 10 ∷ [])
ended out key ws = ap (λ x. x ++ 10 ∷ []) (said_after out key ws) ∙ append_assoc out (said key ws) (10 ∷ [])

-- four words and others
pub instance_in_turn : (out key w2 : List ℕ) (ws : List (List ℕ)) {o1 o2 o3 o4 o5 o6 o7 w1 w3 w4 v1 v3 v4 : List ℕ}
    → o1 ≡ out ++ key → o2 ≡ o1 ++ 32 ∷ v1 → o3 ≡ o2 ++ 32 ∷ w2 → o4 ≡ o3 ++ 32 ∷ v3 → o5 ≡ o4 ++ 32 ∷ v4
    → o6 ≡ said o5 ws → o7 ≡ o6 ++ 10 ∷ [] → v1 ≡ w1 → v3 ≡ w3 → v4 ≡ w4
    → o7 ≡ out ++ (said key (w1 ∷ w2 ∷ w3 ∷ w4 ∷ ws) ++ 10 ∷ [])
instance_in_turn out key w2 ws {w1 = w1} {w3 = w3} {w4 = w4} e1 e2 e3 e4 e5 e6 e7 f1 f3 f4 =
    let all = ended out key (w1 ∷ w2 ∷ w3 ∷ w4 ∷ ws) in
    rw (e7, e6, e5, e4, e3, e2, e1, f1, f3, f4) all

-- five words and others
pub rule_in_turn : (out key w1 w2 w3 w4 w5 : List ℕ) (ws : List (List ℕ)) {o1 o2 o3 o4 o5 o6 o7 o8 : List ℕ}
    → o1 ≡ out ++ key → o2 ≡ o1 ++ 32 ∷ w1 → o3 ≡ o2 ++ 32 ∷ w2 → o4 ≡ o3 ++ 32 ∷ w3 → o5 ≡ o4 ++ 32 ∷ w4 → o6 ≡ o5 ++ 32 ∷ w5
    → o7 ≡ said o6 ws → o8 ≡ o7 ++ 10 ∷ []
    → o8 ≡ out ++ (said key (w1 ∷ w2 ∷ w3 ∷ w4 ∷ w5 ∷ ws) ++ 10 ∷ [])
rule_in_turn out key w1 w2 w3 w4 w5 ws e1 e2 e3 e4 e5 e6 e7 e8 =
    let all = ended out key (w1 ∷ w2 ∷ w3 ∷ w4 ∷ w5 ∷ ws) in
    rw (e8, e7, e6, e5, e4, e3, e2, e1) all
