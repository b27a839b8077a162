-- Two readings of one text are one: its routes, or its first refused line.
use Rattle.std.proofs.Common.{◌≡◌, ℕ, ◌+◌, List, [], ◌∷◌, ◌++◌, length, refl, sym, ap, subst, ◌∙◌, append_assoc, inl, inr, ◌⊎◌, arith}
use Rattle.std.specs.List.{flat_map, AllByRecursion}
use Rattle.std.proofs.lemmas.List.{append-nil}
use Rattle.sfc_routes.specs.declared.routes.Route.{Route}
use Rattle.route_texts.specs.RouteLines.{SpellsRoute}
use Rattle.route_texts.specs.RouteTexts.{Takes, Runs, IsUnbroken, ended, IsRoutes, BadLine, IsRefused}
use Rattle.route_texts.proofs.OneRoute.{heads_are, tails_are, one_route}

-- a line that is ended is known from what it begins
first_line : (x y r s : List ℕ) → IsUnbroken x → IsUnbroken y → ended x ++ r ≡ ended y ++ s → (x ≡ y) × (r ≡ s)
first_line [] [] r s fx fy e = (refl, tails_are _ _ _ _ e)
first_line [] (c ∷ y) r s fx fy e = absurd (fy.0 (sym (heads_are _ _ _ _ e)))
first_line (b ∷ x) [] r s fx fy e = absurd (fx.0 (heads_are _ _ _ _ e))
first_line (b ∷ x) (c ∷ y) r s fx fy e =
    let rest = first_line x y r s fx.1 fy.1 (tails_are _ _ _ _ e) in
    let head : b ≡ c = heads_are _ _ _ _ e in
    let tail : x ≡ y = rest.0 in
    (cc, rest.1)

-- and bytes of which none ends a line begin with none
not_ended : (x y r : List ℕ) → IsUnbroken x → x ≡ ended y ++ r → ⊥
not_ended [] [] r f e = cc
not_ended [] (c ∷ y) r f e = cc
not_ended (b ∷ x) [] r f e = f.0 (heads_are _ _ _ _ e)
not_ended (b ∷ x) (c ∷ y) r f e = not_ended x y r f.1 (tails_are _ _ _ _ e)

-- no further bytes, or what is no line that is taken
abbrev End : List Route → List ℕ → Type 0
End before bytes = (bytes ≡ []) ⊎ BadLine before bytes

-- no line that is taken stands at an end
not_taken : (before : List Route) (line r : List ℕ) (q : Route) → IsUnbroken line → Takes before line q → End before (ended line ++ r) → ⊥
not_taken before [] r q unbroken takes (inl none) = cc
not_taken before (b ∷ line) r q unbroken takes (inl none) = cc
not_taken before line r q unbroken takes (inr bad) =
    elim bad.why [
      | inl last ↦ not_ended bad.line line r bad.unbroken (sym last.0)
      | inr refused ↦
          let one = first_line line bad.line r refused.0 unbroken bad.unbroken refused.1 in
          refused.2 q (subst (λ (l : List ℕ). Takes before l q) one.0 takes)
    ]

-- the lines, what is left, and the routes
record Same (xs ys : List (List ℕ)) (r s : List ℕ) (vs ws : List Route) : Type 0 where
  lines_are : xs ≡ ys
  left_is : r ≡ s
  routes_are : vs ≡ ws

one_run : (before : List Route) (xs ys : List (List ℕ)) (r s : List ℕ) (vs ws : List Route) → AllByRecursion IsUnbroken xs → AllByRecursion IsUnbroken ys → Runs before xs vs → Runs before ys ws
    → End vs r → End ws s → flat_map ended xs ++ r ≡ flat_map ended ys ++ s → Same xs ys r s vs ws
one_run before [] [] r s vs ws fx fy rx ry er es e = record { lines_are = refl; left_is = e; routes_are = rx ∙ sym ry }
one_run before [] (y ∷ ys) r s vs ws fx fy rx ry er es e =
    let here : r ≡ ended y ++ (flat_map ended ys ++ s) = e ∙ append_assoc (ended y) (flat_map ended ys) s in
    absurd (not_taken before y (flat_map ended ys ++ s) ry.0 fy.0 ry.1 (subst (λ (l : List ℕ). End before l) here (subst (λ (l : List Route). End l r) rx er)))
one_run before (x ∷ xs) [] r s vs ws fx fy rx ry er es e =
    let here : s ≡ ended x ++ (flat_map ended xs ++ r) = sym e ∙ append_assoc (ended x) (flat_map ended xs) r in
    absurd (not_taken before x (flat_map ended xs ++ r) rx.0 fx.0 rx.1 (subst (λ (l : List ℕ). End before l) here (subst (λ (l : List Route). End l s) ry es)))
one_run before (x ∷ xs) (y ∷ ys) r s vs ws fx fy rx ry er es e =
    let one = first_line x y (flat_map ended xs ++ r) (flat_map ended ys ++ s) fx.0 fy.0 (sym (append_assoc (ended x) (flat_map ended xs) r) ∙ e ∙ append_assoc (ended y) (flat_map ended ys) s) in
    let line_is : x ≡ y = one.0 in
    let route_is : rx.0 ≡ ry.0 = one_route y rx.0 ry.0 (subst (λ (l : List ℕ). SpellsRoute l rx.0) line_is rx.1.spelled) ry.1.spelled in
    let later : Runs (before ++ rx.0 ∷ []) ys ws = subst (λ (q : Route). Runs (before ++ q ∷ []) ys ws) (sym route_is) ry.2 in
    let rest = one_run (before ++ rx.0 ∷ []) xs ys r s vs ws fx.1 fy.1 rx.2 later er es one.1 in
    let lines_are : xs ≡ ys = rest.lines_are in
    record { lines_are = cc; left_is = rest.left_is; routes_are = rest.routes_are }

pub one_reading : (text : List ℕ) (v w : List Route) → IsRoutes text v → IsRoutes text w → v ≡ w
one_reading text v w a b =
    let one = one_run [] a.lines b.lines [] [] v w a.unbroken b.unbroken a.runs b.runs (inl refl) (inl refl)
    (append-nil (flat_map ended a.lines) ∙ sym a.split ∙ b.split ∙ sym (append-nil (flat_map ended b.lines))) in
    one.routes_are

left_of : (bytes : List ℕ) (before : List Route) → BadLine before bytes → bytes ≡ [] → ⊥
left_of bytes before bad none =
    elim bad.why [
      | inl last ↦ omega (arith, last.1, ap length (sym last.0 ∙ none))
      | inr refused ↦ not_ended [] bad.line refused.0 tt (sym none ∙ refused.1)
    ]

pub never_both : (text : List ℕ) (v : List Route) (n : ℕ) → IsRoutes text v → IsRefused text n → ⊥
never_both text v n a b =
    let one = one_run [] a.lines b.good [] b.bad v b.routes a.unbroken b.unbroken a.runs b.runs (inl refl) (inr b.first) (append-nil (flat_map ended a.lines) ∙ sym a.split ∙ b.split) in
    left_of b.bad b.routes b.first (sym one.left_is)

pub one_refusal : (text : List ℕ) (m n : ℕ) → IsRefused text m → IsRefused text n → m ≡ n
one_refusal text m n a b =
    let one = one_run [] a.good b.good a.bad b.bad a.routes b.routes a.unbroken b.unbroken a.runs b.runs (inr a.first) (inr b.first) (sym a.split ∙ b.split) in
    a.number ∙ ap (λ (l : List (List ℕ)). length l + 1) one.lines_are ∙ sym b.number
