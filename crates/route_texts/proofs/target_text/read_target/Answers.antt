-- The digits are those of one run of bytes, which is no route target.
use Rattle.std.proofs.Common.{◌≡◌, ◌≤◌, ℕ, List, sym, subst, ◌∙◌}
use Rattle.std.specs.Prelude.{slice_index}
use Rattle.route_texts.proofs.OneLemmas.{one_hexadecimal}
use Rattle.route_texts.proofs.target_text.read_target.Goals as goal

pub returns-then-not-is_route_target : goal.returns-then-not-is_route_target
returns-then-not-is_route_target c = λ t s.
    let target = c.in-Some.target in
    let same : t ≡ target = one_hexadecimal 8 t target s.octets c.in-Some.ensures.0 (sym s.spelled ∙ c.in-Some.ensures.1) in
    let shown : t ≡ c.bytes.result.now = same ∙ sym c.bytes.ensures.value in
    let yes = c.is_route_target.ensures.1 (subst (λ (l : List ℕ). slice_index l 0 ≤ 2) shown s.form, subst (λ (l : List ℕ). slice_index l 1 ≡ 2) shown s.route) in
    let other = c.if-not-is_route_target.true in
    absurd cc
