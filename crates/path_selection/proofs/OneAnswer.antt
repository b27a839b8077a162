-- A table has one answer for an identifier and an index.
use Rattle.std.proofs.Common.{◌≡◌, ℕ, zero, suc, ◌+◌, ◌<◌, ◌≤◌, List, [], ◌∷◌, length, get_or, Option, Some, None, refl, sym, ap, subst, ◌∙◌, arith}
use Rattle.std.proofs.lemmas.List.Elements.{All-contains}
use Rattle.wire_base.specs.declared.ids.ForwarderId.{ForwarderId}
use Rattle.wire_base.specs.declared.ids.InstanceId.{InstanceId}
use Rattle.path_selection.specs.declared.answers.Answer.{Answer}
use Rattle.path_selection.specs.declared.answers.Answer.TheVariants.{NoPath, Ended, NoInstance, At}
use Rattle.path_selection.specs.declared.hops.HopRow.{HopRow}
use Rattle.path_selection.specs.Answers.{HasNoPath, HasPath, IsAnswer, IsServing, NoneServes, Serves}
use Rattle.path_selection.specs.Paths.{ArePathRows, FallsBelow, IsTable, RisesFrom, ServicePath}
use Rattle.path_selection.proofs.RowLemmas.{falls_under}
use Rattle.path_selection.proofs.TableLemmas.{rises_over}

same_path : (least : ℕ) (xs : List ServicePath) (i j : ℕ) (p q : ServicePath) → RisesFrom least xs → i < length xs → j < length xs → get_or xs i p ≡ p → get_or xs j q ≡ q → p.spi ≡ q.spi → p ≡ q
same_path least [] i j p q r hi hj ip jq e = absurd (omega arith)
same_path least (x ∷ xs) zero zero p q r hi hj ip jq e = sym ip ∙ jq
same_path least (x ∷ xs) zero (suc j) p q r hi hj ip jq e = absurd (omega (arith, rises_over (x.spi + 1) xs r.2 j q (omega arith), ap (λ (s : ServicePath). s.spi) ip, ap (λ (s : ServicePath). s.spi) jq, e))
same_path least (x ∷ xs) (suc i) zero p q r hi hj ip jq e = absurd (omega (arith, rises_over (x.spi + 1) xs r.2 i p (omega arith), ap (λ (s : ServicePath). s.spi) ip, ap (λ (s : ServicePath). s.spi) jq, e))
same_path least (x ∷ xs) (suc i) (suc j) p q r hi hj ip jq e = same_path (x.spi + 1) xs i j p q r.2 (omega arith) (omega arith) ip jq e

same_row : (top : ℕ) (xs : List HopRow) (i j : ℕ) (p q : HopRow) → FallsBelow top xs → i < length xs → j < length xs → get_or xs i p ≡ p → get_or xs j q ≡ q → p.si ≡ q.si → p ≡ q
same_row top [] i j p q r hi hj ip jq e = absurd (omega arith)
same_row top (x ∷ xs) zero zero p q r hi hj ip jq e = sym ip ∙ jq
same_row top (x ∷ xs) zero (suc j) p q r hi hj ip jq e = absurd (omega (arith, falls_under x.si xs r.2 j q (omega arith), ap (λ (s : HopRow). s.si) ip, ap (λ (s : HopRow). s.si) jq, e))
same_row top (x ∷ xs) (suc i) zero p q r hi hj ip jq e = absurd (omega (arith, falls_under x.si xs r.2 i p (omega arith), ap (λ (s : HopRow). s.si) ip, ap (λ (s : HopRow). s.si) jq, e))
same_row top (x ∷ xs) (suc i) (suc j) p q r hi hj ip jq e = same_row x.si xs i j p q r.2 (omega arith) (omega arith) ip jq e

kept_at : (least : ℕ) (xs : List ServicePath) (i : ℕ) (p : ServicePath) → RisesFrom least xs → i < length xs → get_or xs i p ≡ p → ArePathRows p.rows
kept_at least [] i p r h e = absurd (omega arith)
kept_at least (x ∷ xs) zero p r h e = subst (λ (s : ServicePath). ArePathRows s.rows) e r.1
kept_at least (x ∷ xs) (suc i) p r h e = kept_at (x.spi + 1) xs i p r.2 (omega arith) e

one_path : (table : List ServicePath) (spi : ℕ) (p q : ServicePath) → IsTable table → HasPath table spi p → HasPath table spi q → p ≡ q
one_path table spi p q r hp hq = same_path 0 table hp.there.0 hq.there.0 p q r hp.there.1 hq.there.1 hp.there.2 hq.there.2 (hp.named ∙ sym hq.named)

one_row : (rows : List HopRow) (si : ℕ) (a b : HopRow) → ArePathRows rows → Serves rows si a → Serves rows si b → a ≡ b
one_row rows si a b f ha hb =
    let up : a.si ≤ b.si = All-contains (λ (other : HopRow). other.si ≤ si → other.si ≤ b.si) rows a hb.greatest ha.there ha.not_above in
    let down : b.si ≤ a.si = All-contains (λ (other : HopRow). other.si ≤ si → other.si ≤ a.si) rows b ha.greatest hb.there hb.not_above in
    same_row 256 rows ha.there.0 hb.there.0 a b f ha.there.1 hb.there.1 ha.there.2 hb.there.2 (omega (arith, up, down))

one_serving : (table : List ServicePath) (spi si : ℕ) (a b : HopRow) → IsTable table → IsServing table spi si a → IsServing table spi si b → a ≡ b
one_serving table spi si a b r ha hb =
    let same = one_path table spi ha.0 hb.0 r ha.1 hb.1 in
    let there = ha.1.there in
    one_row ha.0.rows si a b (kept_at 0 table there.0 ha.0 r there.1 there.2) ha.2 (subst (λ (s : ServicePath). Serves s.rows si b) (sym same) hb.2)

no_path : (table : List ServicePath) (spi : ℕ) (p : ServicePath) → HasNoPath table spi → HasPath table spi p → ⊥
no_path table spi p none h = All-contains (λ (path : ServicePath). path.spi ≡ spi → ⊥) table p none h.there h.named

none_serving : (table : List ServicePath) (spi si : ℕ) (p : ServicePath) (a : HopRow) → IsTable table → HasPath table spi p → NoneServes p.rows si → IsServing table spi si a → ⊥
none_serving table spi si p a r hp none ha =
    let same = one_path table spi ha.0 p r ha.1 hp in
    let serves : Serves p.rows si a = subst (λ (s : ServicePath). Serves s.rows si a) same ha.2 in
    let over : si < a.si = All-contains (λ (row : HopRow). si < row.si) p.rows a none serves.there in
    absurd (omega (arith, over, serves.not_above))

none_or_some : {A : Type 0} (o : Option A) (x : A) → o ≡ None → o ≡ Some x → ⊥
none_or_some o x none some = absurd (cc)

same_at : (at bt : ℕ) (p q : ForwarderId × InstanceId) → at ≡ bt → Some p ≡ Some q → At at p.0 p.1 ≡ At bt q.0 q.1
same_at at bt p q same both =
    let pair : p ≡ q = cc in
    ap (λ n. At n p.0 p.1) same ∙ ap (λ (o : ForwarderId × InstanceId). At bt o.0 o.1) pair

pub one_answer : (table : List ServicePath) (spi si : ℕ) (one other : Answer) → IsTable table → IsAnswer table spi si one → IsAnswer table spi si other → one ≡ other
one_answer table spi si NoPath NoPath r a b = refl
one_answer table spi si NoPath Ended r a b = absurd (no_path table spi b.0 a b.1)
one_answer table spi si NoPath (NoInstance at) r a b = absurd (no_path table spi b.1.0 a b.1.1)
one_answer table spi si NoPath (At at f i) r a b = absurd (no_path table spi b.1.0 a b.1.1)
one_answer table spi si Ended NoPath r a b = absurd (no_path table spi a.0 b a.1)
one_answer table spi si Ended Ended r a b = refl
one_answer table spi si Ended (NoInstance at) r a b = absurd (none_serving table spi si a.0 b.0 r a.1 a.2 b.1)
one_answer table spi si Ended (At at f i) r a b = absurd (none_serving table spi si a.0 b.0 r a.1 a.2 b.1)
one_answer table spi si (NoInstance at) NoPath r a b = absurd (no_path table spi a.1.0 b a.1.1)
one_answer table spi si (NoInstance at) Ended r a b = absurd (none_serving table spi si b.0 a.0 r b.1 b.2 a.1)
one_answer table spi si (NoInstance at) (NoInstance bt) r a b =
    let e = one_serving table spi si a.0 b.0 r a.1 b.1 in
    ap (λ n. NoInstance n) (sym a.2 ∙ ap (λ (row : HopRow). row.si) e ∙ b.2)
one_answer table spi si (NoInstance at) (At bt f i) r a b =
    let e = one_serving table spi si a.0 b.0 r a.1 b.1 in
    absurd (none_or_some a.0.choice _ a.3 (ap (λ (row : HopRow). row.choice) e ∙ b.3))
one_answer table spi si (At at f i) NoPath r a b = absurd (no_path table spi a.1.0 b a.1.1)
one_answer table spi si (At at f i) Ended r a b = absurd (none_serving table spi si b.0 a.0 r b.1 b.2 a.1)
one_answer table spi si (At at f i) (NoInstance bt) r a b =
    let e = one_serving table spi si a.0 b.0 r a.1 b.1 in
    absurd (none_or_some b.0.choice _ b.3 (ap (λ (row : HopRow). row.choice) (sym e) ∙ a.3))
one_answer table spi si (At at f i) (At bt g j) r a b =
    let e = one_serving table spi si a.0 b.0 r a.1 b.1 in
    let same : at ≡ bt = sym a.2 ∙ ap (λ (row : HopRow). row.si) e ∙ b.2 in
    same_at at bt (f, i) (g, j) same (sym a.3 ∙ ap (λ (row : HopRow). row.choice) e ∙ b.3)
