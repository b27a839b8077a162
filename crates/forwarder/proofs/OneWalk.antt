-- Over given tables there is one walk.
use Rattle.std.proofs.Common.{◌≡◌, ℕ, List, [], ◌∷◌, All, refl, sym, ap, subst, ◌∙◌, arith, inl, inr}
use Rattle.std.proofs.lemmas.List.Elements.{All-tail}
use Rattle.wire_base.specs.declared.ids.InstanceId.{InstanceId}
use Rattle.net_frames.specs.Captured.{Captured}
use Rattle.service_functions.specs.declared.functions.Function.{Function}
use Rattle.service_functions.specs.declared.answers.Served.TheVariants.{Dropped}
use Rattle.service_functions.specs.declared.answers.Why.{Why}
use Rattle.service_functions.proofs.LawLemmas.{one_service}
use Rattle.path_selection.specs.Paths.{IsTable, ServicePath}
use Rattle.path_selection.specs.declared.answers.Answer.{Answer}
use Rattle.path_selection.specs.declared.answers.Answer.TheVariants.{NoPath, NoInstance, Ended, At}
use Rattle.path_selection.proofs.OneAnswer.{one_answer}
use Rattle.record_text.specs.declared.records.End.{End}
use Rattle.record_text.specs.declared.records.End.TheVariants.{Drop}
use Rattle.classifier.specs.Stations.{Station, first_header, first_station}
use Rattle.classifier.specs.declared.verdicts.Verdict.{Verdict}
use Rattle.classifier.specs.declared.verdicts.Verdict.TheVariants as verdict
use Rattle.classifier.specs.declared.rules.Rule.{Rule}
use Rattle.classifier.specs.Verdicts.{Start}
use Rattle.sfc_config.specs.Parts.{Parts}
use Rattle.forwarder.specs.Walks.{DropsAt, Ends, Follows, GoesOn, IsWalk, Outcome, Turn, Walk, WalkFrom, WalksBy, WalksFrom, function_by, functions_of, reason_of}

one_reason : (functions : List Function) (s : Station) (i : InstanceId) (v w : Why) → DropsAt functions s i v → DropsAt functions s i w → v ≡ w
one_reason functions s i v w p q =
    let e = one_service (function_by functions i) s.frame s.frame s.frame s.header s.header s.header (Dropped v) (Dropped w) (p, refl, refl) (q, refl, refl) in
    let same : Dropped v ≡ Dropped w = e.0 in cc

one_outcome : (functions : List Function) (s : Station) (answer : Answer) (a b : Outcome) → Follows functions s answer a → Follows functions s answer b → a ≡ b
one_outcome functions s NoPath a b p q = p ∙ sym q
one_outcome functions s (NoInstance at) a b p q = p ∙ sym q
one_outcome functions s Ended a b p q = p ∙ sym q
one_outcome functions s (At at other i) (GoesOn x) (GoesOn y) (inl p) (inl q) = ap GoesOn (p.1 ∙ sym q.1)
one_outcome functions s (At at other i) (GoesOn x) (GoesOn y) (inl p) (inr q) = absurd (p.0 q.0)
one_outcome functions s (At at other i) (GoesOn x) (GoesOn y) (inr p) (inl q) = absurd (q.0 p.0)
one_outcome functions s (At at other i) (GoesOn x) (GoesOn y) (inr p) (inr q) = ap GoesOn (p.2 ∙ sym q.2)
one_outcome functions s (At at other i) (GoesOn x) (Ends e v) (inl p) q = absurd (p.0 q.0)
one_outcome functions s (At at other i) (GoesOn x) (Ends e v) (inr p) q = absurd (p.1 q.1 q.2)
one_outcome functions s (At at other i) (Ends e v) (GoesOn y) p (inl q) = absurd (q.0 p.0)
one_outcome functions s (At at other i) (Ends e v) (GoesOn y) p (inr q) = absurd (q.1 p.1 p.2)
one_outcome functions s (At at other i) (Ends e v) (Ends e' v') p q =
    let same = one_reason functions s i p.1 q.1 p.2 q.2 in
    let end : e ≡ e' = p.3 ∙ ap (λ (w : Why). Drop (reason_of w i)) same ∙ sym q.3 in
    let visits : v ≡ v' = p.4 ∙ sym q.4 in
    λ k. Ends (end k) (visits k)

one_turn : (functions : List Function) (table : List ServicePath) (s : Station) (a b : Outcome) → IsTable table → Turn functions table s a → Turn functions table s b → a ≡ b
one_turn functions table s a b r p q =
    let e = one_answer table s.header.head.path.spi s.header.head.path.si p.answer q.answer r p.answered q.answered in
    one_outcome functions s p.answer a b p.follows (subst (λ (x : Answer). Follows functions s x b) (sym e) q.follows)

head_table : (table : List ServicePath) (tables : List (List ServicePath)) → All IsTable (table ∷ tables) → IsTable table
head_table table tables all = all 0 table (omega arith)

pub one_walk_from : (functions : List Function) (s : Station) (later others : List Station) (tables : List (List ServicePath)) (end other : End) (visits seen : List InstanceId)
    → All IsTable tables → WalkFrom functions s later tables end visits → WalkFrom functions s others tables other seen
    → (later ≡ others) × (end ≡ other) × (visits ≡ seen)
one_walk_from functions s [] [] [] end other visits seen all p q = (refl, p.1 ∙ sym q.1, p.2 ∙ sym q.2)
one_walk_from functions s [] [] (t ∷ []) end other visits seen all p q =
    let e : Ends end visits ≡ Ends other seen = one_turn functions t s (Ends end visits) (Ends other seen) (head_table t [] all) p q in
    let ends : end ≡ other = cc in
    let visited : visits ≡ seen = cc in (refl, ends, visited)
one_walk_from functions s [] others (t ∷ u ∷ ts) end other visits seen all p q = absurd p
one_walk_from functions s (n ∷ later) [] (t ∷ u ∷ ts) end other visits seen all p q = absurd q
one_walk_from functions s [] (m ∷ others) [] end other visits seen all p q = absurd q
one_walk_from functions s (n ∷ later) others [] end other visits seen all p q = absurd p
one_walk_from functions s [] (m ∷ others) (t ∷ []) end other visits seen all p q =
    let e : Ends end visits ≡ GoesOn m = one_turn functions t s (Ends end visits) (GoesOn m) (head_table t [] all) p q.0 in absurd (cc)
one_walk_from functions s (n ∷ later) [] (t ∷ []) end other visits seen all p q =
    let e : GoesOn n ≡ Ends other seen = one_turn functions t s (GoesOn n) (Ends other seen) (head_table t [] all) p.0 q in absurd (cc)
one_walk_from functions s (n ∷ later) (m ∷ others) (t ∷ ts) end other visits seen all p q =
    let e : GoesOn n ≡ GoesOn m = one_turn functions t s (GoesOn n) (GoesOn m) (head_table t ts all) p.0 q.0 in
    let same : n ≡ m = cc in
    let r = one_walk_from functions n later others ts end other visits seen (All-tail IsTable t ts all) p.1 (subst (λ (x : Station). WalkFrom functions x others ts other seen) (sym same) q.1) in
    let stations : n ∷ later ≡ m ∷ others = (λ k. same k ∷ r.0 k) in (stations, r.1, r.2)

same_walk : (x y : Walk) → x.stations ≡ y.stations → x.tables ≡ y.tables → x.path ≡ y.path → x.visits ≡ y.visits → x.end ≡ y.end → x ≡ y
same_walk x y a b c d e = λ k. record { stations = a k; tables = b k; path = c k; visits = d k; end = e k }

one_from : (functions : List Function) (first : Station) (x y : Walk) → All IsTable x.tables → WalksFrom functions first x → WalksFrom functions first y → x.tables ≡ y.tables → x ≡ y
one_from functions first x y all p q same =
    let r = one_walk_from functions first p.0 q.0 x.tables x.end y.end x.visits y.visits all p.3 (subst (λ (ts : List (List ServicePath)). WalkFrom functions first q.0 ts y.end y.visits) (sym same) q.3) in
    same_walk x y (p.1 ∙ ap (λ (l : List Station). first ∷ l) r.0 ∙ sym q.1) same (p.2 ∙ sym q.2) r.2 r.1

one_by : (setup : Parts) (frame : Captured) (v : Verdict) (x y : Walk) → All IsTable x.tables → WalksBy setup frame v x → WalksBy setup frame v y → x.tables ≡ y.tables → x ≡ y
one_by setup frame (verdict.Path spi si ttl context) x y all p q same =
    one_from (functions_of setup.instances) (first_station setup.ingress frame (first_header spi si ttl context)) x y all p q same
one_by setup frame verdict.Bypass x y all p q same = p ∙ sym q
one_by setup frame verdict.Refuse x y all p q same = p ∙ sym q
one_by setup frame verdict.NshIngress x y all p q same = p ∙ sym q

-- a frame has one verdict
abbrev pub OneVerdict : Type 0
OneVerdict = (rules : List Rule) (bytes : List ℕ) (v w : Verdict) → Start rules bytes v → Start rules bytes w → v ≡ w

pub one_walk : OneVerdict → (setup : Parts) (frame : Captured) (x y : Walk) → All IsTable x.tables → IsWalk setup frame x → IsWalk setup frame y → x.tables ≡ y.tables → x ≡ y
one_walk one_start setup frame x y all p q same =
    let e = one_start setup.rules frame.bytes p.verdict q.verdict p.begins q.begins in
    one_by setup frame p.verdict x y all p.walks (subst (λ (v : Verdict). WalksBy setup frame v y) (sym e) q.walks) same
