-- How long a walk may be, and where its service index goes.
use Rattle.std.proofs.Common.{◌≡◌, ◌≢◌, ℕ, zero, suc, ◌+◌, ◌-◌, ◌<◌, ◌≤◌, List, [], ◌∷◌, ◌++◌, All, length, sym, ap, subst, arith, inl, inr}
use Rattle.std.specs.List.{Contains}
use Rattle.std.proofs.lemmas.List.Elements.{All-tail}
use Rattle.wire_base.specs.declared.ids.InstanceId.{InstanceId}
use Rattle.net_frames.specs.Captured.{Captured}
use Rattle.nsh_headers.specs.Edit.{lowered}
use Rattle.service_functions.specs.declared.functions.Function.{Function}
use Rattle.path_selection.specs.Answers.{IsAnswer, IsServing}
use Rattle.path_selection.specs.Paths.{ArePathRows, FallsBelow, IsTable, RisesFrom, ServicePath}
use Rattle.path_selection.specs.declared.hops.HopRow.{HopRow}
use Rattle.path_selection.specs.declared.answers.Answer.{Answer}
use Rattle.path_selection.specs.declared.answers.Answer.TheVariants.{NoPath, NoInstance, Ended, At}
use Rattle.record_text.specs.declared.records.End.{End}
use Rattle.record_text.specs.declared.records.End.TheVariants.{Bypass, Drop}
use Rattle.record_text.specs.declared.records.Reason.TheVariants as reason
use Rattle.classifier.specs.declared.rules.Action.{Action}
use Rattle.classifier.specs.declared.rules.Action.TheVariants as does
use Rattle.classifier.specs.declared.rules.Rule.{Rule}
use Rattle.classifier.specs.declared.verdicts.Verdict.{Verdict}
use Rattle.classifier.specs.declared.verdicts.Verdict.TheVariants as verdict
use Rattle.classifier.specs.Rules.{AreRules, IsAction, IsRule}
use Rattle.classifier.specs.Stations.{Station, first_header, first_station}
use Rattle.classifier.specs.Verdicts.{IsVerdict, Start, verdict_of}
use Rattle.sfc_config.specs.Parts.{Parts}
use Rattle.forwarder.specs.Walks.{Follows, GoesOn, IsWalk, Turn, Walk, WalkFrom, WalksBy, functions_of, no_walk}
use Rattle.forwarder.specs.Ways.{IndexFalls, IndexesFall}
use Rattle.forwarder.proofs.WalkSteps.{lowered_above, nears}

-- ---- the TTL

pub record IsShort (s : Station) (later : List Station) (tables : List (List ServicePath)) : Type 0 where
  pub lookups : length tables + 1 ≤ s.header.head.base.ttl
  pub turns : length later ≤ length tables

pub short : (functions : List Function) (s : Station) (later : List Station) (tables : List (List ServicePath)) (end : End) (visits : List InstanceId)
    → 1 ≤ s.header.head.base.ttl → WalkFrom functions s later tables end visits → IsShort s later tables
short functions s [] [] end visits some walk = record { lookups = omega (arith, some); turns = omega arith }
short functions s [] (t ∷ []) end visits some walk =
    let low = lowered_above s.header.head.base.ttl some in
    let alive : lowered s.header.head.base.ttl ≢ 0 = walk.alive in
    record { lookups = omega (arith, some, low, alive); turns = omega arith }
short functions s [] (t ∷ u ∷ ts) end visits some walk = absurd walk
short functions s (next ∷ later) [] end visits some walk = absurd walk
short functions s (next ∷ later) (t ∷ ts) end visits some walk =
    let low = lowered_above s.header.head.base.ttl some in
    let alive : lowered s.header.head.base.ttl ≢ 0 = walk.0.alive in
    let near = nears functions s next walk.0.answer walk.0.follows in
    let rest = short functions next later ts end visits (omega (arith, near.ttl, low, alive)) walk.1 in
    record { lookups = omega (arith, rest.lookups, near.ttl, low, some, alive); turns = omega (arith, rest.turns) }

-- ---- the verdict

middle_rule : (earlier later : List Rule) (rule : Rule) → All IsRule (earlier ++ rule ∷ later) → IsRule rule
middle_rule [] later rule all = all 0 rule (omega arith)
middle_rule (x ∷ earlier) later rule all = middle_rule earlier later rule (All-tail IsRule x (earlier ++ rule ∷ later) all)

of_action : (action : Action) → IsAction action → IsVerdict (verdict_of action)
of_action (does.Path spi si ttl context) is = is
of_action does.Bypass is = tt
of_action does.Refuse is = tt

pub ranged : (rules : List Rule) (bytes : List ℕ) (v : Verdict) → AreRules rules → Start rules bytes v → IsVerdict v
ranged rules bytes v are (inl nsh) = subst IsVerdict (sym nsh.1) tt
ranged rules bytes v are (inr (no_nsh, inl decided)) =
    let rule = middle_rule decided.decides.earlier decided.decides.later decided.rule (subst (λ (l : List Rule). All IsRule l) decided.decides.listed are.each) in
    subst IsVerdict (sym decided.value) (of_action decided.rule.action rule.action)
ranged rules bytes v are (inr (no_nsh, inr undecided)) = subst IsVerdict (sym undecided.value) tt

-- ---- a whole walk

pub record IsBounded (walk : Walk) : Type 0 where
  pub turns : length walk.stations ≤ 63
  pub lookups : length walk.tables ≤ 62

unwalked_bounded : (end : End) (walk : Walk) → walk ≡ no_walk end → IsBounded walk
unwalked_bounded end walk is =
    let turns : length walk.stations ≡ 0 = ap (λ (w : Walk). length w.stations) is in
    let lookups : length walk.tables ≡ 0 = ap (λ (w : Walk). length w.tables) is in
    record { turns = omega (arith, turns); lookups = omega (arith, lookups) }

bounded_by : (setup : Parts) (frame : Captured) (v : Verdict) (walk : Walk) → IsVerdict v → WalksBy setup frame v walk → IsBounded walk
bounded_by setup frame (verdict.Path spi si ttl context) walk fits p =
    let first = first_station setup.ingress frame (first_header spi si ttl context) in
    let some : 1 ≤ ttl = fits.2.0 in
    let few : ttl ≤ 63 = fits.2.1 in
    let r = short (functions_of setup.instances) first p.0 walk.tables walk.end walk.visits some p.3 in
    let lookups = r.lookups in
    let turns = r.turns in
    let stations : length walk.stations ≡ suc (length p.0) = ap length p.1 in
    record { turns = omega (arith, stations, lookups, turns, few); lookups = omega (arith, lookups, few) }
bounded_by setup frame verdict.Bypass walk fits p = unwalked_bounded Bypass walk p
bounded_by setup frame verdict.Refuse walk fits p = unwalked_bounded (Drop reason.Rule) walk p
bounded_by setup frame verdict.NshIngress walk fits p = unwalked_bounded (Drop reason.NshIngress) walk p

pub bounded : (setup : Parts) (frame : Captured) (walk : Walk) → AreRules setup.rules → IsWalk setup frame walk → IsBounded walk
bounded setup frame walk are p = bounded_by setup frame p.verdict walk (ranged setup.rules frame.bytes p.verdict are p.begins) p.walks

-- ---- the service index

row_above : (top : ℕ) (rows : List HopRow) (row : HopRow) → FallsBelow top rows → Contains rows row → 0 < row.si
row_above top [] row falls (k, below, is) = absurd (omega (arith, below))
row_above top (x ∷ rows) row falls (zero, below, is) = subst (λ (r : HopRow). 0 < r.si) is falls.1
row_above top (x ∷ rows) row falls (suc k, below, is) = row_above x.si rows row falls.2 (k, omega (arith, below), is)

rows_of_table : (least : ℕ) (table : List ServicePath) (path : ServicePath) → RisesFrom least table → Contains table path → ArePathRows path.rows
rows_of_table least [] path rises (k, below, is) = absurd (omega (arith, below))
rows_of_table least (x ∷ table) path rises (zero, below, is) = subst (λ (p : ServicePath). ArePathRows p.rows) is rises.1
rows_of_table least (x ∷ table) path rises (suc k, below, is) = rows_of_table (x.spi + 1) table path rises.2 (k, omega (arith, below), is)

pub table_rows : (table : List ServicePath) (path : ServicePath) → IsTable table → Contains table path → ArePathRows path.rows
table_rows table path is there = rows_of_table 0 table path is there

serving_above : (table : List ServicePath) (spi si : ℕ) (row : HopRow) → IsTable table → IsServing table spi si row → 0 < row.si
serving_above table spi si row is (path, has, serves) = row_above 256 path.rows row (table_rows table path is has.there) serves.there

falls_by_answer : (functions : List Function) (table : List ServicePath) (s next : Station) (answer : Answer) → IsTable table → IsAnswer table s.header.head.path.spi s.header.head.path.si answer → Follows functions s answer (GoesOn next)
    → IndexFalls s next
falls_by_answer functions table s next NoPath is answered follows = absurd (cc)
falls_by_answer functions table s next (NoInstance at) is answered follows = absurd (cc)
falls_by_answer functions table s next Ended is answered follows = absurd (cc)
falls_by_answer functions table s next (At at other i) is (row, serving, at-is, choice) (inl handed) =
    let not_above : row.si ≤ s.header.head.path.si = serving.2.not_above in
    let si : next.header.head.path.si ≡ at = ap (λ (n : Station). n.header.head.path.si) handed.1 in
    let visits : next.visits ≡ s.visits = ap (λ (n : Station). n.visits) handed.1 in
    (omega (arith, not_above, at-is, si), λ more. absurd (more visits))
falls_by_answer functions table s next (At at other i) is (row, serving, at-is, choice) (inr passed) =
    let not_above : row.si ≤ s.header.head.path.si = serving.2.not_above in
    let above : 0 < row.si = serving_above table s.header.head.path.spi s.header.head.path.si row is serving in
    let si : next.header.head.path.si ≡ at - 1 = ap (λ (n : Station). n.header.head.path.si) passed.2 in
    (omega (arith, not_above, at-is, si), λ more. omega (arith, not_above, above, at-is, si))

falls_at : (functions : List Function) (table : List ServicePath) (s next : Station) → IsTable table → (turn : Turn functions table s (GoesOn next)) → IndexFalls s next
falls_at functions table s next is turn = falls_by_answer functions table s next turn.answer is turn.answered turn.follows

pub falls_along : (functions : List Function) (s : Station) (later : List Station) (tables : List (List ServicePath)) (end : End) (visits : List InstanceId)
    → All IsTable tables → WalkFrom functions s later tables end visits → IndexesFall (s ∷ later)
falls_along functions s [] tables end visits all walk = tt
falls_along functions s (next ∷ later) [] end visits all walk = absurd walk
falls_along functions s (next ∷ later) (t ∷ ts) end visits all walk =
    (falls_at functions t s next (all 0 t (omega arith)) walk.0, falls_along functions next later ts end visits (All-tail IsTable t ts all) walk.1)

falls_by : (setup : Parts) (frame : Captured) (v : Verdict) (walk : Walk) → All IsTable walk.tables → WalksBy setup frame v walk → IndexesFall walk.stations
falls_by setup frame (verdict.Path spi si ttl context) walk all p =
    subst IndexesFall (sym p.1) (falls_along (functions_of setup.instances) (first_station setup.ingress frame (first_header spi si ttl context)) p.0 walk.tables walk.end walk.visits all p.3)
falls_by setup frame verdict.Bypass walk all p = subst IndexesFall (sym (ap (λ (w : Walk). w.stations) p)) tt
falls_by setup frame verdict.Refuse walk all p = subst IndexesFall (sym (ap (λ (w : Walk). w.stations) p)) tt
falls_by setup frame verdict.NshIngress walk all p = subst IndexesFall (sym (ap (λ (w : Walk). w.stations) p)) tt

pub falls : (setup : Parts) (frame : Captured) (walk : Walk) → All IsTable walk.tables → IsWalk setup frame walk → IndexesFall walk.stations
falls setup frame walk all p = falls_by setup frame p.verdict walk all p.walks
