-- A frame whose path stays the same under way goes along it.
use Rattle.std.proofs.Common.{◌≡◌, ℕ, ◌-◌, ◌≤◌, ◌==◌, Bool, true, false, List, [], ◌∷◌, All, length, get_or, map, Some, Option, refl, sym, ap, subst, ◌∙◌, arith, append-nil, cond}
use Rattle.std.specs.List.{Contains}
use Rattle.std.proofs.lemmas.List.Elements.{All-cons, All-tail}
use Rattle.wire_base.specs.declared.ids.InstanceId.{InstanceId}
use Rattle.net_frames.specs.Captured.{Captured}
use Rattle.nsh_metadata.specs.declared.contexts.Context.{Context}
use Rattle.service_functions.specs.declared.functions.Function.{Function}
use Rattle.path_selection.specs.Answers.{HasPath}
use Rattle.path_selection.specs.Paths.{IsTable, ServicePath}
use Rattle.path_selection.specs.Published.{Published, table_at}
use Rattle.record_text.specs.declared.records.End.{End}
use Rattle.record_text.specs.declared.records.Record.{Record}
use Rattle.classifier.specs.Stations.{Station, first_header, first_station}
use Rattle.classifier.specs.Verdicts.{Start}
use Rattle.classifier.specs.declared.verdicts.Verdict.{Verdict}
use Rattle.classifier.specs.declared.verdicts.Verdict.TheVariants.{Path}
use Rattle.sfc_config.specs.Parts.{Parts}
use Rattle.forwarder.specs.Walks.{WalkFrom, WalksBy, functions_of}
use Rattle.forwarder.specs.Records.{Climbs, IsRecord}
use Rattle.forwarder.specs.Ways.{GoesStraight, StopsAt, Unchanged, straight}
use Rattle.forwarder.proofs.OneWalk.{OneVerdict}
use Rattle.forwarder.proofs.StraightLemmas.{Continues, ends_straight, goes_straight, stops_ttl}
use Rattle.forwarder.proofs.WalkSteps.{nears}

straight_from : (functions : List Function) (path : ServicePath) (s : Station) (later : List Station) (tables : List (List ServicePath)) (end : End) (visits : List InstanceId)
    → All IsTable tables → All (λ (t : List ServicePath). HasPath t s.header.head.path.spi path) tables → WalkFrom functions s later tables end visits
    → Continues (straight path.rows s.header.head.path.si) s.visits visits end
straight_from functions path s [] [] end visits all has walk = record {
  seen = [];
  visited = walk.2 ∙ sym (append-nil s.visits);
  goes = subst (λ (e : End). StopsAt (straight path.rows s.header.head.path.si) e) (sym walk.1) (stops_ttl (straight path.rows s.header.head.path.si));
}
straight_from functions path s [] (t ∷ []) end visits all has walk =
    ends_straight functions path t s end visits (all 0 t (omega arith)) (has 0 t (omega arith)) walk.answer walk.answered walk.follows
straight_from functions path s [] (t ∷ u ∷ ts) end visits all has walk = absurd walk
straight_from functions path s (next ∷ later) [] end visits all has walk = absurd walk
straight_from functions path s (next ∷ later) (t ∷ ts) end visits all has walk =
    let near = nears functions s next walk.0.answer walk.0.follows in
    let behind = All-tail (λ (x : List ServicePath). HasPath x s.header.head.path.spi path) t ts has in
    let has_next = subst (λ (spi : ℕ). All (λ (x : List ServicePath). HasPath x spi path) ts) (sym near.spi) behind in
    let rest = straight_from functions path next later ts end visits (All-tail IsTable t ts all) has_next walk.1 in
    goes_straight functions path t s next end visits (all 0 t (omega arith)) (has 0 t (omega arith)) walk.0.answer walk.0.answered walk.0.follows rest

-- ---- the tables of the versions

climbs_up : (low : ℕ) (versions : List ℕ) (after : ℕ) → Climbs low versions after → low ≤ after
climbs_up low [] after c = omega (arith, c)
climbs_up low (v ∷ vs) after c = let up = climbs_up v vs after c.1 in omega (arith, c.0, up)

last_of : (v : ℕ) (versions : List ℕ) (after : ℕ) → Climbs v versions after → get_or (v ∷ versions) (length versions) 0 ≡ after
last_of v [] after c = sym c
last_of v (w ∷ ws) after c = last_of w ws after c.1

-- what holds of each table known under a version from the first on to the last holds of those that were named
tables_hold : (P : List ServicePath → Type 0) (known : List Published) (least most low : ℕ) (versions : List ℕ) (tables : List (List ServicePath)) (after : ℕ)
    → ((v : ℕ) (t : List ServicePath) → least ≤ v → v ≤ most → table_at known v ≡ Some t → P t)
    → least ≤ low → after ≤ most → Climbs low versions after → map (table_at known) versions ≡ map Some tables → All P tables
tables_hold P known least most low [] [] after holds from to c named = λ k d below. absurd (omega (arith, below))
tables_hold P known least most low [] (t ∷ ts) after holds from to c named = absurd (cc)
tables_hold P known least most low (v ∷ vs) [] after holds from to c named = absurd (cc)
tables_hold P known least most low (v ∷ vs) (t ∷ ts) after holds from to c named =
    let here : table_at known v ≡ Some t = cc in
    let rest : map (table_at known) vs ≡ map Some ts = cc in
    let up = climbs_up v vs after c.1 in
    All-cons P t ts (holds v t (omega (arith, from, c.0)) (omega (arith, up, to)) here)
    (tables_hold P known least most v vs ts after holds (omega (arith, from, c.0)) to c.1 rest)

either_table : (b : Bool) (P : List ServicePath → Type 0) (here t : List ServicePath) (other : Option (List ServicePath)) → P here → (other ≡ Some t → P t) → cond b (Some here) other ≡ Some t → P t
either_table true P here t other p q e = let same : here ≡ t = cc in subst P same p
either_table false P here t other p q e = q e

known_table : (known : List Published) (v : ℕ) (t : List ServicePath) → All (λ (p : Published). IsTable p.table) known → table_at known v ≡ Some t → IsTable t
known_table [] v t all e = absurd (cc)
known_table (p ∷ ps) v t all e =
    either_table (p.version == v) IsTable p.table t (table_at ps v) (all 0 p (omega arith)) (known_table ps v t (All-tail (λ (x : Published). IsTable x.table) p ps all)) e

-- ---- a record

-- the versions of an unchanged record and their tables
unchanged_tables : (known : List Published) (before after : ℕ) (r : Record) (path : ServicePath) (versions : List ℕ) (tables : List (List ServicePath)) → Unchanged known r path → r.versions.items ≡ versions
    → Climbs before versions after → map (table_at known) versions ≡ map Some tables → All (λ (t : List ServicePath). Contains t path) tables
unchanged_tables known before after r path [] tables same is c named = absurd (same.named is)
unchanged_tables known before after r path (v ∷ vs) tables same is c named =
    let first : get_or r.versions.items 0 0 ≡ v = ap (λ (l : List ℕ). get_or l 0 0) is in
    let place : length (v ∷ vs) - 1 ≡ length vs = omega arith in
    let last : get_or r.versions.items (length r.versions.items - 1) 0 ≡ after =
    ap (λ (l : List ℕ). get_or l (length l - 1) 0) is ∙ ap (λ (n : ℕ). get_or (v ∷ vs) n 0) place ∙ last_of v vs after c.1 in
    tables_hold (λ (t : List ServicePath). Contains t path) known v after v (v ∷ vs) tables after
    (λ n t from to at. same.stays n t (omega (arith, first, from)) (omega (arith, last, to)) at)
    (omega arith) (omega arith) (omega arith, c.1) named

pub goes_along : OneVerdict → (setup : Parts) (frame : Captured) (worker : ℕ) (known : List Published) (before after : ℕ) (r : Record) (path : ServicePath) (spi si ttl : ℕ) (context : Context)
    → All (λ (p : Published). IsTable p.table) known → IsRecord setup frame worker known before after r → Unchanged known r path → Start setup.rules frame.bytes (Path spi si ttl context)
    → GoesStraight (straight path.rows si) r.visits.items r.end
goes_along one_start setup frame worker known before after r path spi si ttl context tables_are record_is same start =
    let verdict_is = one_start setup.rules frame.bytes record_is.walks.verdict (Path spi si ttl context) record_is.walks.begins start in
    let walks = subst (λ (v : Verdict). WalksBy setup frame v record_is.walk) verdict_is record_is.walks.walks in
    let first = first_station setup.ingress frame (first_header spi si ttl context) in
    let named : Some path.spi ≡ Some spi = sym same.of ∙ record_is.tells.path ∙ walks.2 in
    let spi_is : path.spi ≡ spi = cc in
    let there = unchanged_tables known before after r path r.versions.items record_is.walk.tables same refl record_is.looks.climbs record_is.looks.named in
    let has : All (λ (t : List ServicePath). HasPath t spi path) record_is.walk.tables = λ k d below. record { there = there k d below; named = spi_is } in
    let all = tables_hold IsTable known before after before r.versions.items record_is.walk.tables after (λ n t from to at. known_table known n t tables_are at)
    (omega arith) (omega arith) record_is.looks.climbs record_is.looks.named in
    let way = straight_from (functions_of setup.instances) path first walks.0 record_is.walk.tables record_is.walk.end record_is.walk.visits all has walks.3 in
    let visits : r.visits.items ≡ way.seen = record_is.tells.visits ∙ way.visited in
    subst (λ (l : List InstanceId). GoesStraight (straight path.rows si) l r.end) (sym visits)
    (subst (λ (e : End). GoesStraight (straight path.rows si) way.seen e) (sym record_is.tells.end) way.goes)
