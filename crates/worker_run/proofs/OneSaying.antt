-- A round on one thread says one list of records.
use Rattle.std.proofs.Common.{◌≡◌, ℕ, List, [], ◌∷◌, ◌++◌, length, All, take, refl, sym, ap, subst, ◌∙◌, arith, inl, inr}
use Rattle.std.specs.List.{AllByRecursion, AllZip}
use Rattle.std.proofs.lemmas.List.{take_all}
use Rattle.std.proofs.lemmas.List.Elements.{All-tail, All-from_recursion}
use Rattle.std.proofs.lemmas.Slice.Zip.{AllZip-long}
use Rattle.bgp_session.specs.declared.local_sides.Local.{Local}
use Rattle.wire_base.specs.declared.ids.InstanceId.{InstanceId}
use Rattle.net_frames.specs.Captured.{Captured as Framed}
use Rattle.pcap_io.specs.declared.frames.Captured.{Captured}
use Rattle.control_files.specs.declared.segments.Segment.{Segment}
use Rattle.session_machine.specs.Groups.{Entry}
use Rattle.sfc_routes.specs.Entries.{Entries, IsRoster}
use Rattle.sfc_routes.specs.declared.route_changes.RouteChange.{RouteChange}
use Rattle.sfc_config.specs.Parts.{Parts}
use Rattle.service_functions.specs.declared.functions.Function.{Function}
use Rattle.path_selection.specs.Paths.{IsTable, ServicePath}
use Rattle.path_selection.specs.declared.answers.Answer.{Answer}
use Rattle.path_selection.specs.declared.answers.Answer.TheVariants.{NoPath, NoInstance, Ended, At}
use Rattle.path_selection.proofs.OneAnswer.{one_answer}
use Rattle.record_text.specs.declared.records.End.{End}
use Rattle.record_text.specs.declared.records.Record.{Record}
use Rattle.classifier.specs.Stations.{Station, first_header, first_station}
use Rattle.classifier.specs.declared.verdicts.Verdict.{Verdict}
use Rattle.classifier.specs.declared.verdicts.Verdict.TheVariants as verdict
use Rattle.forwarder.specs.Walks.{Ends, Follows, GoesOn, IsWalk, Turn, Walk, WalkFrom, WalksBy, functions_of}
use Rattle.forwarder.specs.Workspaces.{taken_in}
use Rattle.forwarder.proofs.OneWalk.{OneVerdict}
use Rattle.control_histories.specs.Logs.{AreOfPeers, Heard, changes_of}
use Rattle.control_histories.specs.Versions.{IsVersion, TableAfter}
use Rattle.control_histories.proofs.TableLemmas.{is_table}
use Rattle.worker_run.specs.Records.{SingleRecord}
use Rattle.worker_run.specs.Rounds.{SaysSingle}

-- ---- turns over one table

never_both : (functions : List Function) (s : Station) (a : Answer) (end : End) (visits : List InstanceId) (next : Station) → Follows functions s a (Ends end visits) → Follows functions s a (GoesOn next) → ⊥
never_both functions s NoPath end visits next p q = absurd (cc)
never_both functions s (NoInstance at) end visits next p q = absurd (cc)
never_both functions s Ended end visits next p q = absurd (cc)
never_both functions s (At at other i) end visits next p (inl q) = absurd (q.0 p.0)
never_both functions s (At at other i) end visits next p (inr q) = absurd (q.1 p.1 p.2)

one_next : (functions : List Function) (s : Station) (a : Answer) (x y : Station) → Follows functions s a (GoesOn x) → Follows functions s a (GoesOn y) → x ≡ y
one_next functions s NoPath x y p q = absurd (cc)
one_next functions s (NoInstance at) x y p q = absurd (cc)
one_next functions s Ended x y p q = absurd (cc)
one_next functions s (At at other i) x y (inl p) (inl q) = p.1 ∙ sym q.1
one_next functions s (At at other i) x y (inl p) (inr q) = absurd (p.0 q.0)
one_next functions s (At at other i) x y (inr p) (inl q) = absurd (q.0 p.0)
one_next functions s (At at other i) x y (inr p) (inr q) = p.2 ∙ sym q.2

-- what is looked up in: tables of which there is one
pub record IsOne (Looked : List ServicePath → Type 0) : Type 0 where
  pub one : (t u : List ServicePath) → Looked t → Looked u → t ≡ u
  pub table : (t : List ServicePath) → Looked t → IsTable t

apart : (Looked : List ServicePath → Type 0) → IsOne Looked → (functions : List Function) (s : Station) (t u : List ServicePath) (end : End) (visits : List InstanceId) (next : Station) → Looked t → Looked u
    → Turn functions t s (Ends end visits) → Turn functions u s (GoesOn next) → ⊥
apart Looked is functions s t u end visits next lt lu x y =
    let again : Turn functions t s (GoesOn next) = subst (λ (v : List ServicePath). Turn functions v s (GoesOn next)) (is.one u t lu lt) y in
    let same = one_answer t s.header.head.path.spi s.header.head.path.si x.answer again.answer (is.table t lt) x.answered again.answered in
    never_both functions s again.answer end visits next (subst (λ (a : Answer). Follows functions s a (Ends end visits)) same x.follows) again.follows

together : (Looked : List ServicePath → Type 0) → IsOne Looked → (functions : List Function) (s : Station) (t u : List ServicePath) (n m : Station) → Looked t → Looked u
    → Turn functions t s (GoesOn n) → Turn functions u s (GoesOn m) → n ≡ m
together Looked is functions s t u n m lt lu x y =
    let again : Turn functions t s (GoesOn m) = subst (λ (v : List ServicePath). Turn functions v s (GoesOn m)) (is.one u t lu lt) y in
    let same = one_answer t s.header.head.path.spi s.header.head.path.si x.answer again.answer (is.table t lt) x.answered again.answered in
    one_next functions s again.answer n m (subst (λ (a : Answer). Follows functions s a (GoesOn n)) same x.follows) again.follows

-- two walks from a station, each over such tables, are over the same ones
same_from : (Looked : List ServicePath → Type 0) → IsOne Looked → (functions : List Function) (s : Station) (later others : List Station) (ts us : List (List ServicePath)) (end other : End) (visits seen : List InstanceId)
    → AllByRecursion Looked ts → AllByRecursion Looked us → WalkFrom functions s later ts end visits → WalkFrom functions s others us other seen → ts ≡ us
same_from Looked is functions s [] [] [] [] end other visits seen lt lu p q = refl
same_from Looked is functions s [] [] [] (u ∷ []) end other visits seen lt lu p q = absurd (q.alive p.0)
same_from Looked is functions s [] [] [] (u ∷ v ∷ us) end other visits seen lt lu p q = absurd q
same_from Looked is functions s [] (m ∷ others) [] [] end other visits seen lt lu p q = absurd q
same_from Looked is functions s [] (m ∷ others) [] (u ∷ us) end other visits seen lt lu p q = absurd (q.0.alive p.0)
same_from Looked is functions s [] [] (t ∷ []) [] end other visits seen lt lu p q = absurd (p.alive q.0)
same_from Looked is functions s [] [] (t ∷ []) (u ∷ []) end other visits seen lt lu p q = ap (λ (v : List ServicePath). v ∷ []) (is.one t u lt.0 lu.0)
same_from Looked is functions s [] [] (t ∷ []) (u ∷ v ∷ us) end other visits seen lt lu p q = absurd q
same_from Looked is functions s [] (m ∷ others) (t ∷ []) [] end other visits seen lt lu p q = absurd q
same_from Looked is functions s [] (m ∷ others) (t ∷ []) (u ∷ us) end other visits seen lt lu p q = absurd (apart Looked is functions s t u end visits m lt.0 lu.0 p q.0)
same_from Looked is functions s [] others (t ∷ w ∷ ts) us end other visits seen lt lu p q = absurd p
same_from Looked is functions s (n ∷ later) others [] us end other visits seen lt lu p q = absurd p
same_from Looked is functions s (n ∷ later) [] (t ∷ ts) [] end other visits seen lt lu p q = absurd (p.0.alive q.0)
same_from Looked is functions s (n ∷ later) [] (t ∷ ts) (u ∷ []) end other visits seen lt lu p q = absurd (apart Looked is functions s u t other seen n lu.0 lt.0 q p.0)
same_from Looked is functions s (n ∷ later) [] (t ∷ ts) (u ∷ v ∷ us) end other visits seen lt lu p q = absurd q
same_from Looked is functions s (n ∷ later) (m ∷ others) (t ∷ ts) [] end other visits seen lt lu p q = absurd q
same_from Looked is functions s (n ∷ later) (m ∷ others) (t ∷ ts) (u ∷ us) end other visits seen lt lu p q =
    let next = together Looked is functions s t u n m lt.0 lu.0 p.0 q.0 in
    let rest = same_from Looked is functions n later others ts us end other visits seen lt.1 lu.1 p.1 (subst (λ (x : Station). WalkFrom functions x others us other seen) (sym next) q.1) in
    ap (λ (v : List ServicePath). v ∷ ts) (is.one t u lt.0 lu.0) ∙ ap (λ (l : List (List ServicePath)). u ∷ l) rest

same_by : (Looked : List ServicePath → Type 0) → IsOne Looked → (setup : Parts) (frame : Framed) (v : Verdict) (x y : Walk) → AllByRecursion Looked x.tables → AllByRecursion Looked y.tables
    → WalksBy setup frame v x → WalksBy setup frame v y → x.tables ≡ y.tables
same_by Looked is setup frame (verdict.Path spi si ttl context) x y lx ly p q =
    same_from Looked is (functions_of setup.instances) (first_station setup.ingress frame (first_header spi si ttl context)) p.0 q.0 x.tables y.tables x.end y.end x.visits y.visits lx ly p.3 q.3
same_by Looked is setup frame verdict.Bypass x y lx ly p q = ap (λ (w : Walk). w.tables) (p ∙ sym q)
same_by Looked is setup frame verdict.Refuse x y lx ly p q = ap (λ (w : Walk). w.tables) (p ∙ sym q)
same_by Looked is setup frame verdict.NshIngress x y lx ly p q = ap (λ (w : Walk). w.tables) (p ∙ sym q)

-- ---- records

abbrev pub OneWalk : Type 0
OneWalk = (setup : Parts) (frame : Framed) (x y : Walk) → All IsTable x.tables → IsWalk setup frame x → IsWalk setup frame y → x.tables ≡ y.tables → x ≡ y

abbrev pub OneTable : Type 0
OneTable = (roster : Entries) (changes : List RouteChange) (table other : List ServicePath) → IsRoster roster → TableAfter roster changes table → TableAfter roster changes other → table ≡ other

abbrev pub OneLog : Type 0
OneLog = (local : Local) (peers : List (ℕ × ℕ)) (segments : List Segment) (log other : List Entry) → AreOfPeers peers segments
    → Heard local peers segments log → Heard local peers segments other → log ≡ other

pub record Laws : Type 0 where
  pub verdict : OneVerdict
  pub walk : OneWalk
  pub table : OneTable
  pub log : OneLog

one_looked : Laws → (roster : Entries) (changes : List RouteChange) → IsRoster roster → IsOne (TableAfter roster changes)
one_looked l roster changes is = record { one = λ t u x y. l.table roster changes t u is x y; table = λ t x. is_table roster changes t x }

-- a record that names the last version alone was made over its table alone
last_tables : (roster : Entries) (changes : List RouteChange) (vs : List ℕ) (ts : List (List ServicePath)) → All (λ (v : ℕ). v ≡ length changes) vs → AllZip (λ v t. IsVersion roster changes v t) vs ts → AllByRecursion (TableAfter roster changes) ts
last_tables roster changes [] [] only all = tt
last_tables roster changes [] (t ∷ ts) only all = absurd all
last_tables roster changes (v ∷ vs) [] only all = absurd all
last_tables roster changes (v ∷ vs) (t ∷ ts) only all =
    let is : v ≡ length changes = only 0 v (omega arith) in
    let whole : take v changes ≡ changes = take_all v changes (omega (arith, is)) in
    (subst (λ (cs : List RouteChange). TableAfter roster cs t) whole all.0.table_is, last_tables roster changes vs ts (All-tail (λ (w : ℕ). w ≡ length changes) v vs only) all.1)

same_versions : (n : ℕ) (vs ws : List ℕ) → All (λ (v : ℕ). v ≡ n) vs → All (λ (v : ℕ). v ≡ n) ws → length vs ≡ length ws → vs ≡ ws
same_versions n [] [] a b e = refl
same_versions n [] (w ∷ ws) a b e = absurd (omega (arith, e))
same_versions n (v ∷ vs) [] a b e = absurd (omega (arith, e))
same_versions n (v ∷ vs) (w ∷ ws) a b e =
    let here : v ≡ w = a 0 v (omega arith) ∙ sym (b 0 w (omega arith)) in
    ap (λ (x : ℕ). x ∷ vs) here ∙ ap (λ (l : List ℕ). w ∷ l) (same_versions n vs ws (All-tail (λ (x : ℕ). x ≡ n) v vs a) (All-tail (λ (x : ℕ). x ≡ n) w ws b) (omega (arith, e)))

all_tables : (Looked : List ServicePath → Type 0) → IsOne Looked → (ts : List (List ServicePath)) → AllByRecursion Looked ts → AllByRecursion IsTable ts
all_tables Looked is [] all = tt
all_tables Looked is (t ∷ ts) all = (is.table t all.0, all_tables Looked is ts all.1)

-- two records of a frame tell one walk
pub one_walk : Laws → (setup : Parts) (changes : List RouteChange) (frame : Captured) (r q : Record) → IsRoster setup.roster → (x : SingleRecord setup changes frame r) (y : SingleRecord setup changes frame q) → x.told.walk ≡ y.told.walk
one_walk l setup changes frame r q is x y =
    let looked = one_looked l setup.roster changes is in
    let f = taken_in frame.bytes frame.original in
    let xw = x.told.walk in
    let yw = y.told.walk in
    let xs = last_tables setup.roster changes r.versions.items xw.tables x.newest x.told.over in
    let ys = last_tables setup.roster changes q.versions.items yw.tables y.newest y.told.over in
    let v = l.verdict setup.rules f.bytes y.told.walks.verdict x.told.walks.verdict y.told.walks.begins x.told.walks.begins in
    let tables : xw.tables ≡ yw.tables = same_by (TableAfter setup.roster changes) looked setup f x.told.walks.verdict xw yw xs ys x.told.walks.walks (subst (λ (w : Verdict). WalksBy setup f w yw) v y.told.walks.walks) in
    let are : All IsTable xw.tables = All-from_recursion IsTable xw.tables (all_tables (TableAfter setup.roster changes) looked xw.tables xs) in
    l.walk setup f xw yw are x.told.walks y.told.walks tables

one_record : Laws → (setup : Parts) (changes : List RouteChange) (frame : Captured) (r q : Record) → IsRoster setup.roster → SingleRecord setup changes frame r → SingleRecord setup changes frame q → r ≡ q
one_record l setup changes frame r q is x y =
    let xw = x.told.walk in
    let yw = y.told.walk in
    let walk : xw ≡ yw = one_walk l setup changes frame r q is x y in
    let tables : xw.tables ≡ yw.tables = ap (λ (w : Walk). w.tables) walk in
    let versions : r.versions.items ≡ q.versions.items = same_versions (length changes) r.versions.items q.versions.items x.newest y.newest
    (sym (AllZip-long (λ v t. IsVersion setup.roster changes v t) r.versions.items xw.tables x.told.over) ∙ ap length tables ∙ AllZip-long (λ v t. IsVersion setup.roster changes v t) q.versions.items yw.tables y.told.over) in
    let worker : r.worker ≡ q.worker = x.worker_is ∙ sym y.worker_is in
    let path : r.path ≡ q.path = x.told.tells.path ∙ ap (λ (w : Walk). w.path) walk ∙ sym y.told.tells.path in
    let visits : r.visits.items ≡ q.visits.items = x.told.tells.visits ∙ ap (λ (w : Walk). w.visits) walk ∙ sym y.told.tells.visits in
    let end : r.end ≡ q.end = x.told.tells.end ∙ ap (λ (w : Walk). w.end) walk ∙ sym y.told.tells.end in
    λ k. record { worker = worker k; path = path k; versions = record { items = versions k }; visits = record { items = visits k }; end = end k }

one_list : Laws → (setup : Parts) (changes : List RouteChange) (frames : List Captured) (here there : List Record) → IsRoster setup.roster
    → AllZip (λ f r. SingleRecord setup changes f r) frames here → AllZip (λ f r. SingleRecord setup changes f r) frames there → here ≡ there
one_list l setup changes [] [] [] is x y = refl
one_list l setup changes [] [] (q ∷ qs) is x y = absurd y
one_list l setup changes [] (r ∷ rs) there is x y = absurd x
one_list l setup changes (f ∷ fs) [] there is x y = absurd x
one_list l setup changes (f ∷ fs) (r ∷ rs) [] is x y = absurd y
one_list l setup changes (f ∷ fs) (r ∷ rs) (q ∷ qs) is x y =
    ap (λ (p : Record). p ∷ rs) (one_record l setup changes f r q is x.0 y.0) ∙ ap (λ (ps : List Record). q ∷ ps) (one_list l setup changes fs rs qs is x.1 y.1)

pub one_saying : Laws → (setup : Parts) (history segments : List Segment) (frames : List Captured) (here there : List Record) → IsRoster setup.roster → AreOfPeers setup.peers (history ++ segments)
    → SaysSingle setup history segments frames here → SaysSingle setup history segments frames there → here ≡ there
one_saying l setup history segments frames here there is of_peers x y =
    let logs : y.log ≡ x.log = l.log setup.local setup.peers (history ++ segments) y.log x.log of_peers y.heard x.heard in
    one_list l setup (changes_of x.log) frames here there is x.each (subst (λ (log : List Entry). AllZip (λ f r. SingleRecord setup (changes_of log) f r) frames there) logs y.each)
