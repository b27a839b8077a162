-- Each station of a walk hands over a packet or none; so each round hands something over, and there is a trace.
use Rattle.std.proofs.Common.{◌≡◌, ℕ, zero, suc, ◌+◌, ◌-◌, ◌<◌, ◌≤◌, List, [], ◌∷◌, ◌++◌, All, Option, Some, ap, arith, drop, get_or, inl, inr, length, refl, subst, sym, take}
use Rattle.std.specs.List.{AllByRecursion, AllZip}
use Rattle.std.proofs.lemmas.Bool.{cases_eq}
use Rattle.std.proofs.lemmas.List.Elements.{All-append, All-contains, All-from_recursion, All-tail, recursion_from_All}
use Rattle.wire_base.specs.Numbers.{AreBytes}
use Rattle.wire_base.specs.declared.ids.ForwarderId.{ForwarderId}
use Rattle.wire_base.specs.declared.ids.InstanceId.{InstanceId}
use Rattle.pcap_io.specs.declared.frames.Captured.{Captured}
use Rattle.path_selection.specs.Answers.{IsAnswer}
use Rattle.path_selection.specs.Paths.{ServicePath}
use Rattle.path_selection.specs.declared.answers.Answer.{Answer}
use Rattle.path_selection.specs.declared.answers.Answer.TheVariants.{At, Ended, NoInstance, NoPath}
use Rattle.path_selection.specs.declared.hops.HopRow.{HopRow}
use Rattle.record_text.specs.declared.records.End.{End}
use Rattle.record_text.specs.declared.records.Record.{Record}
use Rattle.route_selection.specs.Names.{AreOfRoster, IsOfRoster}
use Rattle.route_selection.proofs.NameLemmas.{names_roster}
use Rattle.service_functions.specs.Functions.{IsFunction}
use Rattle.service_functions.specs.declared.functions.Function.{Function}
use Rattle.service_functions.specs.declared.functions.Function.TheVariants.{Pass}
use Rattle.setup_statements.specs.declared.statements.Bound.{Bound}
use Rattle.sfc_config.specs.Parts.{AreParts, Parts}
use Rattle.sfc_routes.specs.Entries.{Entries}
use Rattle.sfc_routes.specs.declared.route_changes.RouteChange.{RouteChange}
use Rattle.classifier.specs.Stations.{Station, first_header, first_station}
use Rattle.classifier.specs.Verdicts.{IsVerdict}
use Rattle.classifier.specs.declared.verdicts.Verdict.{Verdict}
use Rattle.classifier.specs.declared.verdicts.Verdict.TheVariants as verdict
use Rattle.control_histories.specs.Versions.{IsVersion}
use Rattle.forwarder.specs.Traces.{outer}
use Rattle.forwarder.specs.Walks.{Follows, GoesOn, Walk, WalkFrom, WalksBy, aged, function_by, functions_of}
use Rattle.forwarder.specs.Workspaces.{taken_in}
use Rattle.forwarder.proofs.WalkLengths.{ranged}
use Rattle.worker_run.specs.Records.{SingleRecord}
use Rattle.frame_traces.specs.Traces.{HandsFrom, HandsOver, IsHanded, TracesFrame}
use Rattle.trace_laws.proofs.FrameBytes.{served_bytes}
use Rattle.trace_laws.proofs.HeaderSpelled.{Fits, fits_aged, fits_first, fits_index, fits_served, spelled}
use Rattle.service_functions.specs.Serving.{HeaderBy}

-- ---- a station

record StationFits (s : Station) : Type 0 where
  header : Fits s.header
  bytes : AreBytes s.frame.bytes
  place : s.forwarder.0 < 256

-- what a setup gives to each turn
record Setting (roster : Entries) (functions : List Function) : Type 0 where
  few : length roster.forwarders ≤ 64
  fit : (i : ℕ) → IsFunction (get_or functions i Pass)

seat_small : (roster : Entries) (choice : Option (ForwarderId × InstanceId)) (other : ForwarderId) (instance : InstanceId) → IsOfRoster roster choice → choice ≡ Some (other, instance) → other.0 < length roster.forwarders
seat_small roster choice other instance of is =
    let own : IsOfRoster roster (Some (other, instance)) = subst (IsOfRoster roster) is of in own.0

-- a hop at this index, and at a forwarder of the roster
record HopFits (s : Station) (at : ℕ) (other : ForwarderId) : Type 0 where
  index : at < 256
  place : other.0 < 256

hop_fits : (roster : Entries) (table : List ServicePath) (s : Station) (at : ℕ) (other : ForwarderId) (instance : InstanceId) → length roster.forwarders ≤ 64 → AreOfRoster roster table → StationFits s
    → IsAnswer table s.header.head.path.spi s.header.head.path.si (At at other instance) → HopFits s at other
hop_fits roster table s at other instance few named fits (row, serving, at_is, choice) =
    let rows : All (λ (r : HopRow). IsOfRoster roster r.choice) serving.0.rows = All-contains (λ (p : ServicePath). All (λ (r : HopRow). IsOfRoster roster r.choice) p.rows) table serving.0 named serving.1.there in
    let of : IsOfRoster roster row.choice = All-contains (λ (r : HopRow). IsOfRoster roster r.choice) serving.0.rows row rows serving.2.there in
    let not_above = serving.2.not_above in
    let si = fits.header.si in
    let small = seat_small roster row.choice other instance of choice in
    record { index = omega (arith, not_above, si, at_is); place = omega (arith, small, few) }

next_fits : (roster : Entries) (functions : List Function) (table : List ServicePath) (s next : Station) (answer : Answer) → Setting roster functions → AreOfRoster roster table → StationFits s
    → IsAnswer table s.header.head.path.spi s.header.head.path.si answer → Follows functions s answer (GoesOn next) → StationFits next
next_fits roster functions table s next NoPath setting named fits answered follows = absurd (cc)
next_fits roster functions table s next (NoInstance at) setting named fits answered follows = absurd (cc)
next_fits roster functions table s next Ended setting named fits answered follows = absurd (cc)
next_fits roster functions table s next (At at other instance) setting named fits answered (inl handed) =
    let hop = hop_fits roster table s at other instance setting.few named fits answered in
    subst StationFits (sym handed.1) (record { header = fits_index (aged s.header) at hop.index (fits_aged s.header fits.header); bytes = fits.bytes; place = hop.place })
next_fits roster functions table s next (At at other instance) setting named fits answered (inr passed) =
    let hop = hop_fits roster table s at other instance setting.few named fits answered in
    let index = hop.index in
    let f = function_by functions instance in
    let is : IsFunction f = setting.fit instance.0 in
    subst StationFits (sym passed.2) (record {
      header = fits_index (aged (HeaderBy f s.header)) (at - 1) (omega (arith, index)) (fits_aged (HeaderBy f s.header) (fits_served f s.header is (λ w drop. passed.1 w (inr drop)) fits.header));
      bytes = served_bytes f s.frame is fits.bytes;
      place = fits.place;
    })

-- ---- the packets of a walk

outer_bytes : (other forwarder : ForwarderId) → other.0 < 256 → forwarder.0 < 256 → AreBytes (outer other forwarder)
outer_bytes other forwarder p q = All-from_recursion (λ (b : ℕ). b < 256) (outer other forwarder)
    (omega arith, (omega arith, (omega arith, (omega arith, (omega arith, (p, (omega arith, (omega arith, (omega arith, (omega arith, (omega arith, (q, (omega arith, (omega arith, tt))))))))))))))

record Handed (frame : Captured) (s next : Station) : Type 0 where
  packet : Captured
  is : IsHanded frame s next packet

handed_by : (frame : Captured) (s next : Station) → StationFits s → StationFits next → Handed frame s next
handed_by frame s next here there =
    let header = spelled next.header there.header in
    let whole : List ℕ = outer next.forwarder s.forwarder ++ (header.bytes ++ next.frame.bytes) in
    let are : AreBytes whole = All-append (λ (b : ℕ). b < 256) (outer next.forwarder s.forwarder) (header.bytes ++ next.frame.bytes) (outer_bytes next.forwarder s.forwarder there.place here.place)
    (All-append (λ (b : ℕ). b < 256) header.bytes next.frame.bytes header.are there.bytes) in
    record {
      packet = record { seconds = frame.seconds; fraction = frame.fraction; original = 14 + length header.bytes + next.frame.original; bytes = take 262144 whole };
      is = record {
        whole = whole;
        is_packet = record { spelling = header.bytes; spelled = header.spells; whole = refl };
        are_bytes = are;
        seconds = refl;
        fraction = refl;
        original = refl;
        captured = refl;
      };
    }

hands_from : (frame : Captured) (roster : Entries) (functions : List Function) (s : Station) (later : List Station) (tables : List (List ServicePath)) (end : End) (visits : List InstanceId) → Setting roster functions
    → All (AreOfRoster roster) tables → StationFits s → WalkFrom functions s later tables end visits → (handed : List Captured) × HandsFrom frame s later handed
hands_from frame roster functions s [] tables end visits setting named fits walk = ([], refl)
hands_from frame roster functions s (next ∷ later) [] end visits setting named fits walk = absurd walk
hands_from frame roster functions s (next ∷ later) (t ∷ ts) end visits setting named fits walk =
    let there = next_fits roster functions t s next walk.0.answer setting (named 0 t (omega arith)) fits walk.0.answered walk.0.follows in
    let rest = hands_from frame roster functions next later ts end visits setting (All-tail (AreOfRoster roster) t ts named) there walk.1 in
    elim (cases_eq next.forwarder.0 s.forwarder.0) [
      | inl same ↦ (rest.0, inl ((λ k. record { 0 = same k }), rest.1))
      | inr apart ↦
          let packet = handed_by frame s next fits there in
          (packet.packet ∷ rest.0, inr ((λ same. apart (λ k. (same k).0)), packet.packet, rest.0, refl, packet.is, rest.1))
    ]

-- ---- a frame

functions_fit : (bounds : List Bound) (i : ℕ) → AllByRecursion (λ (b : Bound). IsFunction b.function) bounds → IsFunction (get_or (functions_of bounds) i Pass)
functions_fit [] i fit = tt
functions_fit (b ∷ bounds) zero fit = fit.0
functions_fit (b ∷ bounds) (suc i) fit = functions_fit bounds i fit.1

setting_of : (setup : Parts) → AreParts setup → Setting setup.roster (functions_of setup.instances)
setting_of setup parts = record {
  few = parts.roster_fits.few_forwarders;
  fit = λ i. functions_fit setup.instances i (recursion_from_All (λ (b : Bound). IsFunction b.function) setup.instances parts.functions_fit);
}

named_each : (roster : Entries) (changes : List RouteChange) (versions : List ℕ) (tables : List (List ServicePath)) → AllZip (λ v t. IsVersion roster changes v t) versions tables → AllByRecursion (AreOfRoster roster) tables
named_each roster changes [] [] over = tt
named_each roster changes [] (t ∷ ts) over = absurd over
named_each roster changes (v ∷ vs) [] over = absurd over
named_each roster changes (v ∷ vs) (t ∷ ts) over = (names_roster roster over.0.table_is.routes t over.0.table_is.selected, named_each roster changes vs ts over.1)

hands_by : (setup : Parts) (frame : Captured) (v : Verdict) (walk : Walk) → AreParts setup → AreBytes frame.bytes → All (AreOfRoster setup.roster) walk.tables → IsVerdict v
    → WalksBy setup (taken_in frame.bytes frame.original) v walk → (handed : List Captured) × HandsOver frame walk.stations handed
hands_by setup frame (verdict.Path spi si ttl context) walk parts are named is p =
    let first = first_station setup.ingress (taken_in frame.bytes frame.original) (first_header spi si ttl context) in
    let known = parts.ingress_known in
    let few = parts.roster_fits.few_forwarders in
    let fits : StationFits first = record { header = fits_first spi si ttl context is.0 is.1.1 is.2.1 is.3; bytes = are; place = omega (arith, known, few) } in
    let handed = hands_from frame setup.roster (functions_of setup.instances) first p.0 walk.tables walk.end walk.visits (setting_of setup parts) named fits p.3 in
    (handed.0, subst (λ (l : List Station). HandsOver frame l handed.0) (sym p.1) handed.1)
hands_by setup frame verdict.Bypass walk parts are named is p = ([], subst (λ (l : List Station). HandsOver frame l []) (sym (ap (λ (w : Walk). w.stations) p)) refl)
hands_by setup frame verdict.Refuse walk parts are named is p = ([], subst (λ (l : List Station). HandsOver frame l []) (sym (ap (λ (w : Walk). w.stations) p)) refl)
hands_by setup frame verdict.NshIngress walk parts are named is p = ([], subst (λ (l : List Station). HandsOver frame l []) (sym (ap (λ (w : Walk). w.stations) p)) refl)

pub traces_frame : (setup : Parts) (changes : List RouteChange) (frame : Captured) (r : Record) → AreParts setup → AreBytes frame.bytes → SingleRecord setup changes frame r → (handed : List Captured) × TracesFrame setup changes frame handed
traces_frame setup changes frame r parts are single =
    let walks = single.told.walks in
    let named : All (AreOfRoster setup.roster) single.told.walk.tables = All-from_recursion (AreOfRoster setup.roster) single.told.walk.tables (named_each setup.roster changes r.versions.items single.told.walk.tables single.told.over) in
    let handed = hands_by setup frame walks.verdict single.told.walk parts are named (ranged setup.rules frame.bytes walks.verdict parts.rules_fit walks.begins) walks.walks in
    (handed.0, record { outcome = r; single = single; hands = handed.1 })
