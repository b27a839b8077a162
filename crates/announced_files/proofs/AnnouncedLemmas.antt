-- After the changes that announce routes of different names, one each, the peer's routes are exactly these.
use Rattle.std.proofs.Common.{◌≡◌, ℕ, suc, Bool, true, cond, eqb, List, [], ◌∷◌, ◌++◌, length, map, refl, sym, ap, subst, ◌∙◌, inl, inr, arith}
use Rattle.std.specs.Prelude.{◌↔◌, ◌≢◌, Contains}
use Rattle.std.specs.List.{flat_map, AllPairs, AllByRecursion}
use Rattle.std.proofs.lemmas.Bool.{eq-eqb}
use Rattle.std.proofs.lemmas.List.Elements.{All-contains}
use Rattle.bgp_session.specs.declared.local_sides.Local.{Local}
use Rattle.bgp_session.specs.LocalSide.{IsLocal}
use Rattle.sfc_routes.specs.declared.routes.Route.{Route}
use Rattle.sfc_routes.specs.declared.route_changes.RouteChange.{RouteChange}
use Rattle.sfc_routes.specs.PeerRoutes.{PeerRoute}
use Rattle.sfc_routes.specs.LastWords.{LastSays, Announces, IsSilent, Routes}
use Rattle.sfc_routes.proofs.MemberLemmas.{front_or_behind, no_member, behind, at_front}
use Rattle.control_files.specs.declared.segments.Segment.{Segment}
use Rattle.route_texts.specs.RouteTexts.{IsRoutes}
use Rattle.route_texts.proofs.OneRoute.{heads_are, tails_are}
use Rattle.session_machine.specs.declared.sides.Side.{Side}
use Rattle.session_machine.specs.declared.events.Effects.{Effects}
use Rattle.session_machine.specs.Sides.{IsPeer, side_of}
use Rattle.session_machine.specs.Events.{Happening, Machine, beginning}
use Rattle.session_machine.specs.Histories.{Runs, Sent}
use Rattle.session_machine.specs.Groups.{Entry, of_peer, events_of, effects_of}
use Rattle.control_histories.specs.Happenings.{happens, said_by, told_by, Logs}
use Rattle.control_histories.specs.Logs.{Heard, changes_of}
use Rattle.announced_files.specs.Announcements.{announcing}
use Rattle.announced_files.specs.Announced.{said, announced, change_for}
use Rattle.announced_files.proofs.RouteLemmas.{AreTaken, of_text}
use Rattle.announced_files.proofs.SessionLemmas.{effects_for, greeted, announced_heard}

-- the routes differ, the first from each behind it
first_differs : (r : Route) (rs : List Route) → AllPairs (λ (q s : Route). q.nlri ≢ s.nlri) (r ∷ rs) → (s : Route) → Contains rs s → r.nlri ≢ s.nlri
first_differs r rs differ s is = subst (λ (t : Route). r.nlri ≢ t.nlri) is.2 (differ 0 (suc is.0) s (omega arith) (omega (arith, is.1)))

others_differ : (r : Route) (rs : List Route) → AllPairs (λ (q s : Route). q.nlri ≢ s.nlri) (r ∷ rs) → AllPairs (λ (q s : Route). q.nlri ≢ s.nlri) rs
others_differ r rs differ i j d below there = differ (suc i) (suc j) d (omega (arith, below)) (omega (arith, there))

abbrev Speaks : PeerRoute → RouteChange → Type 0
Speaks e c = Announces c e

abbrev Keeps : PeerRoute → RouteChange → Type 0
Keeps e c = IsSilent c e

all_silent : (peer : ℕ) (rs : List Route) (e : PeerRoute) → ((s : Route) → Contains rs s → e.route.nlri ≢ s.nlri) → AllByRecursion (Keeps e) (map (change_for peer) rs)
all_silent peer [] e apart = tt
all_silent peer (r ∷ rs) e apart = (
  (λ of_peer. record { not_announced = ((λ same. apart r (at_front r rs) (sym same)), tt); not_withdrawn = no_member e.route.nlri; not_all = refl }),
  all_silent peer rs e (λ s is. apart s (behind r rs s is)),
)

pub announces : (peer : ℕ) (rs : List Route) → AllPairs (λ (q s : Route). q.nlri ≢ s.nlri) rs → (e : PeerRoute) → e.peer ≡ peer → Contains rs e.route → LastSays (Speaks e) (Keeps e) (map (change_for peer) rs)
announces peer [] differ e of_peer is = absurd (no_member e.route is)
announces peer (r ∷ rs) differ e of_peer is =
    elim (front_or_behind r rs e.route is) [
      | inl first ↦ inl (
        record { of_peer = sym of_peer; last = inl (first, tt) },
        all_silent peer rs e (subst (λ (q : Route). (s : Route) → Contains rs s → q.nlri ≢ s.nlri) first (first_differs r rs differ)),
      )
      | inr other ↦ inr (announces peer rs (others_differ r rs differ) e of_peer other)
    ]

pub announced_by_one : (peer : ℕ) (rs : List Route) (e : PeerRoute) → LastSays (Speaks e) (Keeps e) (map (change_for peer) rs) → (e.peer ≡ peer) × Contains rs e.route
announced_by_one peer [] e says = absurd says
announced_by_one peer (r ∷ rs) e (inl here) =
    elim here.0.last [
      | inl first ↦ (sym here.0.of_peer, subst (Contains (r ∷ rs)) first.0 (at_front r rs))
      | inr none ↦ absurd none
    ]
announced_by_one peer (r ∷ rs) e (inr rest) = let one = announced_by_one peer rs e rest in (one.0, behind r rs e.route one.1)

changes_are : (peer : ℕ) (rs : List Route) → flat_map (λ (f : Effects). f.changes) (map (effects_for peer) rs) ≡ map (change_for peer) rs
changes_are peer [] = refl
changes_are peer (r ∷ rs) = ap (λ (l : List RouteChange). change_for peer r ∷ l) (changes_are peer rs)

-- ---- the log of an announced file

of_one_peer : (peer own asn : ℕ) (routes : List Route) → AllByRecursion (λ (s : Segment). s.peer ≡ peer) (map (λ (r : Route). said peer (announcing own asn r)) routes)
of_one_peer peer own asn [] = tt
of_one_peer peer own asn (r ∷ rs) = (refl, of_one_peer peer own asn rs)

record OwnLog (peer : ℕ) (segments : List Segment) (log : List Entry) : Type 0 where
  all : of_peer peer log ≡ log
  events : map (λ (e : Entry). e.event) log ≡ map happens segments

own_log : (peer : ℕ) (segments : List Segment) (log : List Entry) → Logs segments log → AllByRecursion (λ (s : Segment). s.peer ≡ peer) segments → OwnLog peer segments log
own_log peer [] [] told own = record { all = refl; events = refl }
own_log peer [] (e ∷ es) told own = absurd (omega (arith, ap length told))
own_log peer (s ∷ ss) [] told own = absurd (omega (arith, ap length told))
own_log peer (s ∷ ss) (e ∷ es) told own =
    let first : told_by e ≡ said_by s = heads_are (told_by e) (said_by s) (map told_by es) (map said_by ss) told in
    let rest = own_log peer ss es (tails_are (told_by e) (said_by s) (map told_by es) (map said_by ss) told) own.1 in
    let is : eqb e.peer peer ≡ true = eq-eqb e.peer peer (ap (λ (p : ℕ × Happening). p.0) first ∙ own.0) in
    record {
      all = ap (λ (b : Bool). cond b (e ∷ of_peer peer es) (of_peer peer es)) is ∙ ap (λ (l : List Entry). e ∷ l) rest.all;
      events = ap (λ (h : Happening). h ∷ map (λ (x : Entry). x.event) es) (ap (λ (p : ℕ × Happening). p.1) first) ∙ ap (λ (l : List Happening). happens s ∷ l) rest.events;
    }

changes_by_effects : (log : List Entry) → changes_of log ≡ flat_map (λ (f : Effects). f.changes) (map (λ (e : Entry). e.effects) log)
changes_by_effects [] = refl
changes_by_effects (e ∷ es) = ap (λ (l : List RouteChange). e.effects.changes ++ l) (changes_by_effects es)

abbrev pub OneRun : Type 0
OneRun = (side : Side) (start : Machine) (events : List Happening) (given other : List Effects) (end end2 : Machine)
    → Runs side start events given end → Runs side start events other end2 → (given ≡ other) × (end ≡ end2)

changes_heard : OneRun → (local : Local) (peers : List (ℕ × ℕ)) (peer asn : ℕ) (routes : List Route) (log : List Entry)
    → IsLocal local → IsPeer peer asn → Contains peers (peer, asn) → AreTaken routes → Heard local peers (announced local peer asn routes) log → changes_of log ≡ map (change_for peer) routes
changes_heard one local peers peer asn routes log is_local is there taken heard =
    let segments : List Segment = announced local peer asn routes in
    let own : OwnLog peer segments log = own_log peer segments log heard.in_order (refl, (refl, (refl, of_one_peer peer local.asn asn routes))) in
    let sent : Sent local peer asn (events_of peer log) (effects_of peer log) =
    All-contains (λ (p : ℕ × ℕ). Sent local p.0 p.1 (events_of p.0 log) (effects_of p.0 log)) peers (peer, asn) heard.each there in
    let of_all : Sent local peer asn (map (λ (e : Entry). e.event) log) (map (λ (e : Entry). e.effects) log) =
    subst (λ (l : List Entry). Sent local peer asn (map (λ (e : Entry). e.event) l) (map (λ (e : Entry). e.effects) l)) own.all sent in
    let of_file : Sent local peer asn (map happens segments) (map (λ (e : Entry). e.effects) log) =
    subst (λ (events : List Happening). Sent local peer asn events (map (λ (e : Entry). e.effects) log)) own.events of_all in
    let run = announced_heard local peer asn routes is_local is taken.each taken.few in
    let effects : map (λ (e : Entry). e.effects) log ≡ greeted local ++ map (effects_for peer) routes =
    (one (side_of local peer asn) beginning (map happens segments) (map (λ (e : Entry). e.effects) log) (greeted local ++ map (effects_for peer) routes) of_file.0 run.0 of_file.1 run.1).0 in
    changes_by_effects log ∙ ap (flat_map (λ (f : Effects). f.changes)) effects ∙ changes_are peer routes

pub routes_heard : OneRun → (local : Local) (peers : List (ℕ × ℕ)) (peer asn : ℕ) (text : List ℕ) (routes : List Route) (log : List Entry)
    → IsLocal local → IsPeer peer asn → Contains peers (peer, asn) → IsRoutes text routes → Heard local peers (announced local peer asn routes) log
    → (e : PeerRoute) → Routes (changes_of log) e ↔ ((e.peer ≡ peer) × Contains routes e.route)
routes_heard one local peers peer asn text routes log is_local is there spells heard e =
    let taken : AreTaken routes = of_text text routes spells in
    let changes : changes_of log ≡ map (change_for peer) routes = changes_heard one local peers peer asn routes log is_local is there taken heard in (
      (λ says. announced_by_one peer routes e (subst (λ (cs : List RouteChange). Routes cs e) changes says)),
      (λ both. subst (λ (cs : List RouteChange). Routes cs e) (sym changes) (announces peer routes taken.differ e both.0 both.1)),
    )
