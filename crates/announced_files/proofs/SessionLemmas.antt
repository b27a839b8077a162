-- The session that hears an announced file comes up, and each UPDATE of it makes one change.
use Rattle.std.proofs.Common.{◌≡◌, ℕ, ◌+◌, ◌-◌, ◌*◌, ◌/◌, ◌^◌, ◌<◌, ◌≤◌, min, Bool, true, not, ltb, leb, eqb, List, [], ◌∷◌, ◌++◌, length, map, filter, refl, sym, ap, subst, ◌∙◌, inl, inr, arith}
use Rattle.std.specs.List.{flat_map, AllByRecursion}
use Rattle.std.proofs.lemmas.Bool.{cond_both, cond-true, eq-eqb, le-leb, ltb-true}
use Rattle.std.proofs.lemmas.List.{append-nil, length_push, flat_map_more}
use Rattle.wire_base.proofs.SpellingLemmas.{four_spells}
use Rattle.bgp_messages.specs.declared.messages.Message.{Message}
use Rattle.bgp_messages.specs.declared.messages.Message.TheVariants as messages
use Rattle.bgp_messages.specs.Messages.{spelling, Fits, BeginsNone, Cuts}
use Rattle.bgp_messages.specs.Opens.{peer_as_of}
use Rattle.bgp_messages.specs.Refusals.{Told, Refused}
use Rattle.bgp_update.specs.declared.routes.Nlri.{Nlri}
use Rattle.bgp_session.specs.declared.local_sides.Local.{Local}
use Rattle.bgp_session.specs.LocalSide.{IsLocal}
use Rattle.sfc_routes.specs.declared.routes.Route.{Route}
use Rattle.sfc_routes.specs.declared.route_changes.RouteChange.{RouteChange}
use Rattle.sfc_routes.proofs.MemberLemmas.{all_join}
use Rattle.session_machine.specs.declared.sides.Side.{Side}
use Rattle.session_machine.specs.declared.states.State.{State}
use Rattle.session_machine.specs.declared.states.State.TheVariants as states
use Rattle.session_machine.specs.declared.cores.Core.{Core}
use Rattle.session_machine.specs.declared.events.Effects.{Effects}
use Rattle.session_machine.specs.Sides.{IsPeer, side_of}
use Rattle.session_machine.specs.Spoken.{opening, open_message}
use Rattle.session_machine.specs.KnownRoutes.{has, without, with_one, after_change}
use Rattle.session_machine.specs.Outcomes.{refuses}
use Rattle.session_machine.specs.Tables.{hold_of, TakesIn}
use Rattle.session_machine.specs.Timers.{hold_in, later}
use Rattle.session_machine.specs.Readings.{Brings}
use Rattle.session_machine.specs.Events.{Happening, comes, Machine, beginning, core_of, stream_in, after, given, Reads, Uses, ComesIn, Steps}
use Rattle.session_machine.specs.Histories.{Runs}
use Rattle.session_machine.proofs.CourseLemmas.{fresh_drained}
use Rattle.control_histories.specs.Happenings.{happens}
use Rattle.announced_files.specs.Announceable.{IsAnnounceable}
use Rattle.announced_files.specs.Announcements.{announcement, announcing}
use Rattle.announced_files.specs.Announced.{other_side, said, announced, change_for}
use Rattle.announced_files.proofs.UpdateLemmas.{spelled, means}

-- ---- a stream of whole messages

nothing_refused : (t : Told) → Refused [] t → ⊥
nothing_refused t (inl row) = omega (arith, row.there)
nothing_refused t (inr (inl row)) = omega (arith, row.there)
nothing_refused t (inr (inr (inl row))) = omega (arith, row.before.there)
nothing_refused t (inr (inr (inr (inl row)))) = omega (arith, row.before.there)
nothing_refused t (inr (inr (inr (inr row)))) = omega (arith, row.whole.before.there)

nothing_begins : BeginsNone []
nothing_begins = fresh_drained.cut.ended

whole_cut : (ms : List Message) → AllByRecursion Fits ms → Cuts (flat_map spelling ms) ms []
whole_cut ms fit = record { joined = sym (append-nil (flat_map spelling ms)); each = fit; ended = nothing_begins }

one_brought : (before : List Message) (m : Message) → AllByRecursion Fits before → Fits m → Brings (flat_map spelling before) (spelling m) (m ∷ []) []
one_brought before m fit one =
    let all = whole_cut (before ++ m ∷ []) (all_join Fits before (m ∷ []) fit (one, tt)) in
    record {
      before = before;
      behind = [];
      cut_before = whole_cut before fit;
      cut = subst (λ (s : List ℕ). Cuts s (before ++ m ∷ []) []) (sym (flat_map_more spelling [] before m)) all;
    }

-- ---- no timer runs out at moment 0

-- a session that is there; its hold time is one of whole seconds
abbrev IsThere : State → Type 0
IsThere states.Idle = ⊥
IsThere states.OpenSent = Unit {0}
IsThere (states.OpenConfirm hold) = (seconds : ℕ) × (hold ≡ 1000000 * seconds)
IsThere (states.Established hold) = (seconds : ℕ) × (hold ≡ 1000000 * seconds)

never_due_in : (s : State) (x : ℕ) → IsThere s → 0 < hold_in s → hold_in s / 3 ≤ 0 - x → ⊥
never_due_in states.Idle x there set over = absurd there
never_due_in states.OpenSent x there set over = omega (arith, set)
never_due_in (states.OpenConfirm hold) x there set over = omega (arith, there.1, set, over)
never_due_in (states.Established hold) x there set over = omega (arith, there.1, set, over)

same_stream : (s : State) (stream : List ℕ) → IsThere s → stream_in s stream ≡ stream
same_stream states.Idle stream there = absurd there
same_stream states.OpenSent stream there = refl
same_stream (states.OpenConfirm hold) stream there = refl
same_stream (states.Established hold) stream there = refl

used : (s : State) (side : Side) (old : Machine) (piece : List ℕ) (effects : Effects) (new : Machine) → IsThere s → Uses side old 0 piece effects new → ComesIn s side old 0 piece effects new
used states.Idle side old piece effects new there uses = absurd there
used states.OpenSent side old piece effects new there uses = uses
used (states.OpenConfirm hold) side old piece effects new there uses = uses
used (states.Established hold) side old piece effects new there uses = uses

later_zero : {X : Type 0} (xs : List X) (n : ℕ) → n ≡ 0 → later xs n 0 ≡ 0
later_zero [] n e = e
later_zero (x ∷ xs) n e = refl

-- ---- one message

-- a session that read these messages, all at moment 0, and has so many routes
record At (m : Machine) (s : State) (before : List Message) (count : ℕ) : Type 0 where
  state : m.state ≡ s
  sent : m.sent ≡ 0
  stream : m.stream ≡ flat_map spelling before
  fit : AllByRecursion Fits before
  routes : length m.nlris ≡ count

record Hears (side : Side) (old : Machine) (m : Message) (before : List Message) (next : Core) : Type 0 where
  new : Machine
  steps : Steps side old (comes 0 (spelling m)) (given next) new
  at : At new next.state (before ++ m ∷ []) (length next.nlris)

-- a message that the session takes
hears : (side : Side) (old : Machine) (s : State) (before : List Message) (count : ℕ) (m : Message) (next : Core)
    → At old s before count → Fits m → IsThere s → IsThere next.state → TakesIn s side (core_of old) m next → Hears side old m before next
hears side old s before count m next at fits there still takes =
    let piece : List ℕ = spelling m in
    let new : Machine = after old 0 (old.stream ++ piece) (m ∷ []) next in
    let reads : Reads side old 0 piece (given next) new = record {
      in_time = λ expired. omega (arith, expired.set, expired.over);
      news = m ∷ [];
      rest = [];
      brought = subst (λ (stream : List ℕ). Brings stream piece (m ∷ []) []) (sym at.stream) (one_brought before m at.fit fits);
      taken = next;
      takes = (next, subst (λ (t : State). TakesIn t side (core_of old) m next) (sym at.state) takes, refl);
      judged = next;
      judges = inl (record { accepted = nothing_refused; unfinished = nothing_begins }, refl);
      kept = next;
      keeps = inr ((λ due. never_due_in next.state (later next.bytes old.sent 0) still due.set due.over), refl);
      effects_are = refl;
      new_is = refl;
    } in
    record {
      new = new;
      steps = subst (λ (t : State). ComesIn t side old 0 piece (given next) new) (sym at.state) (used s side old piece (given next) new there (inr reads));
      at = record {
        state = refl;
        sent = later_zero next.bytes old.sent at.sent;
        stream = same_stream next.state (old.stream ++ piece) still ∙ ap (λ (stream : List ℕ). stream ++ piece) at.stream ∙ flat_map_more spelling [] before m;
        fit = all_join Fits before (m ∷ []) at.fit (fits, tt);
        routes = refl;
      };
    }

-- ---- routes

fewer : (p : Nlri → Bool) (ns : List Nlri) → length (filter p ns) ≤ length ns
fewer p [] = omega arith
fewer p (n ∷ ns) =
    let rest = fewer p ns in
    cond_both (p n) (n ∷ filter p ns) (filter p ns) (λ (l : List Nlri). length l ≤ length (n ∷ ns)) (λ e. omega (arith, rest)) (λ e. omega (arith, rest))

one_known : (known : List Nlri) (n : Nlri) → length (with_one known n) ≤ length known + 1
one_known known n = cond_both (has known n) known (known ++ n ∷ []) (λ (l : List Nlri). length l ≤ length known + 1) (λ e. omega arith) (λ e. omega (arith, length_push known n))

known_after : (peer : ℕ) (known : List Nlri) (r : Route) → length (after_change known (change_for peer r)) ≤ length known + 1
known_after peer known r = omega (arith, one_known (without known []) r.nlri, fewer (λ (n : Nlri). not (has [] n)) known)

-- what an UPDATE leads to
abbrev pub effects_for : ℕ → Route → Effects
effects_for peer r = record { bytes = []; changes = change_for peer r ∷ [] }

abbrev pub Goes : Side → Machine → List Happening → List Effects → Type 0
Goes side old events effects = (end : Machine) × Runs side old events effects end

all_heard : (side : Side) (own asn hold seconds : ℕ) → hold ≡ 1000000 * seconds → (routes : List Route) → AllByRecursion IsAnnounceable routes
    → (old : Machine) (before : List Message) (count : ℕ) → At old (states.Established hold) before count → count + length routes ≤ 1024
    → Goes side old (map happens (map (λ (r : Route). said side.peer (announcing own asn r)) routes)) (map (effects_for side.peer) routes)
all_heard side own asn hold seconds is [] each old before count at room = (old, refl)
all_heard side own asn hold seconds is (r ∷ rs) each old before count at room =
    let core : Core = core_of old in
    let change : RouteChange = change_for side.peer r in
    let next : Core = record core { nlris = after_change core.nlris change; changes = core.changes ++ change ∷ [] } in
    let one = spelled own asn r each.0 in
    let most : length next.nlris ≤ length old.nlris + 1 = known_after side.peer old.nlris r in
    let still : IsThere old.state = subst IsThere (sym at.state) (seconds, is) in
    let takes : TakesIn (states.Established hold) side core (announcing own asn r) next = inr (record {
      update = announcement own asn r;
      change = change;
      spelled = record { spelled = refl; fits = one.fits };
      meant = means side.peer own asn r each.0;
      fits = (each.0.path, tt);
      done = sym (cond-true (leb (length next.nlris) 1024) next (refuses side.peer core 6 1 []) (le-leb (length next.nlris) 1024 (omega (arith, room, most, at.routes))));
    }) in
    let heard = hears side old (states.Established hold) before count (announcing own asn r) next at one.message (seconds, is) still takes in
    let on : At heard.new (states.Established hold) (before ++ announcing own asn r ∷ []) (length next.nlris) =
    subst (λ (t : State). At heard.new t (before ++ announcing own asn r ∷ []) (length next.nlris)) at.state heard.at in
    let rest = all_heard side own asn hold seconds is rs each.1 heard.new (before ++ announcing own asn r ∷ []) (length next.nlris) on (omega (arith, room, most, at.routes)) in
    (rest.0, (heard.new, heard.steps, rest.1))

-- ---- the whole file

-- the OPEN of a local side has a spelling
pub opening_fits : (l : Local) → IsLocal l → Fits (open_message l)
opening_fits l is = record {
  parts = record {
    my_as = cond_both (ltb l.asn 65536) l.asn 23456 (λ n. n < 2 ^ 16) (λ e. omega (arith, ltb-true l.asn 65536 e)) (λ e. omega arith);
    hold = is.hold_most;
    not_one = λ e. let least : 3 ≤ l.hold = is.hold_least (λ none. omega (arith, e, none)) in omega (arith, e, least);
    not_two = λ e. let least : 3 ≤ l.hold = is.hold_least (λ none. omega (arith, e, none)) in omega (arith, e, least);
    id = is.id_most;
    some_id = is.id_some;
    size = omega arith;
  };
  size = omega arith;
}

-- what the three segments of the greeting lead to: the local side's OPEN, its KEEPALIVE, nothing
abbrev pub greeted : Local → List Effects
greeted local =
    record { bytes = spelling (open_message local); changes = [] }
    ∷ record { bytes = spelling messages.KeepAlive; changes = [] }
    ∷ record { bytes = []; changes = [] }
    ∷ []

pub other_fits : (local : Local) (peer asn : ℕ) → IsLocal local → IsPeer peer asn → IsLocal (other_side local peer asn)
other_fits local peer asn is_local is = record {
  asn_some = is.asn_some;
  asn_most = is.asn_most;
  id_some = is.number_some;
  id_most = omega (arith, is.number_most);
  hold_least = is_local.hold_least;
  hold_most = is_local.hold_most;
}

pub announced_heard : (local : Local) (peer asn : ℕ) (routes : List Route) → IsLocal local → IsPeer peer asn → AllByRecursion IsAnnounceable routes → length routes ≤ 1024
    → Goes (side_of local peer asn) beginning (map happens (announced local peer asn routes)) (greeted local ++ map (effects_for peer) routes)
announced_heard local peer asn routes is_local is each few =
    let side : Side = side_of local peer asn in
    let other : Local = other_side local peer asn in
    let seconds : ℕ = min local.hold local.hold in
    let hold : ℕ = hold_of local.hold local.hold in
    let waits : Machine = record { state = states.OpenSent; last = 0; sent = 0; stream = []; nlris = [] } in
    let at_first : At waits states.OpenSent [] 0 = record { state = refl; sent = refl; stream = refl; fit = tt; routes = refl } in
    let opened : Core = record (core_of waits) { state = states.OpenConfirm hold; bytes = spelling messages.KeepAlive } in
    let same_as : eqb (peer_as_of (opening other)) asn ≡ true = eq-eqb (peer_as_of (opening other)) asn ((four_spells asn is.asn_most).number) in
    let takes_first : TakesIn states.OpenSent side (core_of waits) (open_message other) opened = sym (cond-true (eqb (peer_as_of (opening other)) asn) opened (refuses peer (core_of waits) 2 2 []) same_as) in
    let first = hears side waits states.OpenSent [] 0 (open_message other) opened at_first (opening_fits other (other_fits local peer asn is_local is)) tt (seconds, refl) takes_first in
    let up : Core = record (core_of first.new) { state = states.Established hold } in
    let second = hears side first.new (states.OpenConfirm hold) (open_message other ∷ []) 0 messages.KeepAlive up first.at (record { parts = tt; size = omega arith }) (seconds, refl) (seconds, refl) refl in
    let none : length first.new.nlris ≡ 0 = first.at.routes in
    let rest = all_heard side local.asn asn hold seconds refl routes each second.new (open_message other ∷ messages.KeepAlive ∷ []) (length up.nlris) second.at (omega (arith, few, none)) in
    (rest.0, (waits, record { effects_are = refl; new_is = refl }, (first.new, first.steps, (second.new, second.steps, rest.1))))
