-- What is kept of a session agrees with the machine after each event.
use Rattle.std.proofs.Common.{◌≡◌, ℕ, List, [], ◌++◌, Option, None, Some, Result, Ok, Err, IfOk, refl, sym, ap, subst, ◌∙◌, inl, inr}
use Rattle.bgp_messages.specs.declared.messages.Message.{Message}
use Rattle.bgp_messages.specs.declared.refusals.Refusal.{Refusal}
use Rattle.bgp_messages.specs.Messages.{spelling, BeginsNone}
use Rattle.bgp_messages.specs.Refusals.{Told, told_in, moved}
use Rattle.bgp_messages.specs.Kept.{Kept, Stop}
use Rattle.bgp_messages.specs.Calls.{Takes, PushesAt, Pushes}
use Rattle.bgp_messages.specs.Streams.{Stands, taken_at}
use Rattle.session_machine.specs.declared.sides.Side.{Side}
use Rattle.session_machine.specs.declared.states.State.{State}
use Rattle.session_machine.specs.declared.states.State.TheVariants as states
use Rattle.session_machine.specs.declared.cores.Core.{Core}
use Rattle.session_machine.specs.declared.courses.Course.{Course}
use Rattle.session_machine.specs.declared.readings.Reading.{Reading}
use Rattle.session_machine.specs.declared.events.Effects.{Effects}
use Rattle.session_machine.specs.Timers.{later, Keeps}
use Rattle.session_machine.specs.Readings.{refuses_in, Judges}
use Rattle.session_machine.specs.Feeds.{Follows, Behind, Drains, Drained, fresh}
use Rattle.session_machine.specs.Events.{Machine, ComesIn, after, stream_in, comes}
use Rattle.session_machine.specs.Courses.{FeedIn, JudgesBy, Agrees, Goes, GoesUsing}

-- ---- the feed

none_begins : BeginsNone []
unfolding spelling
none_begins m more fits e = cc

pub fresh_drained : Drained fresh []
fresh_drained = record {
  before = [];
  follows = record { stands = record { joined = refl; each = tt; used = refl; stopped = tt }; goes_on = refl };
  cut = record { joined = refl; each = tt; ended = none_begins };
}

pub after_new : (feed : Kept) → feed ≡ fresh → Drained feed []
after_new feed e = subst (λ (k : Kept). Drained k []) (sym e) fresh_drained

-- a feed that goes on follows the stream with the piece
pub follows_push : (old new : Kept) (taken piece : List ℕ) (given : List Message) → old.stop ≡ None → Pushes old piece new → Stands new (taken_at old.stop taken piece) given → Follows new (taken ++ piece) given
follows_push old new taken piece given on pushed stands =
    let takes : Takes old piece new = subst (λ (o : Option Stop). PushesAt o old piece new) on pushed in
    record { stands = subst (λ (o : Option Stop). Stands new (taken_at o taken piece) given) on stands; goes_on = takes.goes_on }

-- the feed of a session that is there
abbrev pub DrainedIn : State → Kept → List ℕ → Type 0
DrainedIn states.Idle feed stream = Unit {0}
DrainedIn states.OpenSent feed stream = Drained feed stream
DrainedIn (states.OpenConfirm hold) feed stream = Drained feed stream
DrainedIn (states.Established hold) feed stream = Drained feed stream

in_any_state : (s : State) (feed : Kept) (stream : List ℕ) → Drained feed stream → DrainedIn s feed stream
in_any_state states.Idle feed stream d = tt
in_any_state states.OpenSent feed stream d = d
in_any_state (states.OpenConfirm hold) feed stream d = d
in_any_state (states.Established hold) feed stream d = d

feed_left : (s : State) (old new : Kept) (stream : List ℕ) → FeedIn s old new → DrainedIn s old stream → Drained new (stream_in s stream)
feed_left states.Idle old new stream e d = after_new new e
feed_left states.OpenSent old new stream e d = subst (λ (k : Kept). Drained k stream) (sym e) d
feed_left (states.OpenConfirm hold) old new stream e d = subst (λ (k : Kept). Drained k stream) (sym e) d
feed_left (states.Established hold) old new stream e d = subst (λ (k : Kept). Drained k stream) (sym e) d

-- ---- the end of an event

-- what `leave` leaves
pub record Leaves (old new : Course) (moment : ℕ) (read : List Message) : Type 0 where
  pub core : new.core ≡ record old.core { bytes = []; changes = [] }
  pub last : new.last ≡ later read old.last moment
  pub sent : new.sent ≡ later old.core.bytes old.sent moment
  pub feed : FeedIn old.core.state old.feed new.feed

pub leaves_agree : (old new : Course) (m : Machine) (moment : ℕ) (stream : List ℕ) (read : List Message) → Leaves old new moment read → old.last ≡ m.last → old.sent ≡ m.sent → DrainedIn old.core.state old.feed stream
    → Agrees new (after m moment stream read old.core)
leaves_agree old new m moment stream read l last sent d = record {
  core = l.core;
  last = l.last ∙ ap (λ (n : ℕ). later read n moment) last;
  sent = l.sent ∙ ap (λ (n : ℕ). later old.core.bytes n moment) sent;
  feed = feed_left old.core.state old.feed new.feed stream l.feed d;
}

-- ---- refusals

same_told : (s : State) (number : ℕ) (core : Core) (place : ℕ) (t : Told) → refuses_in s number core (moved place t) ≡ refuses_in s number core t
same_told states.Idle number core place t = refl
same_told states.OpenSent number core place t = refl
same_told (states.OpenConfirm hold) number core place t = refl
same_told (states.Established hold) number core place t = refl

pub judges_by : (number : ℕ) (feed : Kept) (refusal : Option Refusal) (core next : Core) → Behind feed refusal → JudgesBy number refusal core next → Judges number feed.rest core next
judges_by number feed None core next b e = inl (b.0, e)
judges_by number feed (Some r) core next b e =
    inr (b.row, b.here, e ∙ ap (λ (t : Told). refuses_in core.state number core t) b.told ∙ same_told core.state number core feed.place b.row)

ended_by : (s : State) (number : ℕ) (core : Core) (t : Told) → core.state ≡ s → (refuses_in s number core t).state ≡ states.Idle
ended_by states.Idle number core t e = e
ended_by states.OpenSent number core t e = refl
ended_by (states.OpenConfirm hold) number core t e = refl
ended_by (states.Established hold) number core t e = refl

kept_state : (sent moment : ℕ) (core next : Core) → Keeps sent moment core next → next.state ≡ core.state
kept_state sent moment core next (inl due) = ap (λ (k : Core). k.state) due.1
kept_state sent moment core next (inr not_due) = ap (λ (k : Core). k.state) not_due.1

-- a session that goes on has a feed that goes on
still_drained : (refusal : Option Refusal) (number sent moment : ℕ) (feed : Kept) (stream : List ℕ) (given : List Message) (taken judged kept : Core)
    → Stands feed stream given → Behind feed refusal → (Behind feed None → Drained feed stream) → JudgesBy number refusal taken judged → Keeps sent moment judged kept → DrainedIn kept.state feed stream
still_drained None number sent moment feed stream given taken judged kept s b d j k = in_any_state kept.state feed stream (d b)
still_drained (Some r) number sent moment feed stream given taken judged kept s b d j k =
    let idle : kept.state ≡ states.Idle = kept_state sent moment judged kept k ∙ ap (λ (c : Core). c.state) j ∙ ended_by taken.state number taken (told_in r) refl in
    subst (λ (t : State). DrainedIn t feed stream) (sym idle) tt

pub drained_after : (number sent moment : ℕ) (feed : Kept) (stream : List ℕ) (given : List Message) (reading : Reading) (taken judged kept : Core)
    → Drains feed stream given reading → JudgesBy number reading.refusal taken judged → Keeps sent moment judged kept → DrainedIn kept.state feed stream
drained_after number sent moment feed stream given reading taken judged kept d j k =
    still_drained reading.refusal number sent moment feed stream (given ++ reading.messages) taken judged kept d.stands d.behind
    (λ b. record { before = given ++ reading.messages; follows = record { stands = d.stands; goes_on = b.1 }; cut = d.cut }) j k

-- ---- bytes of a session that is there

pub over_ok : {X E : Type 0} (P Q : X → Type 0) (r : Result X E) → ((x : X) → P x → Q x) → IfOk r P → IfOk r Q
over_ok P Q (Ok x) f h = f x h
over_ok P Q (Err e) f h = h

pub uses_opening : (side : Side) (m : Machine) (moment : ℕ) (piece : List ℕ) (effects : Effects) (course : Course) → m.state ≡ states.OpenSent
    → GoesUsing side m moment piece effects course → Goes side m (comes moment piece) effects course
uses_opening side m moment piece effects course is g = record { end = g.end; steps = subst (λ (s : State). ComesIn s side m moment piece effects g.end) (sym is) g.uses; agrees = g.agrees }

pub uses_confirmed : (hold : ℕ) (side : Side) (m : Machine) (moment : ℕ) (piece : List ℕ) (effects : Effects) (course : Course) → m.state ≡ states.OpenConfirm hold
    → GoesUsing side m moment piece effects course → Goes side m (comes moment piece) effects course
uses_confirmed hold side m moment piece effects course is g = record { end = g.end; steps = subst (λ (s : State). ComesIn s side m moment piece effects g.end) (sym is) g.uses; agrees = g.agrees }

pub uses_established : (hold : ℕ) (side : Side) (m : Machine) (moment : ℕ) (piece : List ℕ) (effects : Effects) (course : Course) → m.state ≡ states.Established hold
    → GoesUsing side m moment piece effects course → Goes side m (comes moment piece) effects course
uses_established hold side m moment piece effects course is g = record { end = g.end; steps = subst (λ (s : State). ComesIn s side m moment piece effects g.end) (sym is) g.uses; agrees = g.agrees }

-- the machine has the state that is kept
pub state_of : (course : Course) (m : Machine) (s : State) → Agrees course m → course.core.state ≡ s → m.state ≡ s
state_of course m s a is = sym (ap (λ (k : Core). k.state) a.core) ∙ is
