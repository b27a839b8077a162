-- Every list of events has a run: whatever decides a step is decided, so long as what comes is bytes.
use Rattle.std.proofs.Common.{◌≡◌, ℕ, ◌+◌, ◌-◌, ◌/◌, ◌<◌, eqb, List, [], ◌∷◌, ◌++◌, length, replicate, Option, None, Some, refl, sym, ap, subst, ◌∙◌, inl, inr, ◌⊎◌, append_assoc, arith}
use Rattle.std.specs.List.{flat_map, AllByRecursion, find}
use Rattle.std.proofs.lemmas.List.Concat.{flat_map-append}
use Rattle.std.proofs.lemmas.List.Elements.{All-from_recursion, recursion_from_All, All-append, All-tail, All-nil}
use Rattle.std.proofs.lemmas.Bool.{cases_lt, cond_both}
use Rattle.wire_base.specs.Numbers.{AreBytes, two}
use Rattle.bgp_messages.specs.declared.messages.Message.{Message}
use Rattle.bgp_messages.specs.declared.messages.Message.TheVariants as messages
use Rattle.bgp_messages.specs.Messages.{spelling, content, type_of, Fits, BeginsNone, Cuts}
use Rattle.bgp_messages.specs.Refusals.{Told, Refused, Held}
use Rattle.bgp_update.specs.declared.attributes.Attribute.{Attribute}
use Rattle.bgp_update.specs.declared.attributes.Body.{Body}
use Rattle.bgp_update.specs.declared.attributes.Body.TheVariants as bodies
use Rattle.bgp_update.specs.declared.updates.Update.{Update}
use Rattle.bgp_update.specs.Attributes.{size_bytes, body_bytes, attribute_bytes, attributes_bytes}
use Rattle.bgp_update.specs.Updates.{update_bytes, IsUpdate}
use Rattle.bgp_update.specs.Refusals.{Refused as UpdateRefused}
use Rattle.sfc_routes.specs.declared.route_changes.RouteChange.{RouteChange}
use Rattle.sfc_routes.specs.PeerRoutes.{RouteFits}
use Rattle.sfc_routes.specs.Meanings.{first_of, BytesIn, ChangeOf}
use Rattle.sfc_routes.proofs.MemberLemmas.{all_front, all_back}
use Rattle.sfc_routes.proofs.MeaningLemmas.{announced_fit}
use Rattle.session_machine.specs.declared.sides.Side.{Side}
use Rattle.session_machine.specs.declared.states.State.{State}
use Rattle.session_machine.specs.declared.states.State.TheVariants as states
use Rattle.session_machine.specs.declared.cores.Core.{Core}
use Rattle.session_machine.specs.declared.events.Effects.{Effects}
use Rattle.session_machine.specs.Spoken.{open_message}
use Rattle.session_machine.specs.Outcomes.{says, ends, refuses, out_of_order, takes_change, with_end}
use Rattle.session_machine.specs.Tables.{takes_open, TakesUpdate, TakesIn, TakesAll}
use Rattle.session_machine.specs.Timers.{timer_of, hold_in, later, Expired, Due, Keeps}
use Rattle.session_machine.specs.Readings.{Judges, refuses_in}
use Rattle.session_machine.specs.Events.{Happening, connects, comes, closes, IsHappening, Machine, core_of, stream_in, after, given, Reads, Uses, ComesIn, Steps}
use Rattle.session_machine.specs.Histories.{Runs}

-- what holds of the layers below: bytes are refused, or held, or begin with a message; a stream is cut, and its first messages
-- are the first of the cut; a content is an update or refused; and an update has a change
pub record Laws : Type 0 where
  pub three : (bytes : List ℕ) → AreBytes bytes → ((t : Told) × Refused bytes t) ⊎ (Held bytes ⊎ ((m : Message) × (more : List ℕ) × Fits m × (bytes ≡ spelling m ++ more)))
  pub cut : (stream : List ℕ) → AreBytes stream → (ms : List Message) × (rest : List ℕ) × Cuts stream ms rest
  pub first : (stream : List ℕ) (ms all : List Message) (x y : List ℕ) → stream ≡ flat_map spelling ms ++ x → AllByRecursion Fits ms → Cuts stream all y → (more : List Message) × (all ≡ ms ++ more)
  pub read : (bytes : List ℕ) → AreBytes bytes → ((u : Update) × IsUpdate bytes u) ⊎ ((place : ℕ) × UpdateRefused bytes place)
  pub change : (number : ℕ) (u : Update) → ((a : Attribute) → first_of 37 u ≡ Some a → BytesIn a.body) → (change : RouteChange) × ChangeOf number u change

-- ---- bytes

front_bytes : (xs ys : List ℕ) → AreBytes (xs ++ ys) → AreBytes xs
front_bytes xs ys h = All-from_recursion (λ b. b < 256) xs (all_front (λ b. b < 256) xs ys (recursion_from_All (λ b. b < 256) (xs ++ ys) h))

behind_bytes : (xs ys : List ℕ) → AreBytes (xs ++ ys) → AreBytes ys
behind_bytes xs ys h = All-from_recursion (λ b. b < 256) ys (all_back (λ b. b < 256) xs ys (recursion_from_All (λ b. b < 256) (xs ++ ys) h))

in_message : (m : Message) → AreBytes (spelling m) → AreBytes (content m)
unfolding spelling
in_message m h = All-tail (λ b. b < 256) (type_of m) (content m) (behind_bytes (replicate 16 255 ++ two (19 + length (content m))) (type_of m ∷ content m) h)

in_attribute : (a : Attribute) → AreBytes (attribute_bytes a) → AreBytes (body_bytes a.body)
in_attribute a h =
    let size : List ℕ = size_bytes a.flags (length (body_bytes a.body)) in
    behind_bytes (a.flags ∷ a.kind ∷ size) (body_bytes a.body) h

in_update : (u : Update) → AreBytes (update_bytes u) → AreBytes (attributes_bytes u.attributes)
in_update u h =
    let list : List ℕ = attributes_bytes u.attributes in
    let before : List ℕ = two (length u.withdrawn) ++ u.withdrawn ++ two (length list) in
    behind_bytes before list (front_bytes (before ++ list) u.nlri h)

in_body : (b : Body) → AreBytes (body_bytes b) → BytesIn b
in_body (bodies.Reach r) h = tt
in_body (bodies.Unreach w) h = tt
in_body (bodies.Communities cs) h = tt
in_body (bodies.Raw value) h = h

-- what is found, if something is
abbrev BytesOf : Option Attribute → Type 0
BytesOf None = Unit {0}
BytesOf (Some a) = BytesIn a.body

in_found : (kind : ℕ) (list : List Attribute) → AreBytes (attributes_bytes list) → BytesOf (find (λ (a : Attribute). eqb a.kind kind) list)
in_found kind [] h = tt
in_found kind (a ∷ list) h =
    cond_both (eqb a.kind kind) (Some a) (find (λ (b : Attribute). eqb b.kind kind) list) BytesOf
    (λ e. in_body a.body (in_attribute a (front_bytes (attribute_bytes a) (attributes_bytes list) h)))
    (λ e. in_found kind list (behind_bytes (attribute_bytes a) (attributes_bytes list) h))

-- ---- messages

some_update : Laws → (number : ℕ) (core : Core) (bytes : List ℕ) → AreBytes bytes → (next : Core) × TakesUpdate number core bytes next
some_update l number core bytes h =
    elim (l.read bytes h) [
      | inl read ↦
          let u : Update = read.0 in
          let is : IsUpdate bytes u = read.1 in
          let inside : AreBytes (attributes_bytes u.attributes) = in_update u (subst AreBytes is.spelled h) in
          let change = l.change number u (λ a e. subst BytesOf e (in_found 37 u.attributes inside)) in
          let meant : ChangeOf number u change.0 = change.1 in (
            takes_change number core change.0,
            inr (record {
              update = u;
              change = change.0;
              spelled = is;
              meant = meant;
              fits = subst (AllByRecursion RouteFits) (sym meant.announced) (announced_fit u meant.path meant.path_is);
              done = refl;
            }),
          )
      | inr refused ↦ (refuses number core 3 1 [], inl (record { place = refused.0; refused = refused.1; done = refl }))
    ]

some_message : Laws → (s : State) (side : Side) (core : Core) (m : Message) → AreBytes (content m) → (next : Core) × TakesIn s side core m next
some_message l states.Idle side core m h = (core, refl)
some_message l states.OpenSent side core (messages.Open o) h = (takes_open side core o, refl)
some_message l states.OpenSent side core (messages.Update u) h = (out_of_order side.peer core, refl)
some_message l states.OpenSent side core (messages.Notification n) h = (ends side.peer core, refl)
some_message l states.OpenSent side core messages.KeepAlive h = (out_of_order side.peer core, refl)
some_message l (states.OpenConfirm hold) side core (messages.Open o) h = (out_of_order side.peer core, refl)
some_message l (states.OpenConfirm hold) side core (messages.Update u) h = (out_of_order side.peer core, refl)
some_message l (states.OpenConfirm hold) side core (messages.Notification n) h = (ends side.peer core, refl)
some_message l (states.OpenConfirm hold) side core messages.KeepAlive h = (record core { state = states.Established hold }, refl)
some_message l (states.Established hold) side core (messages.Open o) h = (out_of_order side.peer core, refl)
some_message l (states.Established hold) side core (messages.Update u) h = some_update l side.peer core u h
some_message l (states.Established hold) side core (messages.Notification n) h = (ends side.peer core, refl)
some_message l (states.Established hold) side core messages.KeepAlive h = (core, refl)

some_taken : Laws → (side : Side) (core : Core) (ms : List Message) → AreBytes (flat_map spelling ms) → (next : Core) × TakesAll side core ms next
some_taken l side core [] h = (core, refl)
some_taken l side core (m ∷ ms) h =
    let mid = some_message l core.state side core m (in_message m (front_bytes (spelling m) (flat_map spelling ms) h)) in
    let rest = some_taken l side mid.0 ms (behind_bytes (spelling m) (flat_map spelling ms) h) in
    (rest.0, (mid.0, mid.1, rest.1))

-- ---- what follows the messages

some_judged : Laws → (number : ℕ) (rest : List ℕ) (core : Core) → AreBytes rest → BeginsNone rest → (next : Core) × Judges number rest core next
some_judged l number rest core h none =
    elim (l.three rest h) [
      | inl refused ↦ (refuses_in core.state number core refused.0, inr (refused.0, refused.1, refl))
      | inr others ↦ elim others [
        | inl held ↦ (core, inl (held, refl))
        | inr begins ↦ absurd (none begins.0 begins.1 begins.2 begins.3)
      ]
    ]

due_or_not : (core : Core) (sent moment : ℕ) → Due core sent moment ⊎ (Due core sent moment → ⊥)
due_or_not core sent moment =
    elim (cases_lt 0 (hold_in core.state)) [
      | inl set ↦ elim (cases_lt (moment - later core.bytes sent moment) (hold_in core.state / 3)) [
        | inl early ↦ inr (λ due. omega (arith, early, due.over))
        | inr over ↦ inl (record { set = set; over = over })
      ]
      | inr unset ↦ inr (λ due. omega (arith, unset, due.set))
    ]

some_kept : (sent moment : ℕ) (core : Core) → (next : Core) × Keeps sent moment core next
some_kept sent moment core =
    elim (due_or_not core sent moment) [
      | inl due ↦ (says core messages.KeepAlive, inl (due, refl))
      | inr not_due ↦ (core, inr (not_due, refl))
    ]

expired_or_not : (s : State) (last moment : ℕ) → Expired s last moment ⊎ (Expired s last moment → ⊥)
expired_or_not s last moment =
    elim (cases_lt 0 (timer_of s)) [
      | inl set ↦ elim (cases_lt (moment - last) (timer_of s)) [
        | inl early ↦ inr (λ expired. omega (arith, early, expired.over))
        | inr over ↦ inl (record { set = set; over = over })
      ]
      | inr unset ↦ inr (λ expired. omega (arith, unset, expired.set))
    ]

-- ---- events

stream_left : (s : State) (stream : List ℕ) → AreBytes stream → AreBytes (stream_in s stream)
stream_left states.Idle stream h = All-nil (λ b. b < 256)
stream_left states.OpenSent stream h = h
stream_left (states.OpenConfirm hold) stream h = h
stream_left (states.Established hold) stream h = h

some_reading : Laws → (side : Side) (old : Machine) (moment : ℕ) (piece : List ℕ) → AreBytes old.stream → AreBytes piece → (Expired old.state old.last moment → ⊥)
    → (effects : Effects) × (new : Machine) × Reads side old moment piece effects new × AreBytes new.stream
some_reading l side old moment piece before more in_time =
    let whole : AreBytes (old.stream ++ piece) = All-append (λ b. b < 256) old.stream piece before more in
    let earlier = l.cut old.stream before in
    let cut_before : Cuts old.stream earlier.0 earlier.1 = earlier.2 in
    let all = l.cut (old.stream ++ piece) whole in
    let split : old.stream ++ piece ≡ flat_map spelling earlier.0 ++ (earlier.1 ++ piece) =
    ap (λ (s : List ℕ). s ++ piece) cut_before.joined ∙ append_assoc (flat_map spelling earlier.0) earlier.1 piece in
    let further = l.first (old.stream ++ piece) earlier.0 all.0 (earlier.1 ++ piece) all.1 split cut_before.each all.2 in
    let news : List Message = further.0 in
    let cut : Cuts (old.stream ++ piece) (earlier.0 ++ news) all.1 = subst (λ (ms : List Message). Cuts (old.stream ++ piece) ms all.1) further.1 all.2 in
    let joined : AreBytes (flat_map spelling (earlier.0 ++ news) ++ all.1) = subst AreBytes cut.joined whole in
    let messages : AreBytes (flat_map spelling earlier.0 ++ flat_map spelling news) =
    subst AreBytes (flat_map-append spelling earlier.0 news) (front_bytes (flat_map spelling (earlier.0 ++ news)) all.1 joined) in
    let taken = some_taken l side (core_of old) news (behind_bytes (flat_map spelling earlier.0) (flat_map spelling news) messages) in
    let judged = some_judged l side.peer all.1 taken.0 (behind_bytes (flat_map spelling (earlier.0 ++ news)) all.1 joined) cut.ended in
    let kept = some_kept old.sent moment judged.0 in (
      given kept.0,
      after old moment (old.stream ++ piece) news kept.0,
      record {
        in_time = in_time;
        news = news;
        rest = all.1;
        brought = record { before = earlier.0; behind = earlier.1; cut_before = cut_before; cut = cut };
        taken = taken.0;
        takes = taken.1;
        judged = judged.0;
        judges = judged.1;
        kept = kept.0;
        keeps = kept.1;
        effects_are = refl;
        new_is = refl;
      },
      stream_left kept.0.state (old.stream ++ piece) whole,
    )

some_use : Laws → (side : Side) (old : Machine) (moment : ℕ) (piece : List ℕ) → AreBytes old.stream → AreBytes piece
    → (effects : Effects) × (new : Machine) × Uses side old moment piece effects new × AreBytes new.stream
some_use l side old moment piece before more =
    elim (expired_or_not old.state old.last moment) [
      | inl expired ↦ (
        given (refuses side.peer (core_of old) 4 0 []),
        after old moment [] [] (refuses side.peer (core_of old) 4 0 []),
        inl (record { expired = expired; effects_are = refl; new_is = refl }),
        All-nil (λ b. b < 256),
      )
      | inr in_time ↦
          let reading = some_reading l side old moment piece before more in_time in
          (reading.0, reading.1, inr reading.2, reading.3)
    ]

some_coming : Laws → (s : State) (side : Side) (old : Machine) (moment : ℕ) (piece : List ℕ) → AreBytes old.stream → AreBytes piece
    → (effects : Effects) × (new : Machine) × ComesIn s side old moment piece effects new × AreBytes new.stream
some_coming l states.Idle side old moment piece before more = (record { bytes = []; changes = [] }, old, record { effects_are = refl; new_is = refl }, before)
some_coming l states.OpenSent side old moment piece before more = some_use l side old moment piece before more
some_coming l (states.OpenConfirm hold) side old moment piece before more = some_use l side old moment piece before more
some_coming l (states.Established hold) side old moment piece before more = some_use l side old moment piece before more

some_step : Laws → (side : Side) (old : Machine) (event : Happening) → AreBytes old.stream → IsHappening event
    → (effects : Effects) × (new : Machine) × Steps side old event effects new × AreBytes new.stream
some_step l side old (connects moment) before h = (
  record { bytes = spelling (open_message side.local); changes = with_end side.peer old.state [] },
  record { state = states.OpenSent; last = moment; sent = moment; stream = []; nlris = [] },
  record { effects_are = refl; new_is = refl },
  All-nil (λ b. b < 256),
)
some_step l side old (comes moment piece) before h = some_coming l old.state side old moment piece before h
some_step l side old (closes moment) before h = (
  record { bytes = []; changes = with_end side.peer old.state [] },
  record { state = states.Idle; last = old.last; sent = old.sent; stream = []; nlris = [] },
  record { effects_are = refl; new_is = refl },
  All-nil (λ b. b < 256),
)

-- ---- histories

pub some_run : Laws → (side : Side) (start : Machine) (events : List Happening) → AreBytes start.stream → AllByRecursion IsHappening events
    → (given : List Effects) × (end : Machine) × Runs side start events given end
some_run l side start [] before h = ([], start, refl)
some_run l side start (e ∷ es) before h =
    let step = some_step l side start e before h.0 in
    let rest = some_run l side step.1 es step.3 h.1 in
    (step.0 ∷ rest.0, rest.1, (step.1, step.2, rest.2))
