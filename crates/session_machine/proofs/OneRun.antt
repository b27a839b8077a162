-- Two runs of the machine over one list of events are one.
use Rattle.std.proofs.Common.{◌≡◌, ℕ, List, [], ◌∷◌, ◌++◌, refl, sym, ap, subst, ◌∙◌, inl, inr}
use Rattle.std.proofs.lemmas.List.{append_cancel_left}
use Rattle.bgp_messages.specs.declared.messages.Message.{Message}
use Rattle.bgp_messages.specs.declared.messages.Message.TheVariants as messages
use Rattle.bgp_messages.specs.Messages.{Cuts}
use Rattle.bgp_messages.specs.Refusals.{Told, Refused}
use Rattle.bgp_update.specs.declared.updates.Update.{Update}
use Rattle.bgp_update.specs.Updates.{IsUpdate}
use Rattle.bgp_update.specs.Refusals.{Refused as UpdateRefused}
use Rattle.sfc_routes.specs.declared.route_changes.RouteChange.{RouteChange}
use Rattle.sfc_routes.specs.Meanings.{ChangeOf}
use Rattle.session_machine.specs.declared.sides.Side.{Side}
use Rattle.session_machine.specs.declared.states.State.{State}
use Rattle.session_machine.specs.declared.states.State.TheVariants as states
use Rattle.session_machine.specs.declared.cores.Core.{Core}
use Rattle.session_machine.specs.declared.events.Effects.{Effects}
use Rattle.session_machine.specs.Outcomes.{takes_change}
use Rattle.session_machine.specs.Tables.{TakesUpdate, TakesIn, TakesAll}
use Rattle.session_machine.specs.Timers.{Keeps}
use Rattle.session_machine.specs.Readings.{Judges, refuses_in}
use Rattle.session_machine.specs.Events.{Happening, connects, comes, closes, Machine, core_of, after, given, Reads, Uses, ComesIn, Steps}
use Rattle.session_machine.specs.Histories.{Runs}

-- what holds of the layers below: one cut, one refusal, one update or none, one change
pub record Laws : Type 0 where
  pub cut : (stream : List ℕ) (ms ns : List Message) (x y : List ℕ) → Cuts stream ms x → Cuts stream ns y → (ms ≡ ns) × (x ≡ y)
  pub refusal : (bytes : List ℕ) (s t : Told) → Refused bytes s → Refused bytes t → s ≡ t
  pub update : (bytes : List ℕ) (u v : Update) → IsUpdate bytes u → IsUpdate bytes v → u ≡ v
  pub never_both : (bytes : List ℕ) (u : Update) (place : ℕ) → IsUpdate bytes u → UpdateRefused bytes place → ⊥
  pub change : (number : ℕ) (u : Update) (a b : RouteChange) → ChangeOf number u a → ChangeOf number u b → a ≡ b

-- ---- messages

one_update : Laws → (number : ℕ) (core : Core) (content : List ℕ) (a b : Core) → TakesUpdate number core content a → TakesUpdate number core content b → a ≡ b
one_update l number core content a b (inl x) (inl y) = x.done ∙ sym y.done
one_update l number core content a b (inl x) (inr y) = absurd (l.never_both content y.update x.place y.spelled x.refused)
one_update l number core content a b (inr x) (inl y) = absurd (l.never_both content x.update y.place x.spelled y.refused)
one_update l number core content a b (inr x) (inr y) =
    let meant : ChangeOf number y.update x.change = subst (λ (u : Update). ChangeOf number u x.change) (l.update content x.update y.update x.spelled y.spelled) x.meant in
    x.done ∙ ap (λ (c : RouteChange). takes_change number core c) (l.change number y.update x.change y.change meant y.meant) ∙ sym y.done

one_message : Laws → (s : State) (side : Side) (core : Core) (m : Message) (a b : Core) → TakesIn s side core m a → TakesIn s side core m b → a ≡ b
one_message l states.Idle side core m a b x y = x ∙ sym y
one_message l states.OpenSent side core (messages.Open o) a b x y = x ∙ sym y
one_message l states.OpenSent side core (messages.Update u) a b x y = x ∙ sym y
one_message l states.OpenSent side core (messages.Notification n) a b x y = x ∙ sym y
one_message l states.OpenSent side core messages.KeepAlive a b x y = x ∙ sym y
one_message l (states.OpenConfirm hold) side core (messages.Open o) a b x y = x ∙ sym y
one_message l (states.OpenConfirm hold) side core (messages.Update u) a b x y = x ∙ sym y
one_message l (states.OpenConfirm hold) side core (messages.Notification n) a b x y = x ∙ sym y
one_message l (states.OpenConfirm hold) side core messages.KeepAlive a b x y = x ∙ sym y
one_message l (states.Established hold) side core (messages.Open o) a b x y = x ∙ sym y
one_message l (states.Established hold) side core (messages.Update u) a b x y = one_update l side.peer core u a b x y
one_message l (states.Established hold) side core (messages.Notification n) a b x y = x ∙ sym y
one_message l (states.Established hold) side core messages.KeepAlive a b x y = x ∙ sym y

one_taken : Laws → (side : Side) (core : Core) (ms : List Message) (a b : Core) → TakesAll side core ms a → TakesAll side core ms b → a ≡ b
one_taken l side core [] a b x y = x ∙ sym y
one_taken l side core (m ∷ ms) a b x y =
    let mid : x.0 ≡ y.0 = one_message l core.state side core m x.0 y.0 x.1 y.1 in
    one_taken l side y.0 ms a b (subst (λ (k : Core). TakesAll side k ms a) mid x.2) y.2

-- ---- what follows the messages

one_judged : Laws → (number : ℕ) (rest : List ℕ) (core a b : Core) → Judges number rest core a → Judges number rest core b → a ≡ b
one_judged l number rest core a b (inl x) (inl y) = x.1 ∙ sym y.1
one_judged l number rest core a b (inl x) (inr y) = absurd (x.0.accepted y.0 y.1)
one_judged l number rest core a b (inr x) (inl y) = absurd (y.0.accepted x.0 x.1)
one_judged l number rest core a b (inr x) (inr y) = x.2 ∙ ap (λ (t : Told). refuses_in core.state number core t) (l.refusal rest x.0 y.0 x.1 y.1) ∙ sym y.2

one_kept : (sent moment : ℕ) (core a b : Core) → Keeps sent moment core a → Keeps sent moment core b → a ≡ b
one_kept sent moment core a b (inl x) (inl y) = x.1 ∙ sym y.1
one_kept sent moment core a b (inl x) (inr y) = absurd (y.0 x.0)
one_kept sent moment core a b (inr x) (inl y) = absurd (x.0 y.0)
one_kept sent moment core a b (inr x) (inr y) = x.1 ∙ sym y.1

-- ---- events

abbrev Same : Effects → Effects → Machine → Machine → Type 0
Same f g m n = (f ≡ g) × (m ≡ n)

one_reading : Laws → (side : Side) (old : Machine) (moment : ℕ) (piece : List ℕ) (f g : Effects) (m n : Machine) → Reads side old moment piece f m → Reads side old moment piece g n → Same f g m n
one_reading l side old moment piece f g m n x y =
    let befores : x.brought.before ≡ y.brought.before = (l.cut old.stream x.brought.before y.brought.before x.brought.behind y.brought.behind x.brought.cut_before y.brought.cut_before).0 in
    let cuts = l.cut (old.stream ++ piece) (x.brought.before ++ x.news) (y.brought.before ++ y.news) x.rest y.rest x.brought.cut y.brought.cut in
    let news : x.news ≡ y.news = append_cancel_left y.brought.before x.news y.news (subst (λ (b : List Message). b ++ x.news ≡ y.brought.before ++ y.news) befores cuts.0) in
    let taken : x.taken ≡ y.taken = one_taken l side (core_of old) y.news x.taken y.taken (subst (λ (ms : List Message). TakesAll side (core_of old) ms x.taken) news x.takes) y.takes in
    let judges : Judges side.peer y.rest y.taken x.judged = subst (λ (k : Core). Judges side.peer y.rest k x.judged) taken (subst (λ (r : List ℕ). Judges side.peer r x.taken x.judged) cuts.1 x.judges) in
    let judged : x.judged ≡ y.judged = one_judged l side.peer y.rest y.taken x.judged y.judged judges y.judges in
    let kept : x.kept ≡ y.kept = one_kept old.sent moment y.judged x.kept y.kept (subst (λ (k : Core). Keeps old.sent moment k x.kept) judged x.keeps) y.keeps in (
      x.effects_are ∙ ap (λ (k : Core). given k) kept ∙ sym y.effects_are,
      x.new_is ∙ ap (λ (k : Core). after old moment (old.stream ++ piece) x.news k) kept ∙ ap (λ (ms : List Message). after old moment (old.stream ++ piece) ms y.kept) news ∙ sym y.new_is,
    )

one_use : Laws → (side : Side) (old : Machine) (moment : ℕ) (piece : List ℕ) (f g : Effects) (m n : Machine) → Uses side old moment piece f m → Uses side old moment piece g n → Same f g m n
one_use l side old moment piece f g m n (inl x) (inl y) = (x.effects_are ∙ sym y.effects_are, x.new_is ∙ sym y.new_is)
one_use l side old moment piece f g m n (inl x) (inr y) = absurd (y.in_time x.expired)
one_use l side old moment piece f g m n (inr x) (inl y) = absurd (x.in_time y.expired)
one_use l side old moment piece f g m n (inr x) (inr y) = one_reading l side old moment piece f g m n x y

one_coming : Laws → (s : State) (side : Side) (old : Machine) (moment : ℕ) (piece : List ℕ) (f g : Effects) (m n : Machine) → ComesIn s side old moment piece f m → ComesIn s side old moment piece g n → Same f g m n
one_coming l states.Idle side old moment piece f g m n x y = (x.effects_are ∙ sym y.effects_are, x.new_is ∙ sym y.new_is)
one_coming l states.OpenSent side old moment piece f g m n x y = one_use l side old moment piece f g m n x y
one_coming l (states.OpenConfirm hold) side old moment piece f g m n x y = one_use l side old moment piece f g m n x y
one_coming l (states.Established hold) side old moment piece f g m n x y = one_use l side old moment piece f g m n x y

one_step : Laws → (side : Side) (old : Machine) (event : Happening) (f g : Effects) (m n : Machine) → Steps side old event f m → Steps side old event g n → Same f g m n
one_step l side old (connects moment) f g m n x y = (x.effects_are ∙ sym y.effects_are, x.new_is ∙ sym y.new_is)
one_step l side old (comes moment piece) f g m n x y = one_coming l old.state side old moment piece f g m n x y
one_step l side old (closes moment) f g m n x y = (x.effects_are ∙ sym y.effects_are, x.new_is ∙ sym y.new_is)

-- ---- histories

pub one_run : Laws → (side : Side) (start : Machine) (events : List Happening) (fs gs : List Effects) (m n : Machine) → Runs side start events fs m → Runs side start events gs n → (fs ≡ gs) × (m ≡ n)
one_run l side start [] [] [] m n x y = (refl, x ∙ sym y)
one_run l side start (e ∷ es) (f ∷ fs) (g ∷ gs) m n x y =
    let first = one_step l side start e f g x.0 y.0 x.1 y.1 in
    let rest = one_run l side y.0 es fs gs m n (subst (λ (k : Machine). Runs side k es fs m) first.1 x.2) y.2 in
    (ap (λ (h : Effects). h ∷ fs) first.0 ∙ ap (λ (hs : List Effects). g ∷ hs) rest.0, rest.1)
one_run l side start [] (f ∷ fs) gs m n x y = absurd x
one_run l side start [] [] (g ∷ gs) m n x y = absurd y
one_run l side start (e ∷ es) [] gs m n x y = absurd x
one_run l side start (e ∷ es) (f ∷ fs) [] m n x y = absurd y
