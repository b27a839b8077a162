-- Every change that a session gives is one that a list of routes takes.
use Rattle.std.proofs.Common.{◌≡◌, ℕ, Bool, true, false, cond, nat_le, List, [], ◌∷◌, ◌++◌, length, sym, subst, inl, inr}
use Rattle.std.specs.List.{AllByRecursion}
use Rattle.bgp_messages.specs.declared.messages.Message.{Message}
use Rattle.bgp_messages.specs.declared.messages.Message.TheVariants as messages
use Rattle.bgp_messages.specs.declared.opens.Open.{Open}
use Rattle.bgp_messages.specs.Refusals.{Told}
use Rattle.sfc_routes.specs.declared.route_changes.RouteChange.{RouteChange}
use Rattle.sfc_routes.specs.PeerRoutes.{IsRouteChange}
use Rattle.session_machine.specs.declared.sides.Side.{Side}
use Rattle.session_machine.specs.declared.states.State.{State}
use Rattle.session_machine.specs.declared.states.State.TheVariants as states
use Rattle.session_machine.specs.declared.cores.Core.{Core}
use Rattle.session_machine.specs.declared.events.Effects.{Effects}
use Rattle.session_machine.specs.KnownRoutes.{after_change}
use Rattle.session_machine.specs.Outcomes.{with_end, refuses, takes_change}
use Rattle.session_machine.specs.Tables.{takes_open, TakesUpdate, TakesIn, TakesAll}
use Rattle.session_machine.specs.Timers.{Keeps}
use Rattle.session_machine.specs.Readings.{Judges, refuses_in}
use Rattle.session_machine.specs.Events.{Happening, connects, comes, closes, Machine, core_of, Uses, ComesIn, Steps}
use Rattle.session_machine.specs.Histories.{Runs}

abbrev pub Fit : List RouteChange → Type 0
Fit changes = AllByRecursion IsRouteChange changes

one_more : (changes : List RouteChange) (c : RouteChange) → Fit changes → IsRouteChange c → Fit (changes ++ c ∷ [])
one_more [] c fit one = (one, tt)
one_more (x ∷ xs) c fit one = (fit.0, one_more xs c fit.1 one)

at_end : (number : ℕ) (s : State) (changes : List RouteChange) → Fit changes → Fit (with_end number s changes)
at_end number states.Idle changes fit = fit
at_end number states.OpenSent changes fit = fit
at_end number (states.OpenConfirm hold) changes fit = fit
at_end number (states.Established hold) changes fit = one_more changes _ fit tt

is : (k next : Core) → next ≡ k → Fit k.changes → Fit next.changes
is k next e fit = subst (λ (c : Core). Fit c.changes) (sym e) fit

either : (b : Bool) (x y : Core) → Fit x.changes → Fit y.changes → Fit (cond b x y).changes
either true x y fx fy = fx
either false x y fx fy = fy

of_open : (side : Side) (core : Core) (o : Open) → Fit core.changes → Fit (takes_open side core o).changes
of_open side core o fit = either _ _ (refuses side.peer core 2 2 []) fit (at_end side.peer core.state core.changes fit)

of_change : (number : ℕ) (core : Core) (change : RouteChange) → IsRouteChange change → Fit core.changes → Fit (takes_change number core change).changes
of_change number core change one fit = either (nat_le (length (after_change core.nlris change)) 1024) _ _ (one_more core.changes change fit one) (at_end number core.state core.changes fit)

of_update : (number : ℕ) (core : Core) (content : List ℕ) (next : Core) → TakesUpdate number core content next → Fit core.changes → Fit next.changes
of_update number core content next (inl x) fit = is _ next x.done (at_end number core.state core.changes fit)
of_update number core content next (inr x) fit = is _ next x.done (of_change number core x.change x.fits fit)

of_message : (s : State) (side : Side) (core : Core) (m : Message) (next : Core) → TakesIn s side core m next → Fit core.changes → Fit next.changes
of_message states.Idle side core m next e fit = is core next e fit
of_message states.OpenSent side core (messages.Open o) next e fit = is _ next e (of_open side core o fit)
of_message states.OpenSent side core (messages.Update u) next e fit = is _ next e (at_end side.peer core.state core.changes fit)
of_message states.OpenSent side core (messages.Notification n) next e fit = is _ next e (at_end side.peer core.state core.changes fit)
of_message states.OpenSent side core messages.KeepAlive next e fit = is _ next e (at_end side.peer core.state core.changes fit)
of_message (states.OpenConfirm hold) side core (messages.Open o) next e fit = is _ next e (at_end side.peer core.state core.changes fit)
of_message (states.OpenConfirm hold) side core (messages.Update u) next e fit = is _ next e (at_end side.peer core.state core.changes fit)
of_message (states.OpenConfirm hold) side core (messages.Notification n) next e fit = is _ next e (at_end side.peer core.state core.changes fit)
of_message (states.OpenConfirm hold) side core messages.KeepAlive next e fit = is _ next e fit
of_message (states.Established hold) side core (messages.Open o) next e fit = is _ next e (at_end side.peer core.state core.changes fit)
of_message (states.Established hold) side core (messages.Update u) next e fit = of_update side.peer core u next e fit
of_message (states.Established hold) side core (messages.Notification n) next e fit = is _ next e (at_end side.peer core.state core.changes fit)
of_message (states.Established hold) side core messages.KeepAlive next e fit = is _ next e fit

of_messages : (side : Side) (core : Core) (ms : List Message) (next : Core) → TakesAll side core ms next → Fit core.changes → Fit next.changes
of_messages side core [] next e fit = is core next e fit
of_messages side core (m ∷ ms) next x fit = of_messages side x.0 ms next x.2 (of_message core.state side core m x.0 x.1 fit)

of_refusal : (s : State) (number : ℕ) (core : Core) (t : Told) → Fit core.changes → Fit (refuses_in s number core t).changes
of_refusal states.Idle number core t fit = fit
of_refusal states.OpenSent number core t fit = at_end number core.state core.changes fit
of_refusal (states.OpenConfirm hold) number core t fit = at_end number core.state core.changes fit
of_refusal (states.Established hold) number core t fit = at_end number core.state core.changes fit

of_judging : (number : ℕ) (rest : List ℕ) (core next : Core) → Judges number rest core next → Fit core.changes → Fit next.changes
of_judging number rest core next (inl x) fit = is core next x.1 fit
of_judging number rest core next (inr x) fit = is _ next x.2 (of_refusal core.state number core x.0 fit)

of_keeping : (sent moment : ℕ) (core next : Core) → Keeps sent moment core next → Fit core.changes → Fit next.changes
of_keeping sent moment core next (inl x) fit = is _ next x.1 fit
of_keeping sent moment core next (inr x) fit = is core next x.1 fit

given_are : (f g : Effects) → f ≡ g → Fit g.changes → Fit f.changes
given_are f g e fit = subst (λ (h : Effects). Fit h.changes) (sym e) fit

of_use : (side : Side) (old : Machine) (moment : ℕ) (piece : List ℕ) (f : Effects) (m : Machine) → Uses side old moment piece f m → Fit f.changes
of_use side old moment piece f m (inl x) = given_are f _ x.effects_are (at_end side.peer old.state [] tt)
of_use side old moment piece f m (inr x) =
    given_are f _ x.effects_are (of_keeping old.sent moment x.judged x.kept x.keeps (of_judging side.peer x.rest x.taken x.judged x.judges (of_messages side (core_of old) x.news x.taken x.takes tt)))

of_coming : (s : State) (side : Side) (old : Machine) (moment : ℕ) (piece : List ℕ) (f : Effects) (m : Machine) → ComesIn s side old moment piece f m → Fit f.changes
of_coming states.Idle side old moment piece f m x = given_are f _ x.effects_are tt
of_coming states.OpenSent side old moment piece f m x = of_use side old moment piece f m x
of_coming (states.OpenConfirm hold) side old moment piece f m x = of_use side old moment piece f m x
of_coming (states.Established hold) side old moment piece f m x = of_use side old moment piece f m x

pub of_step : (side : Side) (old : Machine) (event : Happening) (f : Effects) (m : Machine) → Steps side old event f m → Fit f.changes
of_step side old (connects moment) f m x = given_are f _ x.effects_are (at_end side.peer old.state [] tt)
of_step side old (comes moment piece) f m x = of_coming old.state side old moment piece f m x
of_step side old (closes moment) f m x = given_are f _ x.effects_are (at_end side.peer old.state [] tt)

pub of_run : (side : Side) (start : Machine) (events : List Happening) (given : List Effects) (end : Machine) → Runs side start events given end → AllByRecursion (λ (f : Effects). Fit f.changes) given
of_run side start [] [] end x = tt
of_run side start (e ∷ es) (f ∷ fs) end x = (of_step side start e f x.0 x.1, of_run side x.0 es fs end x.2)
of_run side start [] (f ∷ fs) end x = absurd x
of_run side start (e ∷ es) [] end x = absurd x
