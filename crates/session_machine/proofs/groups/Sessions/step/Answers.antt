-- The session of the peer takes the event, and the others stay.
use Rattle.std.proofs.Common.{◌≡◌, ℕ, List, [], ◌∷◌, ◌++◌, get_or, ap, sym, subst, ◌∙◌}
use Rattle.session_machine.specs.declared.machines.Session.{Session}
use Rattle.session_machine.specs.declared.sides.Side.{Side}
use Rattle.session_machine.specs.Events.{happening}
use Rattle.session_machine.specs.Sessions.{Stands}
use Rattle.session_machine.specs.Peers.{IsAt}
use Rattle.session_machine.specs.Groups.{events_of, effects_of, StandsIn}
use Rattle.session_machine.proofs.GroupLemmas.{all_stand, same_sides, still_has}
use Rattle.session_machine.proofs.groups.Sessions.step.Goals as goal

pub returns-in-Ok-clause-history : goal.returns-in-Ok-clause-history
returns-in-Ok-clause-history c = λ log s.
    let list = c.args.self.now.sessions.items in
    let at = c.place_of-at.result in
    let number = c.args.peer in
    let event = happening c.args.event in
    let effects = c.in-Ok.effects in
    let old = c.index_mut.result.now in
    let new = c.step.new.self in
    let place : IsAt number list at = subst (λ (l : List Session). IsAt number l at) c.deref.ensures.value c.place_of-at.ensures in
    let old_is : old ≡ get_or list at old = c.index_mut.ensures.value in
    let named : old.side.peer ≡ number = ap (λ (t : Session). t.side.peer) old_is ∙ place.1 old in
    let stood : StandsIn log old = subst (StandsIn log) (sym old_is) (s.each at old place.0) in
    let went : Stands new (events_of old.side.peer log ++ event ∷ []) (effects_of old.side.peer log ++ effects ∷ []) = c.in-Ok.ensures.history (events_of old.side.peer log) (effects_of old.side.peer log) stood in
    let stands : Stands new (events_of number log ++ event ∷ []) (effects_of number log ++ effects ∷ []) = subst (λ (n : ℕ). Stands new (events_of n log ++ event ∷ []) (effects_of n log ++ effects ∷ [])) named went in
    record {
      each = all_stand list at new number log event effects c.args.self.now.differ place s.each (ap (λ (t : Side). t.peer) c.in-Ok.ensures.side ∙ named) stands;
      works = c.if-self.false;
    }

pub returns-in-Ok-clause-sides : goal.returns-in-Ok-clause-sides
returns-in-Ok-clause-sides c =
    let list = c.args.self.now.sessions.items in
    let at = c.place_of-at.result in
    let old = c.index_mut.result.now in
    let place : IsAt c.args.peer list at = subst (λ (l : List Session). IsAt c.args.peer l at) c.deref.ensures.value c.place_of-at.ensures in
    same_sides list at old c.step.new.self place.0 c.index_mut.ensures.value c.in-Ok.ensures.side

pub returns-in-Err-clause-sides : goal.returns-in-Err-clause-sides
returns-in-Err-clause-sides c =
    let list = c.args.self.now.sessions.items in
    let at = c.place_of-at.result in
    let old = c.index_mut.result.now in
    let place : IsAt c.args.peer list at = subst (λ (l : List Session). IsAt c.args.peer l at) c.deref.ensures.value c.place_of-at.ensures in
    same_sides list at old c.step.new.self place.0 c.index_mut.ensures.value c.in-Err.ensures.side

pub returns-in-Ok-clause-changes : goal.returns-in-Ok-clause-changes
returns-in-Ok-clause-changes c = λ log s.
    let list = c.args.self.now.sessions.items in
    let at = c.place_of-at.result in
    let old = c.index_mut.result.now in
    let place : IsAt c.args.peer list at = subst (λ (l : List Session). IsAt c.args.peer l at) c.deref.ensures.value c.place_of-at.ensures in
    let stood : StandsIn log old = subst (StandsIn log) (sym c.index_mut.ensures.value) (s.each at old place.0) in
    c.in-Ok.ensures.changes (events_of old.side.peer log) (effects_of old.side.peer log) stood

pub returns-in-Ok-clause-peers : goal.returns-in-Ok-clause-peers
returns-in-Ok-clause-peers c =
    let list = c.args.self.now.sessions.items in
    let at = c.place_of-at.result in
    let old = c.index_mut.result.now in
    let place : IsAt c.args.peer list at = subst (λ (l : List Session). IsAt c.args.peer l at) c.deref.ensures.value c.place_of-at.ensures in
    still_has list at old c.step.new.self place.0 c.index_mut.ensures.value c.in-Ok.ensures.side

pub returns-in-Err-clause-peers : goal.returns-in-Err-clause-peers
returns-in-Err-clause-peers c =
    let list = c.args.self.now.sessions.items in
    let at = c.place_of-at.result in
    let old = c.index_mut.result.now in
    let place : IsAt c.args.peer list at = subst (λ (l : List Session). IsAt c.args.peer l at) c.deref.ensures.value c.place_of-at.ensures in
    still_has list at old c.step.new.self place.0 c.index_mut.ensures.value c.in-Err.ensures.side
