-- Every frame has a walk: each turn leads somewhere, and lowers the TTL.
use Rattle.std.proofs.Common.{◌≡◌, ℕ, zero, suc, ◌+◌, ◌≤◌, ◌≢◌, List, [], ◌∷◌, Some, arith, inl, inr, refl}
use Rattle.std.proofs.lemmas.Bool.{cases_eq}
use Rattle.wire_base.specs.declared.ids.ForwarderId.{ForwarderId}
use Rattle.wire_base.specs.declared.ids.InstanceId.{InstanceId}
use Rattle.net_frames.specs.Captured.{Captured}
use Rattle.nsh_headers.specs.Edit.{lowered}
use Rattle.path_selection.specs.Answers.{IsAnswer}
use Rattle.path_selection.specs.Paths.{ServicePath}
use Rattle.path_selection.specs.declared.answers.Answer.{Answer}
use Rattle.path_selection.specs.declared.answers.Answer.TheVariants as answer
use Rattle.record_text.specs.declared.records.End.{End}
use Rattle.record_text.specs.declared.records.End.TheVariants.{Bypass, Drop, Egress}
use Rattle.record_text.specs.declared.records.Reason.TheVariants as reason
use Rattle.service_functions.specs.declared.functions.Function.{Function}
use Rattle.classifier.specs.Stations.{Station, first_header, first_station}
use Rattle.classifier.specs.declared.verdicts.Verdict.{Verdict}
use Rattle.classifier.specs.declared.verdicts.Verdict.TheVariants as verdict
use Rattle.sfc_config.specs.Parts.{Parts}
use Rattle.forwarder.specs.Walks.{Ends, Follows, GoesOn, IsWalk, Outcome, Walk, WalkFrom, WalksBy, function_by, functions_of, handed, no_walk, reason_of, served}
use Rattle.forwarder.proofs.WalkSteps.{lowered_above, nears}
use Rattle.run_laws.specs.Lookups.{AreFirst}
use Rattle.run_laws.proofs.AnswerExists.{some_answer}
use Rattle.run_laws.proofs.ServiceExists.{some_reason}
use Rattle.run_laws.proofs.VerdictExists.{some_verdict}

-- ---- a turn

record Led (functions : List Function) (s : Station) (given : Answer) : Type 0 where
  outcome : Outcome
  follows : Follows functions s given outcome

-- at this forwarder the instance has a reason to drop the frame, or passes it
at_own : (functions : List Function) (s : Station) (at : ℕ) (other : ForwarderId) (instance : InstanceId) → other ≡ s.forwarder → Led functions s (answer.At at other instance)
at_own functions s at other instance own = elim (some_reason (function_by functions instance) s.frame s.header.context) [
  | inl drops ↦ record { outcome = Ends (Drop (reason_of drops.0 instance)) _; follows = (own, drops.0, drops.1, refl, refl) }
  | inr none ↦ record { outcome = GoesOn (served functions s at instance); follows = inr (own, none, refl) }
]

led : (functions : List Function) (s : Station) (given : Answer) → Led functions s given
led functions s answer.NoPath = record { outcome = Ends (Drop reason.NoPath) s.visits; follows = refl }
led functions s (answer.NoInstance at) = record { outcome = Ends (Drop (reason.NoInstance at)) s.visits; follows = refl }
led functions s answer.Ended = record { outcome = Ends Egress s.visits; follows = refl }
led functions s (answer.At at other instance) = elim (cases_eq other.0 s.forwarder.0) [
  | inl own ↦ at_own functions s at other instance (λ k. record { 0 = own k })
  | inr apart ↦ record { outcome = GoesOn (handed s at other); follows = inl (λ same. apart (λ k. (same k).0), refl) }
]

-- ---- from a station on

record Walked (functions : List Function) (s : Station) (at : ℕ → List ServicePath) : Type 0 where
  later : List Station
  tables : List (List ServicePath)
  end : End
  visits : List InstanceId
  walk : WalkFrom functions s later tables end visits
  first : AreFirst at tables

spent : (functions : List Function) (s : Station) (at : ℕ → List ServicePath) → lowered s.header.head.base.ttl ≡ 0 → Walked functions s at
spent functions s at is = record { later = []; tables = []; end = Drop reason.Ttl; visits = s.visits; walk = (is, refl, refl); first = tt }

ends : (functions : List Function) (s : Station) (at : ℕ → List ServicePath) (given : Answer) (end : End) (visits : List InstanceId) → lowered s.header.head.base.ttl ≢ 0
    → IsAnswer (at 0) s.header.head.path.spi s.header.head.path.si given → Follows functions s given (Ends end visits) → Walked functions s at
ends functions s at given end visits alive answered follows = record {
  later = [];
  tables = at 0 ∷ [];
  end = end;
  visits = visits;
  walk = record { alive = alive; answer = given; answered = answered; follows = follows };
  first = (refl, tt);
}

-- where the walk goes on, it goes on from the next station with the lowered TTL
goes_on : (n : ℕ) (functions : List Function) (s : Station) (at : ℕ → List ServicePath) (given : Answer) → lowered s.header.head.base.ttl ≢ 0 → lowered s.header.head.base.ttl ≤ suc n
    → IsAnswer (at 0) s.header.head.path.spi s.header.head.path.si given
    → ((next : Station) → lowered next.header.head.base.ttl ≤ n → Walked functions next (λ k. at (k + 1)))
    → (outcome : Outcome) → Follows functions s given outcome → Walked functions s at
goes_on n functions s at given alive few answered more (Ends end visits) follows = ends functions s at given end visits alive answered follows
goes_on n functions s at given alive few answered more (GoesOn next) follows =
    let ttl = (nears functions s next given follows).ttl in
    let low = lowered_above next.header.head.base.ttl (omega (arith, ttl, alive)) in
    let rest = more next (omega (arith, low, ttl, few, alive)) in
    record {
      later = next ∷ rest.later;
      tables = at 0 ∷ rest.tables;
      end = rest.end;
      visits = rest.visits;
      walk = (record { alive = alive; answer = given; answered = answered; follows = follows }, rest.walk);
      first = (refl, rest.first);
    }

-- the lowered TTL is at most n
walked : (n : ℕ) (functions : List Function) (s : Station) (at : ℕ → List ServicePath) → lowered s.header.head.base.ttl ≤ n → Walked functions s at
walked zero functions s at few = spent functions s at (omega (arith, few))
walked (suc n) functions s at few = elim (cases_eq (lowered s.header.head.base.ttl) 0) [
  | inl is ↦ spent functions s at is
  | inr alive ↦
      let given = some_answer (at 0) s.header.head.path.spi s.header.head.path.si in
      let to = led functions s given.0 in
      goes_on n functions s at given.0 alive few given.1 (λ next low. walked n functions next (λ k. at (k + 1)) low) to.outcome to.follows
]

-- ---- a frame

record WalksSo (setup : Parts) (frame : Captured) (at : ℕ → List ServicePath) (v : Verdict) : Type 0 where
  walk : Walk
  by : WalksBy setup frame v walk
  first : AreFirst at walk.tables

walks_by : (setup : Parts) (frame : Captured) (at : ℕ → List ServicePath) (v : Verdict) → WalksSo setup frame at v
walks_by setup frame at (verdict.Path spi si ttl context) =
    let first = first_station setup.ingress frame (first_header spi si ttl context) in
    let all = walked (lowered ttl) (functions_of setup.instances) first at (omega arith) in
    record {
      walk = record { stations = first ∷ all.later; tables = all.tables; path = Some spi; visits = all.visits; end = all.end };
      by = (all.later, refl, refl, all.walk);
      first = all.first;
    }
walks_by setup frame at verdict.Bypass = record { walk = no_walk Bypass; by = refl; first = tt }
walks_by setup frame at verdict.Refuse = record { walk = no_walk (Drop reason.Rule); by = refl; first = tt }
walks_by setup frame at verdict.NshIngress = record { walk = no_walk (Drop reason.NshIngress); by = refl; first = tt }

pub some_walk : (setup : Parts) (frame : Captured) (at : ℕ → List ServicePath) → (walk : Walk) × IsWalk setup frame walk × AreFirst at walk.tables
some_walk setup frame at =
    let v = some_verdict setup.rules frame.bytes in
    let so = walks_by setup frame at v.0 in
    (so.walk, record { verdict = v.0; begins = v.1; walks = so.by }, so.first)
