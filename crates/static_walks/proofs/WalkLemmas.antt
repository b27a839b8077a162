-- Where a walk over a static path stands while it is under way, and what each of its turns does.
use Rattle.std.proofs.Common.{◌≡◌, ◌≢◌, ℕ, suc, ◌-◌, List, [], ◌∷◌, refl, sym, ap, ◌∙◌, subst, inl, inr}
use Rattle.nsh_headers.specs.Edit.{lowered, with_si, with_ttl}
use Rattle.nsh_headers.specs.Head.{IsHead}
use Rattle.wire_base.specs.declared.ids.ForwarderId.{ForwarderId}
use Rattle.wire_base.specs.declared.ids.InstanceId.{InstanceId}
use Rattle.net_frames.specs.Captured.{Captured}
use Rattle.service_functions.specs.declared.answers.Why.{Why}
use Rattle.path_selection.specs.Answers.{IsAnswer}
use Rattle.path_selection.specs.declared.answers.Answer.{Answer}
use Rattle.path_selection.specs.declared.answers.Answer.TheVariants.{At}
use Rattle.record_text.specs.declared.records.End.{End}
use Rattle.record_text.specs.declared.records.End.TheVariants.{Drop}
use Rattle.record_text.specs.declared.records.Reason.TheVariants.{Ttl}
use Rattle.classifier.specs.Stations.{Station, first_station}
use Rattle.forwarder.specs.Walks.{DropsAt, Ends, Follows, GoesOn, IsSpent, Turn}
use Rattle.static_walks.specs.TurnSteps.{GoesOnAt, IsOwnHop, next_station, own_instance}
use Rattle.static_walks.specs.Walks.{WalksOn, WalksTo, here, static_header, static_table}

-- ---- turns

-- no instance has a reason to drop a frame
pub none_drops : (s : Station) (instance : InstanceId) (w : Why) → DropsAt [] s instance w → ⊥
none_drops s instance w (inl by_frame) = by_frame
none_drops s instance w (inr by_context) = by_context

-- the TTL is spent
pub spent_at : (spi count ttl : ℕ) (s : Station) → ttl ≡ lowered s.header.head.base.ttl → ttl ≡ 0 → WalksOn spi count s (Drop Ttl)
spent_at spi count ttl s ttl_is none = record { later = []; lookups = 0; visits = s.visits; walk = (sym ttl_is ∙ none, refl, refl) }

-- the table's answer, as it is asked, is that for the packet
asked_is : (spi count asked_spi asked_si : ℕ) (s : Station) (answer : Answer) → asked_spi ≡ s.header.head.path.spi → asked_si ≡ s.header.head.path.si → IsAnswer (static_table spi count) asked_spi asked_si answer → IsAnswer (static_table spi count) s.header.head.path.spi s.header.head.path.si answer
asked_is spi count asked_spi asked_si s answer spi_is si_is answered =
    subst (λ x. IsAnswer (static_table spi count) s.header.head.path.spi x answer) si_is
    (subst (λ x. IsAnswer (static_table spi count) x asked_si answer) spi_is answered)

-- the answer ends the walk
pub ended_at : (spi count ttl asked_spi asked_si : ℕ) (s : Station) (answer : Answer) (end : End) → ttl ≡ lowered s.header.head.base.ttl → ttl ≢ 0 → asked_spi ≡ s.header.head.path.spi → asked_si ≡ s.header.head.path.si → IsAnswer (static_table spi count) asked_spi asked_si answer → Follows [] s answer (Ends end s.visits) → WalksOn spi count s end
ended_at spi count ttl asked_spi asked_si s answer end ttl_is alive spi_is si_is answered follows = record {
  later = [];
  lookups = 1;
  visits = s.visits;
  walk = record {
    alive = λ spent. alive (ttl_is ∙ spent);
    answer = answer;
    answered = asked_is spi count asked_spi asked_si s answer spi_is si_is answered;
    follows = follows;
  };
}

-- the hop of the packet's index serves it
pub own_turn : (spi count : ℕ) (s : Station) → s.forwarder ≡ here → (IsSpent s → ⊥) → IsAnswer (static_table spi count) s.header.head.path.spi s.header.head.path.si (At s.header.head.path.si here (own_instance s.header.head.path.si)) → Turn [] (static_table spi count) s (GoesOn (next_station s))
own_turn spi count s home alive answered = record {
  alive = alive;
  answer = At s.header.head.path.si here (own_instance s.header.head.path.si);
  answered = answered;
  follows = inr (sym home, (λ w drops. none_drops s (own_instance s.header.head.path.si) w drops), refl);
}

-- so says what the bytes and the table say
pub turn_served : (spi count : ℕ) (s : Station) (next : List ℕ) (ttl at asked_spi asked_si : ℕ) (forwarder : ForwarderId) (instance : InstanceId) → s.forwarder ≡ here → ttl ≡ lowered s.header.head.base.ttl → ttl ≢ 0 → asked_spi ≡ s.header.head.path.spi → asked_si ≡ s.header.head.path.si → IsAnswer (static_table spi count) asked_spi asked_si (At at forwarder instance) → IsOwnHop asked_si (At at forwarder instance) → IsHead next (with_si (with_ttl s.header.head ttl) (at - 1)) → GoesOnAt spi count s next
turn_served spi count s next ttl at asked_spi asked_si forwarder instance home ttl_is alive spi_is si_is answer own spelled =
    let table = static_table spi count in
    let at_is : at ≡ s.header.head.path.si = own.1 ∙ si_is in
    let instance_is : instance ≡ own_instance s.header.head.path.si = own.3 ∙ ap own_instance si_is in
    let asked = asked_is spi count asked_spi asked_si s (At at forwarder instance) spi_is si_is answer in
    let by_at = subst (λ x. IsAnswer table s.header.head.path.spi s.header.head.path.si (At x forwarder instance)) at_is asked in
    let by_forwarder = subst (λ x. IsAnswer table s.header.head.path.spi s.header.head.path.si (At s.header.head.path.si x instance)) own.2 by_at in
    let by_instance = subst (λ x. IsAnswer table s.header.head.path.spi s.header.head.path.si (At s.header.head.path.si here x)) instance_is by_forwarder in
    let with_new_ttl = subst (λ t. IsHead next (with_si (with_ttl s.header.head t) (at - 1))) ttl_is spelled in
    record {
      turn = own_turn spi count s home (λ spent. alive (ttl_is ∙ spent)) by_instance;
      spelled = subst (λ a. IsHead next (with_si (with_ttl s.header.head (lowered s.header.head.base.ttl)) (a - 1))) at_is with_new_ttl;
    }

-- ---- walks

-- a walk behind one turn more
pub turn_before : (spi count : ℕ) (s next : Station) (end : End) → Turn [] (static_table spi count) s (GoesOn next) → WalksOn spi count next end → WalksOn spi count s end
turn_before spi count s next end turn w = record { later = next ∷ w.later; lookups = suc w.lookups; visits = w.visits; walk = (turn, w.walk) }

-- a station whose header's front is these bytes, from which every walk is one from the first station
pub record Stands (spi count : ℕ) (frame : Captured) (header : List ℕ) : Type 0 where
  pub at : Station
  pub spelled : IsHead header at.header.head
  pub home : at.forwarder ≡ here
  pub whole : (end : End) → WalksOn spi count at end → WalksTo spi count frame end

-- the first station
pub stands_first : (spi count : ℕ) (frame : Captured) (header : List ℕ) → IsHead header (static_header spi).head → Stands spi count frame header
stands_first spi count frame header spelled = record {
  at = first_station here frame (static_header spi);
  spelled = spelled;
  home = refl;
  whole = λ end walk. walk;
}

-- the station after a turn
pub stands_next : (spi count : ℕ) (frame : Captured) (header next : List ℕ) → (s : Stands spi count frame header) → GoesOnAt spi count s.at next → Stands spi count frame next
stands_next spi count frame header next s on = record {
  at = next_station s.at;
  spelled = on.spelled;
  home = s.home;
  whole = λ end walk. s.whole end (turn_before spi count s.at (next_station s.at) end on.turn walk);
}
