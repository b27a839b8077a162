-- The log of segments begins with the log of those that come first.
use Rattle.std.proofs.Common.{◌≡◌, ℕ, eqb, List, [], ◌∷◌, ◌++◌, length, map, get_or, refl, sym, ap, subst, ◌∙◌, arith}
use Rattle.std.proofs.lemmas.List.{map-append, length-map}
use Rattle.std.proofs.lemmas.List.Elements.{filter-append}
use Rattle.bgp_session.specs.declared.local_sides.Local.{Local}
use Rattle.control_files.specs.declared.segments.Segment.{Segment}
use Rattle.session_machine.specs.declared.sides.Side.{Side}
use Rattle.session_machine.specs.declared.events.Effects.{Effects}
use Rattle.session_machine.specs.Events.{Happening, Machine, beginning}
use Rattle.session_machine.specs.Sides.{side_of}
use Rattle.session_machine.specs.Histories.{Runs, Sent}
use Rattle.session_machine.specs.Groups.{Entry, of_peer, events_of, effects_of}
use Rattle.control_histories.specs.Happenings.{Logs, said_by, told_by}
use Rattle.control_histories.specs.Logs.{Heard}

run_front : (side : Side) (start : Machine) (events more : List Happening) (given behind : List Effects) (end : Machine) → length events ≡ length given
    → Runs side start (events ++ more) (given ++ behind) end → (mid : Machine) × Runs side start events given mid
run_front side start [] more [] behind end same run = (start, refl)
run_front side start [] more (f ∷ fs) behind end same run = absurd (cc)
run_front side start (e ∷ es) more [] behind end same run = absurd (cc)
run_front side start (e ∷ es) more (f ∷ fs) behind end same run =
    let rest = run_front side run.0 es more fs behind end (omega (arith, same)) run.2 in
    (rest.0, (run.0, run.1, rest.1))

joined_peer : (number : ℕ) (first last : List Entry) → of_peer number (first ++ last) ≡ of_peer number first ++ of_peer number last
joined_peer number first last = filter-append (λ (e : Entry). eqb e.peer number) first last

sent_front : (local : Local) (number asn : ℕ) (first last : List Entry) → Sent local number asn (events_of number (first ++ last)) (effects_of number (first ++ last))
    → Sent local number asn (events_of number first) (effects_of number first)
sent_front local number asn first last x =
    let entries = joined_peer number first last in
    let events : events_of number (first ++ last) ≡ events_of number first ++ events_of number last =
    ap (λ (l : List Entry). map (λ (e : Entry). e.event) l) entries ∙ map-append (λ (e : Entry). e.event) (of_peer number first) (of_peer number last) in
    let effects : effects_of number (first ++ last) ≡ effects_of number first ++ effects_of number last =
    ap (λ (l : List Entry). map (λ (e : Entry). e.effects) l) entries ∙ map-append (λ (e : Entry). e.effects) (of_peer number first) (of_peer number last) in
    let run : Runs (side_of local number asn) beginning (events_of number first ++ events_of number last) (effects_of number first ++ effects_of number last) x.0 =
    subst (λ (fs : List Effects). Runs (side_of local number asn) beginning (events_of number first ++ events_of number last) fs x.0) effects
    (subst (λ (es : List Happening). Runs (side_of local number asn) beginning es (effects_of number (first ++ last)) x.0) events x.1) in
    let many : length (events_of number first) ≡ length (effects_of number first) =
    length-map (of_peer number first) (λ (e : Entry). e.event) ∙ sym (length-map (of_peer number first) (λ (e : Entry). e.effects)) in
    run_front (side_of local number asn) beginning (events_of number first) (events_of number last) (effects_of number first) (effects_of number last) x.0 many run

join : {A : Type 0} (x y : A) (xs ys : List A) → x ≡ y → xs ≡ ys → x ∷ xs ≡ y ∷ ys
join x y xs ys first rest = λ k. first k ∷ rest k

-- a log of segments that come behind others, cut where these end
pub record Cut (front more : List Segment) (log : List Entry) : Type 0 where
  pub first : List Entry
  pub last : List Entry
  pub joined : log ≡ first ++ last
  pub logs : Logs front first
  pub behind : Logs more last

pub cut_log : (front more : List Segment) (log : List Entry) → Logs (front ++ more) log → Cut front more log
cut_log [] more log logs = record { first = []; last = log; joined = refl; logs = refl; behind = logs }
cut_log (s ∷ ss) more [] logs = absurd (cc)
cut_log (s ∷ ss) more (e ∷ es) logs =
    let told : told_by e ≡ said_by s = cc in
    let rest : map told_by es ≡ map said_by (ss ++ more) = cc in
    let cut = cut_log ss more es rest in
    record {
      first = e ∷ cut.first;
      last = cut.last;
      joined = ap (λ (l : List Entry). e ∷ l) cut.joined;
      logs = join (told_by e) (said_by s) (map told_by cut.first) (map said_by ss) told cut.logs;
      behind = cut.behind;
    }

pub front_heard : (local : Local) (peers : List (ℕ × ℕ)) (front more : List Segment) (log : List Entry) → Heard local peers (front ++ more) log
    → (first : List Entry) × (last : List Entry) × (log ≡ first ++ last) × Heard local peers front first
front_heard local peers front more log x =
    let cut = cut_log front more log x.in_order in
    let y : Heard local peers (front ++ more) (cut.first ++ cut.last) = subst (λ (l : List Entry). Heard local peers (front ++ more) l) cut.joined x in (
      cut.first,
      cut.last,
      cut.joined,
      record {
        in_order = cut.logs;
        each = λ k d lt. sent_front local (get_or peers k d).0 (get_or peers k d).1 cut.first cut.last (y.each k d lt);
      },
    )
