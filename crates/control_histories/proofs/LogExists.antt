-- Every list of segments of the peers has a log.
use Rattle.std.proofs.Common.{◌≡◌, ◌≢◌, ℕ, ◌<◌, Bool, true, false, cond, eqb, List, [], ◌∷◌, ◌++◌, length, map, get_or, All, Contains, refl, sym, ap, subst, ◌∙◌, inl, inr, arith, append_assoc}
use Rattle.std.specs.List.{AllByRecursion, AllPairs}
use Rattle.std.proofs.lemmas.Bool.{cases_eq, cases_lt}
use Rattle.std.proofs.lemmas.List.{append-nil, get_or_default, map-append}
use Rattle.std.proofs.lemmas.List.Elements.{All-tail}
use Rattle.wire_base.specs.Numbers.{AreBytes}
use Rattle.bgp_session.specs.declared.local_sides.Local.{Local}
use Rattle.control_files.specs.declared.segments.Segment.{Segment}
use Rattle.control_files.specs.Segments.{numbers}
use Rattle.sfc_routes.proofs.MemberLemmas.{all_join}
use Rattle.session_machine.specs.declared.sides.Side.{Side}
use Rattle.session_machine.specs.declared.events.Effects.{Effects}
use Rattle.session_machine.specs.Events.{Happening, IsHappening, Machine, Steps, beginning, closes, comes, connects}
use Rattle.session_machine.specs.Sides.{side_of}
use Rattle.session_machine.specs.Histories.{Runs, Sent}
use Rattle.session_machine.specs.Groups.{Entry, entry, of_peer, events_of, effects_of}
use Rattle.control_histories.specs.Happenings.{Logs, happens, said_by, told_by}
use Rattle.control_histories.specs.Logs.{AreOfPeers, Heard}
use Rattle.control_histories.proofs.EntryLemmas.{one_more, other_entry, own_entry}
use Rattle.control_histories.proofs.OneLog.{OneRun, peer_at, sent_to}

abbrev pub SomeRun : Type 0
SomeRun = (side : Side) (events : List Happening) → AllByRecursion IsHappening events → (given : List Effects) × (end : Machine) × Runs side beginning events given end

-- a run over events of which one is the last ends in a step
record Last (side : Side) (start : Machine) (events : List Happening) (event : Happening) (given : List Effects) (end : Machine) : Type 0 where
  front : List Effects
  effects : Effects
  mid : Machine
  run : Runs side start events front mid
  joined : given ≡ front ++ effects ∷ []

last_step : (side : Side) (start : Machine) (events : List Happening) (event : Happening) (given : List Effects) (end : Machine) → Runs side start (events ++ event ∷ []) given end → Last side start events event given end
last_step side start [] event [] end run = absurd run
last_step side start [] event (f ∷ []) end run = record { front = []; effects = f; mid = start; run = refl; joined = refl }
last_step side start [] event (f ∷ g ∷ gs) end run = absurd run.2
last_step side start (e ∷ es) event [] end run = absurd run
last_step side start (e ∷ es) event (f ∷ fs) end run =
    let rest = last_step side run.0 es event fs end run.2 in
    record { front = f ∷ rest.front; effects = rest.effects; mid = rest.mid; run = (run.0, run.1, rest.run); joined = ap (λ (l : List Effects). f ∷ l) rest.joined }

-- ---- what happened is bytes, where it is what comes

abbrev Happen : List Entry → Type 0
Happen log = AllByRecursion (λ (e : Entry). IsHappening e.event) log

kept_happen : (b : Bool) (e : Entry) (es : List Entry) → IsHappening e.event → AllByRecursion IsHappening (map (λ (x : Entry). x.event) es) → AllByRecursion IsHappening (map (λ (x : Entry). x.event) (cond b (e ∷ es) es))
kept_happen true e es here rest = (here, rest)
kept_happen false e es here rest = rest

events_happen : (number : ℕ) (log : List Entry) → Happen log → AllByRecursion IsHappening (events_of number log)
events_happen number [] all = tt
events_happen number (e ∷ es) all = kept_happen (eqb e.peer number) e (of_peer number es) all.0 (events_happen number es all.1)

-- ---- one segment more

-- the peer of a place is of no other place
same_place : (peers : List (ℕ × ℕ)) (j k : ℕ) (d : ℕ × ℕ) → AllPairs (λ p q. p.0 ≢ q.0) peers → j < length peers → k < length peers → (get_or peers j d).0 ≡ (get_or peers k d).0 → j ≡ k
same_place peers j k d differ lj lk same =
    elim (cases_eq j k) [
      | inl e ↦ e
      | inr apart ↦ elim (cases_lt j k) [
        | inl below ↦ absurd (differ j k d below lk same)
        | inr above ↦ absurd (differ k j d (omega (arith, above, apart)) lj (sym same))
      ]
    ]

abbrev SentIn : Local → ℕ × ℕ → List Entry → Type 0
SentIn local p log = Sent local p.0 p.1 (events_of p.0 log) (effects_of p.0 log)

sent_own : (local : Local) (p : ℕ × ℕ) (log : List Entry) (e : Entry) (end : Machine) → e.peer ≡ p.0
    → Runs (side_of local p.0 p.1) beginning (events_of p.0 log ++ e.event ∷ []) (effects_of p.0 log ++ e.effects ∷ []) end → SentIn local p (log ++ e ∷ [])
sent_own local p log e end is run =
    let own = own_entry p.0 log e is in
    let events : events_of p.0 (log ++ e ∷ []) ≡ events_of p.0 log ++ e.event ∷ [] = ap (λ (l : List Entry). map (λ (x : Entry). x.event) l) own ∙ map-append (λ (x : Entry). x.event) (of_peer p.0 log) (e ∷ []) in
    let effects : effects_of p.0 (log ++ e ∷ []) ≡ effects_of p.0 log ++ e.effects ∷ [] = ap (λ (l : List Entry). map (λ (x : Entry). x.effects) l) own ∙ map-append (λ (x : Entry). x.effects) (of_peer p.0 log) (e ∷ []) in
    subst (λ (es : List Happening). Sent local p.0 p.1 es (effects_of p.0 (log ++ e ∷ []))) (sym events)
    (subst (λ (fs : List Effects). Sent local p.0 p.1 (events_of p.0 log ++ e.event ∷ []) fs) (sym effects) (end, run))

sent_other : (local : Local) (p : ℕ × ℕ) (log : List Entry) (e : Entry) → (e.peer ≡ p.0 → ⊥) → SentIn local p log → SentIn local p (log ++ e ∷ [])
sent_other local p log e apart sent =
    subst (λ (l : List Entry). Sent local p.0 p.1 (map (λ (x : Entry). x.event) l) (map (λ (x : Entry). x.effects) l)) (sym (other_entry p.0 log e apart)) sent

pub record Longer (local : Local) (peers : List (ℕ × ℕ)) (segments : List Segment) (log : List Entry) (s : Segment) : Type 0 where
  pub effects : Effects
  pub heard : Heard local peers (segments ++ s ∷ []) (log ++ entry s.peer (happens s) effects ∷ [])

longer : OneRun → SomeRun → (local : Local) (peers : List (ℕ × ℕ)) (segments : List Segment) (log : List Entry) (s : Segment) → AllPairs (λ p q. p.0 ≢ q.0) peers
    → Heard local peers segments log → Happen log → IsHappening (happens s) → Contains (numbers peers) s.peer → Longer local peers segments log s
longer one some local peers segments log s differ x happened bring there =
    let none : ℕ × ℕ = (0, 0) in
    let at = peer_at peers s.peer there in
    let asn = (get_or peers at.0 none).1 in
    let side = side_of local s.peer asn in
    let before = sent_to local peers segments log x s.peer at.0 at.1 at.2 in
    let run = some side (events_of s.peer log ++ happens s ∷ []) (all_join IsHappening (events_of s.peer log) (happens s ∷ []) (events_happen s.peer log happened) (bring, tt)) in
    let last = last_step side beginning (events_of s.peer log) (happens s) run.0 run.1 run.2 in
    let same : effects_of s.peer log ≡ last.front = (one side beginning (events_of s.peer log) (effects_of s.peer log) last.front before.0 last.mid before.1 last.run).0 in
    let e = entry s.peer (happens s) last.effects in
    let given : run.0 ≡ effects_of s.peer log ++ last.effects ∷ [] = last.joined ∙ ap (λ (l : List Effects). l ++ last.effects ∷ []) (sym same) in
    let whole : Runs side beginning (events_of s.peer log ++ happens s ∷ []) (effects_of s.peer log ++ last.effects ∷ []) run.1 =
    subst (λ (fs : List Effects). Runs side beginning (events_of s.peer log ++ happens s ∷ []) fs run.1) given run.2 in
    let own : SentIn local (s.peer, asn) (log ++ e ∷ []) = sent_own local (s.peer, asn) log e run.1 refl whole in
    record {
      effects = last.effects;
      heard = record {
        in_order = one_more segments log s e x.in_order refl;
        each = λ j d lt. elim (cases_eq s.peer (get_or peers j d).0) [
          | inl is ↦
              let first : (get_or peers j none).0 ≡ (get_or peers at.0 none).0 = ap (λ (p : ℕ × ℕ). p.0) (get_or_default peers j none d lt) ∙ sym is ∙ sym at.2 in
              let place : j ≡ at.0 = same_place peers j at.0 none differ lt at.1 first in
              let peer : (s.peer, asn) ≡ get_or peers j d = ap (λ (n : ℕ). (n, asn)) (sym at.2) ∙ ap (λ (i : ℕ). get_or peers i none) (sym place) ∙ get_or_default peers j none d lt in
              subst (λ (p : ℕ × ℕ). SentIn local p (log ++ e ∷ [])) peer own
          | inr apart ↦ sent_other local (get_or peers j d) log e apart (x.each j d lt)
        ];
      };
    }

-- ---- all segments

abbrev Bring : List Segment → Type 0
Bring segments = All (λ (s : Segment). IsHappening (happens s)) segments

either : (b : Bool) (x y : Happening) → IsHappening x → IsHappening y → IsHappening (cond b x y)
either true x y p q = p
either false x y p q = q

brings : (s : Segment) → AreBytes s.bytes → IsHappening (happens s)
brings s are = either (eqb s.kind 1) (connects s.moment) (cond (eqb s.kind 2) (comes s.moment s.bytes) (closes s.moment)) tt (either (eqb s.kind 2) (comes s.moment s.bytes) (closes s.moment) are tt)

from_here : OneRun → SomeRun → (local : Local) (peers : List (ℕ × ℕ)) (segments : List Segment) (log : List Entry) (more : List Segment) → AllPairs (λ p q. p.0 ≢ q.0) peers
    → Heard local peers segments log → Happen log → Bring more → AreOfPeers peers more → (whole : List Entry) × Heard local peers (segments ++ more) whole
from_here one some local peers segments log [] differ x happened bring of_peers = (log, subst (λ (l : List Segment). Heard local peers l log) (sym (append-nil segments)) x)
from_here one some local peers segments log (s ∷ ss) differ x happened bring of_peers =
    let next = longer one some local peers segments log s differ x happened (bring 0 s (omega arith)) (of_peers 0 s (omega arith)) in
    let e = entry s.peer (happens s) next.effects in
    let rest = from_here one some local peers (segments ++ s ∷ []) (log ++ e ∷ []) ss differ next.heard (all_join (λ (x : Entry). IsHappening x.event) log (e ∷ []) happened (bring 0 s (omega arith), tt)) (All-tail (λ (t : Segment). IsHappening (happens t)) s ss bring) (All-tail (λ (t : Segment). Contains (numbers peers) t.peer) s ss of_peers) in
    (rest.0, subst (λ (l : List Segment). Heard local peers l rest.0) (append_assoc segments (s ∷ []) ss) rest.1)

pub some_log : OneRun → SomeRun → (local : Local) (peers : List (ℕ × ℕ)) (segments : List Segment) → AllPairs (λ p q. p.0 ≢ q.0) peers → AreOfPeers peers segments
    → All (λ (s : Segment). AreBytes s.bytes) segments → (log : List Entry) × Heard local peers segments log
some_log one some local peers segments differ of_peers are =
    from_here one some local peers [] [] segments differ (record { in_order = refl; each = λ k d lt. (beginning, refl) }) tt (λ k d lt. brings (get_or segments k d) (are k d lt)) of_peers
