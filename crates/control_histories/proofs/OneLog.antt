-- Segments have at most one log.
use Rattle.std.proofs.Common.{◌≡◌, ℕ, ◌<◌, List, [], ◌∷◌, length, map, get_or, Contains, refl, sym, ap, subst, ◌∙◌, inl, inr, arith}
use Rattle.std.specs.List.{AllByRecursion}
use Rattle.std.proofs.lemmas.Bool.{cases_eq}
use Rattle.std.proofs.lemmas.List.{length-map, get_or-map}
use Rattle.bgp_session.specs.declared.local_sides.Local.{Local}
use Rattle.control_files.specs.declared.segments.Segment.{Segment}
use Rattle.control_files.specs.Segments.{numbers}
use Rattle.session_machine.specs.declared.sides.Side.{Side}
use Rattle.session_machine.specs.declared.events.Effects.{Effects}
use Rattle.session_machine.specs.Sides.{side_of}
use Rattle.session_machine.specs.Events.{Happening, Machine, beginning}
use Rattle.session_machine.specs.Histories.{Runs, Sent}
use Rattle.session_machine.specs.Groups.{Entry, entry, events_of, effects_of}
use Rattle.control_histories.specs.Happenings.{told_by}
use Rattle.control_histories.specs.Logs.{AreOfPeers, Heard}
use Rattle.control_histories.proofs.EntryLemmas.{same_events, own_effects, other_effects, known_peers}

abbrev pub OneRun : Type 0
OneRun = (side : Side) (start : Machine) (events : List Happening) (given other : List Effects) (end end2 : Machine)
    → Runs side start events given end → Runs side start events other end2 → (given ≡ other) × (end ≡ end2)

same_entry : (x y : Entry) → told_by x ≡ told_by y → x.effects ≡ y.effects → x ≡ y
same_entry x y told effects =
    ap (λ (t : ℕ × Happening). entry t.0 t.1 x.effects) told ∙ ap (λ (f : Effects). entry y.peer y.event f) effects

behind : (f g : Effects) (fs gs : List Effects) → f ∷ fs ≡ g ∷ gs → fs ≡ gs
behind f g fs gs e = cc

rest_same : (number : ℕ) (x y : Entry) (xs ys : List Entry) → y.peer ≡ x.peer → effects_of number (x ∷ xs) ≡ effects_of number (y ∷ ys) → effects_of number xs ≡ effects_of number ys
rest_same number x y xs ys peer same =
    elim (cases_eq x.peer number) [
      | inl is ↦ behind x.effects y.effects (effects_of number xs) (effects_of number ys) (sym (own_effects number x xs is) ∙ same ∙ own_effects number y ys (peer ∙ is))
      | inr apart ↦ sym (other_effects number x xs apart) ∙ same ∙ other_effects number y ys (λ e. apart (sym peer ∙ e))
    ]

-- logs in which the same happens, with the same effects for each peer, are one
same_logs : (Known : ℕ → Type 0) (log other : List Entry) → map told_by log ≡ map told_by other → AllByRecursion (λ (e : Entry). Known e.peer) log
    → ((number : ℕ) → Known number → effects_of number log ≡ effects_of number other) → log ≡ other
same_logs Known [] [] told known same = refl
same_logs Known [] (y ∷ ys) told known same = absurd (cc)
same_logs Known (x ∷ xs) [] told known same = absurd (cc)
same_logs Known (x ∷ xs) (y ∷ ys) told known same =
    let first : told_by x ≡ told_by y = cc in
    let rest : map told_by xs ≡ map told_by ys = cc in
    let peer : y.peer ≡ x.peer = ap (λ (t : ℕ × Happening). t.0) (sym first) in
    let both : x.effects ∷ effects_of x.peer xs ≡ y.effects ∷ effects_of x.peer ys = sym (own_effects x.peer x xs refl) ∙ same x.peer known.0 ∙ own_effects x.peer y ys peer in
    let effects : x.effects ≡ y.effects = cc in
    ap (λ (e : Entry). e ∷ xs) (same_entry x y first effects)
    ∙ ap (λ (l : List Entry). y ∷ l) (same_logs Known xs ys rest known.1 (λ number is. rest_same number x y xs ys peer (same number is)))

-- a peer by its place
pub peer_at : (peers : List (ℕ × ℕ)) (number : ℕ) → Contains (numbers peers) number → (k : ℕ) × (k < length peers) × ((get_or peers k (0, 0)).0 ≡ number)
peer_at peers number there =
    let below : there.0 < length peers = omega (arith, there.1, length-map peers (λ (p : ℕ × ℕ). p.0)) in
    (there.0, below, sym (get_or-map (λ (p : ℕ × ℕ). p.0) peers there.0 (0, 0) number below) ∙ there.2)

pub sent_to : (local : Local) (peers : List (ℕ × ℕ)) (segments : List Segment) (log : List Entry) → Heard local peers segments log
    → (number k : ℕ) → k < length peers → (get_or peers k (0, 0)).0 ≡ number → Sent local number (get_or peers k (0, 0)).1 (events_of number log) (effects_of number log)
sent_to local peers segments log x number k lt is =
    subst (λ (n : ℕ). Sent local n (get_or peers k (0, 0)).1 (events_of n log) (effects_of n log)) is (x.each k (0, 0) lt)

effects_same : OneRun → (local : Local) (peers : List (ℕ × ℕ)) (segments : List Segment) (log other : List Entry) → Heard local peers segments log → Heard local peers segments other
    → (number : ℕ) → Contains (numbers peers) number → effects_of number log ≡ effects_of number other
effects_same run local peers segments log other x y number there =
    let p = peer_at peers number there in
    let asn = (get_or peers p.0 (0, 0)).1 in
    let first = sent_to local peers segments log x number p.0 p.1 p.2 in
    let second = sent_to local peers segments other y number p.0 p.1 p.2 in
    let events : events_of number other ≡ events_of number log = same_events number other log (y.in_order ∙ sym x.in_order) in
    let again : Sent local number asn (events_of number log) (effects_of number other) = subst (λ (es : List Happening). Sent local number asn es (effects_of number other)) events second in
    (run (side_of local number asn) beginning (events_of number log) (effects_of number log) (effects_of number other) first.0 again.0 first.1 again.1).0

pub one_log : OneRun → (local : Local) (peers : List (ℕ × ℕ)) (segments : List Segment) (log other : List Entry) → AreOfPeers peers segments
    → Heard local peers segments log → Heard local peers segments other → log ≡ other
one_log run local peers segments log other of_peers x y =
    same_logs (Contains (numbers peers)) log other (x.in_order ∙ sym y.in_order) (known_peers (Contains (numbers peers)) segments log of_peers x.in_order)
    (effects_same run local peers segments log other x y)
