-- Sessions with several peers, of which one takes an event.
use Rattle.std.proofs.Common.{◌≡◌, ◌≢◌, ℕ, ◌+◌, ◌^◌, ◌<◌, ◌≤◌, Bool, cond, eqb, eq-eqb, List, [], ◌∷◌, ◌++◌, length, map, get_or, set, All, refl, sym, ap, subst, ◌∙◌, inl, inr, arith}
use Rattle.std.specs.List.{AllPairs, Contains}
use Rattle.std.proofs.lemmas.List.{append-nil, map-append, length-set, length-map, get_or-set_other, set-get_or, get_or-map, map-set}
use Rattle.std.proofs.lemmas.Grind.{get_or-set_at}
use Rattle.std.proofs.lemmas.List.Elements.{filter-append}
use Rattle.std.proofs.lemmas.Bool.{cases_eq, cases_lt, ne_eqb}
use Rattle.bgp_session.specs.declared.local_sides.Local.{Local}
use Rattle.session_machine.specs.declared.sides.Side.{Side}
use Rattle.session_machine.specs.declared.machines.Session.{Session}
use Rattle.session_machine.specs.declared.events.Effects.{Effects}
use Rattle.session_machine.specs.Sides.{side_of}
use Rattle.session_machine.specs.Events.{Happening, connects, comes, closes}
use Rattle.session_machine.specs.Sessions.{Stands, bytes_of}
use Rattle.session_machine.specs.Peers.{PeersDiffer, sides_of, IsAt, HasPeer, HasRoom, AllHold, size_of}
use Rattle.session_machine.specs.Groups.{Entry, entry, of_peer, events_of, effects_of, StandsIn}

-- one of the sessions has the peer, and none before the place has
pub there_is : (number : ℕ) (list : List Session) (at : ℕ) → HasPeer number list → ((k : ℕ) (d : Session) → k < at → (get_or list k d).side.peer ≡ number → ⊥) → at < length list
there_is number [] at has none = absurd (omega (arith, has.1.0))
there_is number (x ∷ xs) at has none =
    elim (cases_lt at (length (x ∷ xs))) [
      | inl lt ↦ lt
      | inr ge ↦ absurd (none has.0 x (omega (arith, has.1.0, ge)) (has.1.1 x))
    ]

-- ---- the peers

number_at : (local : Local) (list : List Session) (peers : List (ℕ × ℕ)) → map (λ (s : Session). s.side) list ≡ sides_of local peers → (i : ℕ) (d : Session) (p : ℕ × ℕ) → i < length list → i < length peers
    → (get_or list i d).side.peer ≡ (get_or peers i p).0
number_at local list peers e i d p lt lt_peers =
    ap (λ (s : Side). s.peer) (sym (get_or-map (λ (s : Session). s.side) list i d d.side lt) ∙ ap (λ (l : List Side). get_or l i d.side) e ∙ get_or-map (λ (q : ℕ × ℕ). side_of local q.0 q.1) peers i p d.side lt_peers)

same_count : (local : Local) (list : List Session) (peers : List (ℕ × ℕ)) → map (λ (s : Session). s.side) list ≡ sides_of local peers → length list ≡ length peers
same_count local list peers e = sym (length-map list (λ (s : Session). s.side)) ∙ ap length e ∙ length-map peers (λ (q : ℕ × ℕ). side_of local q.0 q.1)

pub peers_differ : (local : Local) (list : List Session) (peers : List (ℕ × ℕ)) → map (λ (s : Session). s.side) list ≡ sides_of local peers → AllPairs (λ p q. p.0 ≢ q.0) peers → PeersDiffer list
peers_differ local list peers e differ i j d lt below same =
    let len : length list ≡ length peers = same_count local list peers e in
    let none : ℕ × ℕ = (0, 0) in
    differ i j none lt (omega arith) (sym (number_at local list peers e i d none (omega arith) (omega arith)) ∙ same ∙ number_at local list peers e j d none below (omega arith))

-- a session with the same sides in the place of one
pub same_sides : (list : List Session) (at : ℕ) (old new : Session) → at < length list → old ≡ get_or list at old → new.side ≡ old.side → map (λ (s : Session). s.side) (set list at new) ≡ map (λ (s : Session). s.side) list
same_sides list at old new lt is same =
    let here : new.side ≡ get_or (map (λ (s : Session). s.side) list) at old.side = same ∙ ap (λ (s : Session). s.side) is ∙ sym (get_or-map (λ (s : Session). s.side) list at old old.side lt) in
    map-set (λ (s : Session). s.side) list at new ∙ ap (λ (s : Side). set (map (λ (t : Session). t.side) list) at s) here ∙ set-get_or (map (λ (s : Session). s.side) list) at old.side

-- each of the peers has a session
pub each_has : (local : Local) (list : List Session) (peers : List (ℕ × ℕ)) → map (λ (s : Session). s.side) list ≡ sides_of local peers → (number : ℕ) → Contains (map (λ (p : ℕ × ℕ). p.0) peers) number → HasPeer number list
each_has local list peers e number is =
    let below : is.0 < length peers = omega (arith, is.1, length-map peers (λ (p : ℕ × ℕ). p.0)) in
    let lt : is.0 < length list = omega (arith, below, same_count local list peers e) in
    let none : ℕ × ℕ = (number, 0) in
    let named : (get_or peers is.0 none).0 ≡ number = sym (get_or-map (λ (p : ℕ × ℕ). p.0) peers is.0 none number below) ∙ is.2 in
    (is.0, (lt, λ d. number_at local list peers e is.0 d none lt below ∙ named))

same_has : (list other : List Session) → map (λ (s : Session). s.side) list ≡ map (λ (s : Session). s.side) other → (number : ℕ) → HasPeer number other → HasPeer number list
same_has list other e number has =
    let lt : has.0 < length list = omega (arith, has.1.0, sym (length-map list (λ (s : Session). s.side)) ∙ ap length e ∙ length-map other (λ (s : Session). s.side)) in (
      has.0,
      (
        lt,
        λ d. ap (λ (s : Side). s.peer) (sym (get_or-map (λ (s : Session). s.side) list has.0 d d.side lt) ∙ ap (λ (l : List Side). get_or l has.0 d.side) e ∙ get_or-map (λ (s : Session). s.side) other has.0 d d.side has.1.0)
            ∙ has.1.1 d,
      ),
    )

pub still_has : (list : List Session) (at : ℕ) (old new : Session) → at < length list → old ≡ get_or list at old → new.side ≡ old.side → (number : ℕ) → HasPeer number list → HasPeer number (set list at new)
still_has list at old new lt is same number has = same_has (set list at new) list (same_sides list at old new lt is same) number has

-- where each got at most so many bytes, there is room for what comes
pub room_for : (most number : ℕ) (event : Happening) (list : List Session) → AllHold most list → most + size_of event < 2 ^ 64 → HasRoom number event list
room_for most number (connects moment) list hold fits k d lt same = tt
room_for most number (comes moment piece) list hold fits k d lt same = let here : bytes_of (get_or list k d) ≤ most = hold k d lt in omega (arith, here, fits)
room_for most number (closes moment) list hold fits k d lt same = tt

-- ---- the entries of one peer

own_entry : (number : ℕ) (log : List Entry) (h : Happening) (f : Effects) → of_peer number (log ++ entry number h f ∷ []) ≡ of_peer number log ++ entry number h f ∷ []
own_entry number log h f =
    filter-append (λ (e : Entry). eqb e.peer number) log (entry number h f ∷ [])
    ∙ ap (λ (b : Bool). of_peer number log ++ cond b (entry number h f ∷ []) []) (eq-eqb number number refl)

other_entry : (number other : ℕ) (log : List Entry) (h : Happening) (f : Effects) → (other ≡ number → ⊥) → of_peer number (log ++ entry other h f ∷ []) ≡ of_peer number log
other_entry number other log h f apart =
    filter-append (λ (e : Entry). eqb e.peer number) log (entry other h f ∷ [])
    ∙ ap (λ (b : Bool). of_peer number log ++ cond b (entry other h f ∷ []) []) (ne_eqb other number apart)
    ∙ append-nil (of_peer number log)

own_stands : (new : Session) (number : ℕ) (log : List Entry) (h : Happening) (f : Effects) → new.side.peer ≡ number
    → Stands new (events_of number log ++ h ∷ []) (effects_of number log ++ f ∷ []) → StandsIn (log ++ entry number h f ∷ []) new
own_stands new number log h f is stands =
    let events : events_of number (log ++ entry number h f ∷ []) ≡ events_of number log ++ h ∷ [] =
    ap (λ (l : List Entry). map (λ (e : Entry). e.event) l) (own_entry number log h f) ∙ map-append (λ (e : Entry). e.event) (of_peer number log) (entry number h f ∷ []) in
    let effects : effects_of number (log ++ entry number h f ∷ []) ≡ effects_of number log ++ f ∷ [] =
    ap (λ (l : List Entry). map (λ (e : Entry). e.effects) l) (own_entry number log h f) ∙ map-append (λ (e : Entry). e.effects) (of_peer number log) (entry number h f ∷ []) in
    let of_number : Stands new (events_of number (log ++ entry number h f ∷ [])) (effects_of number (log ++ entry number h f ∷ [])) =
    subst (λ (es : List Happening). Stands new es (effects_of number (log ++ entry number h f ∷ []))) (sym events)
    (subst (λ (fs : List Effects). Stands new (events_of number log ++ h ∷ []) fs) (sym effects) stands) in
    subst (λ (n : ℕ). Stands new (events_of n (log ++ entry number h f ∷ [])) (effects_of n (log ++ entry number h f ∷ []))) (sym is) of_number

other_stands : (s : Session) (number : ℕ) (log : List Entry) (h : Happening) (f : Effects) → (number ≡ s.side.peer → ⊥) → StandsIn log s → StandsIn (log ++ entry number h f ∷ []) s
other_stands s number log h f apart stands =
    subst (λ (l : List Entry). Stands s (map (λ (e : Entry). e.event) l) (map (λ (e : Entry). e.effects) l)) (sym (other_entry s.side.peer number log h f apart)) stands

not_there : (list : List Session) (number at k : ℕ) (d : Session) → PeersDiffer list → IsAt number list at → k < length list → (k ≡ at → ⊥) → number ≡ (get_or list k d).side.peer → ⊥
not_there list number at k d differ is lt apart same =
    elim (cases_lt k at) [
      | inl below ↦ differ k at d below is.0 (sym same ∙ sym (is.1 d))
      | inr above ↦ differ at k d (omega (arith, above, apart)) lt (is.1 d ∙ same)
    ]

-- after an event of one peer each session stands for the longer list
pub all_stand : (list : List Session) (at : ℕ) (new : Session) (number : ℕ) (log : List Entry) (h : Happening) (f : Effects)
    → PeersDiffer list → IsAt number list at → All (StandsIn log) list → new.side.peer ≡ number
    → Stands new (events_of number log ++ h ∷ []) (effects_of number log ++ f ∷ []) → All (StandsIn (log ++ entry number h f ∷ [])) (set list at new)
all_stand list at new number log h f differ is each named stands k d lt =
    let below : k < length list = omega (arith, lt, length-set list at new) in
    elim (cases_eq k at) [
      | inl same ↦ subst (StandsIn (log ++ entry number h f ∷ [])) (sym (get_or-set_at list at k new d same is.0)) (own_stands new number log h f named stands)
      | inr apart ↦ subst (StandsIn (log ++ entry number h f ∷ [])) (sym (get_or-set_other list at k new d apart))
          (other_stands (get_or list k d) number log h f (not_there list number at k d differ is below apart) (each k d below))
    ]
