-- The entries of one peer in a log: what happened in them, and the effects.
use Rattle.std.proofs.Common.{◌≡◌, ℕ, suc, Bool, true, false, cond, eqb, eq-eqb, List, [], ◌∷◌, ◌++◌, map, All, refl, sym, ap, subst, ◌∙◌, arith}
use Rattle.std.specs.List.{AllByRecursion, filter}
use Rattle.std.proofs.lemmas.List.{append-nil, map-append}
use Rattle.std.proofs.lemmas.List.Elements.{filter-append}
use Rattle.std.proofs.lemmas.Bool.{ne_eqb}
use Rattle.control_files.specs.declared.segments.Segment.{Segment}
use Rattle.session_machine.specs.Events.{Happening}
use Rattle.session_machine.specs.Groups.{Entry, of_peer, events_of, effects_of}
use Rattle.control_histories.specs.Happenings.{Logs, said_by, told_by}

-- ---- what happened to one peer

abbrev events_in : ℕ → List (ℕ × Happening) → List Happening
events_in number told = map (λ (t : ℕ × Happening). t.1) (filter (λ (t : ℕ × Happening). eqb t.0 number) told)

kept : (b : Bool) (e : Entry) (es : List Entry) (ts : List (ℕ × Happening)) → map (λ (x : Entry). x.event) es ≡ map (λ (t : ℕ × Happening). t.1) ts
    → map (λ (x : Entry). x.event) (cond b (e ∷ es) es) ≡ map (λ (t : ℕ × Happening). t.1) (cond b (told_by e ∷ ts) ts)
kept true e es ts same = ap (λ (l : List Happening). e.event ∷ l) same
kept false e es ts same = same

events_told : (number : ℕ) (log : List Entry) → events_of number log ≡ events_in number (map told_by log)
events_told number [] = refl
events_told number (e ∷ es) = kept (eqb e.peer number) e (of_peer number es) (filter (λ (t : ℕ × Happening). eqb t.0 number) (map told_by es)) (events_told number es)

pub same_events : (number : ℕ) (log other : List Entry) → map told_by log ≡ map told_by other → events_of number log ≡ events_of number other
same_events number log other told = events_told number log ∙ ap (λ (t : List (ℕ × Happening)). events_in number t) told ∙ sym (events_told number other)

-- ---- the first entry

pub own_effects : (number : ℕ) (e : Entry) (es : List Entry) → e.peer ≡ number → effects_of number (e ∷ es) ≡ e.effects ∷ effects_of number es
own_effects number e es is = ap (λ (b : Bool). map (λ (x : Entry). x.effects) (cond b (e ∷ of_peer number es) (of_peer number es))) (eq-eqb e.peer number is)

pub other_effects : (number : ℕ) (e : Entry) (es : List Entry) → (e.peer ≡ number → ⊥) → effects_of number (e ∷ es) ≡ effects_of number es
other_effects number e es apart = ap (λ (b : Bool). map (λ (x : Entry). x.effects) (cond b (e ∷ of_peer number es) (of_peer number es))) (ne_eqb e.peer number apart)

-- ---- one more entry

pub own_entry : (number : ℕ) (log : List Entry) (e : Entry) → e.peer ≡ number → of_peer number (log ++ e ∷ []) ≡ of_peer number log ++ e ∷ []
own_entry number log e is =
    filter-append (λ (x : Entry). eqb x.peer number) log (e ∷ [])
    ∙ ap (λ (b : Bool). of_peer number log ++ cond b (e ∷ []) []) (eq-eqb e.peer number is)

pub other_entry : (number : ℕ) (log : List Entry) (e : Entry) → (e.peer ≡ number → ⊥) → of_peer number (log ++ e ∷ []) ≡ of_peer number log
other_entry number log e apart =
    filter-append (λ (x : Entry). eqb x.peer number) log (e ∷ [])
    ∙ ap (λ (b : Bool). of_peer number log ++ cond b (e ∷ []) []) (ne_eqb e.peer number apart)
    ∙ append-nil (of_peer number log)

-- ---- a log and its segments

pub one_more : (segments : List Segment) (log : List Entry) (s : Segment) (e : Entry) → Logs segments log → told_by e ≡ said_by s → Logs (segments ++ s ∷ []) (log ++ e ∷ [])
one_more segments log s e logs same =
    map-append told_by log (e ∷ [])
    ∙ ap (λ (l : List (ℕ × Happening)). l ++ told_by e ∷ []) logs
    ∙ ap (λ (t : ℕ × Happening). map said_by segments ++ t ∷ []) same
    ∙ sym (map-append said_by segments (s ∷ []))

-- the entries are of peers of which the segments are
pub known_peers : (Known : ℕ → Type 0) (segments : List Segment) (log : List Entry) → All (λ (s : Segment). Known s.peer) segments → Logs segments log
    → AllByRecursion (λ (e : Entry). Known e.peer) log
known_peers Known [] [] all logs = tt
known_peers Known [] (e ∷ es) all logs = absurd (cc)
known_peers Known (s ∷ ss) [] all logs = tt
known_peers Known (s ∷ ss) (e ∷ es) all logs =
    let first : told_by e ≡ said_by s = cc in
    let peer : s.peer ≡ e.peer = ap (λ (t : ℕ × Happening). t.0) (sym first) in
    let behind : map told_by es ≡ map said_by ss = cc in
    (subst Known peer (all 0 s (omega arith)), known_peers Known ss es (λ k d lt. all (suc k) d (omega arith)) behind)
