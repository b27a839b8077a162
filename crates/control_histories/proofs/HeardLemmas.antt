-- What sessions with the peers took was heard.
use Rattle.std.proofs.Common.{◌≡◌, ℕ, ◌<◌, List, [], ◌∷◌, length, map, get_or, All, sym, ap, subst, ◌∙◌, arith}
use Rattle.std.proofs.lemmas.List.{length-map, get_or-map}
use Rattle.bgp_session.specs.declared.local_sides.Local.{Local}
use Rattle.control_files.specs.declared.segments.Segment.{Segment}
use Rattle.session_machine.specs.declared.groups.Sessions.{Sessions}
use Rattle.session_machine.specs.declared.machines.Session.{Session}
use Rattle.session_machine.specs.declared.sides.Side.{Side}
use Rattle.session_machine.specs.Sides.{side_of}
use Rattle.session_machine.specs.Events.{Machine, beginning}
use Rattle.session_machine.specs.Histories.{Runs, Sent}
use Rattle.session_machine.specs.Peers.{sides_of}
use Rattle.session_machine.specs.Groups.{Entry, events_of, effects_of, StandsIn}
use Rattle.control_histories.specs.Logs.{AreWith, Heard, Hears}

pub side_at : (local : Local) (list : List Session) (peers : List (ℕ × ℕ)) → map (λ (s : Session). s.side) list ≡ sides_of local peers → (i : ℕ) (d : Session) (p : ℕ × ℕ) → i < length list → i < length peers
    → (get_or list i d).side ≡ side_of local (get_or peers i p).0 (get_or peers i p).1
side_at local list peers e i d p lt lt_peers =
    sym (get_or-map (λ (s : Session). s.side) list i d d.side lt) ∙ ap (λ (l : List Side). get_or l i d.side) e ∙ get_or-map (λ (q : ℕ × ℕ). side_of local q.0 q.1) peers i p d.side lt_peers

pub as_many : (local : Local) (list : List Session) (peers : List (ℕ × ℕ)) → map (λ (s : Session). s.side) list ≡ sides_of local peers → length list ≡ length peers
as_many local list peers e = sym (length-map list (λ (s : Session). s.side)) ∙ ap length e ∙ length-map peers (λ (q : ℕ × ℕ). side_of local q.0 q.1)

sent_of : (s : Session) (local : Local) (number asn : ℕ) (log : List Entry) → s.side ≡ side_of local number asn → StandsIn log s → Sent local number asn (events_of number log) (effects_of number log)
sent_of s local number asn log is stood =
    subst (λ (t : Side). (end : Machine) × Runs t beginning (events_of t.peer log) (effects_of t.peer log) end) is (stood.end, stood.runs)

sent_at : (local : Local) (list : List Session) (peers : List (ℕ × ℕ)) (log : List Entry) → map (λ (s : Session). s.side) list ≡ sides_of local peers → All (StandsIn log) list → (k : ℕ) (p : ℕ × ℕ) → k < length peers
    → Sent local (get_or peers k p).0 (get_or peers k p).1 (events_of (get_or peers k p).0 log) (effects_of (get_or peers k p).0 log)
sent_at local [] peers log e each k p lt =
    let none : 0 ≡ length peers = as_many local [] peers e in
    absurd (omega arith)
sent_at local (x ∷ xs) peers log e each k p lt =
    let many : length (x ∷ xs) ≡ length peers = as_many local (x ∷ xs) peers e in
    let below : k < length (x ∷ xs) = omega (arith, many, lt) in
    sent_of (get_or (x ∷ xs) k x) local (get_or peers k p).0 (get_or peers k p).1 log (side_at local (x ∷ xs) peers e k x p below lt) (each k x below)

pub heard : (all : Sessions) (local : Local) (peers : List (ℕ × ℕ)) (segments : List Segment) (log : List Entry) → AreWith all local peers → Hears all segments log → Heard local peers segments log
heard all local peers segments log with_peers took = record {
  in_order = took.in_order;
  each = λ k p lt. sent_at local all.sessions.items peers log with_peers took.stands.each k p lt;
}
