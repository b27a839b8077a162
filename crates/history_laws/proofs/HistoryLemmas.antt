-- The segments of a control file are of its peers, and bring bytes.
use Rattle.std.proofs.Common.{◌≢◌, All, ℕ, ◌<◌, List, [], ◌∷◌, ◌++◌, Contains, Option, length, subst}
use Rattle.std.specs.List.{AllByRecursion, AllPairs}
use Rattle.std.proofs.lemmas.List.Elements.{All-from_recursion, recursion_from_All}
use Rattle.wire_base.specs.Numbers.{AreBytes}
use Rattle.bgp_session.specs.declared.local_sides.Local.{Local}
use Rattle.control_files.specs.declared.reasons.Refusal.{Refusal}
use Rattle.control_files.specs.declared.segments.Mark.{Mark}
use Rattle.control_files.specs.declared.segments.Segment.{Segment}
use Rattle.control_files.specs.Reads.{ReadsControl}
use Rattle.control_files.specs.Segments.{AreSegments, head_bytes, mark_of, numbers, segment_bytes, segments_bytes, start}
use Rattle.sfc_routes.specs.Entries.{Entries}
use Rattle.sfc_routes.specs.PeerRoutes.{IsRouteChange}
use Rattle.sfc_routes.specs.declared.route_changes.RouteChange.{RouteChange}
use Rattle.sfc_routes.proofs.MemberLemmas.{all_back, all_front}
use Rattle.path_selection.specs.Paths.{ServicePath}
use Rattle.session_machine.specs.Groups.{Entry}
use Rattle.control_histories.specs.Logs.{AreOfPeers, Heard, changes_of}
use Rattle.control_histories.specs.Versions.{TableAfter}
use Rattle.history_laws.specs.Histories.{IsHistory}

-- ---- peers

peers_given : (peers : List (ℕ × ℕ)) (mark : Mark) (ss : List Segment) → AreSegments (numbers peers) mark ss → AllByRecursion (λ (s : Segment). Contains (numbers peers) s.peer) ss
peers_given peers mark [] each = tt
peers_given peers mark (s ∷ ss) each = (each.0.peer, peers_given peers (mark_of s) ss each.1)

pub peers_of_all : (peers : List (ℕ × ℕ)) (ss : List Segment) → AreSegments (numbers peers) start ss → AreOfPeers peers ss
peers_of_all peers ss each = All-from_recursion (λ (s : Segment). Contains (numbers peers) s.peer) ss (peers_given peers start ss each)

-- ---- bytes

abbrev AreSmall : List ℕ → Type 0
AreSmall bytes = AllByRecursion (λ (b : ℕ). b < 256) bytes

abbrev HasBytes : Segment → Type 0
HasBytes s = AreBytes s.bytes

each_has_bytes : (ss : List Segment) → AreSmall (segments_bytes ss) → AllByRecursion HasBytes ss
each_has_bytes [] small = tt
each_has_bytes (s ∷ ss) small =
    let own : AreSmall (segment_bytes s) = all_front (λ (b : ℕ). b < 256) (segment_bytes s) (segments_bytes ss) small in
    let more : AreSmall (segments_bytes ss) = all_back (λ (b : ℕ). b < 256) (segment_bytes s) (segments_bytes ss) small in (
      All-from_recursion (λ (b : ℕ). b < 256) s.bytes (all_back (λ (b : ℕ). b < 256) (head_bytes s.kind s.peer s.moment s.position (length s.bytes)) s.bytes own),
      each_has_bytes ss more,
    )

pub is_history : (peers : List (ℕ × ℕ)) (bytes : List ℕ) (segments : List Segment) (stop : Option Refusal) → AreBytes bytes → ReadsControl bytes (numbers peers) segments stop → IsHistory peers segments
is_history peers bytes segments stop are read =
    let whole : AreSmall (read.front ++ read.rest) = subst AreSmall read.joined (recursion_from_All (λ (b : ℕ). b < 256) bytes are) in
    let front : AreSmall (segments_bytes segments) = subst AreSmall read.is_control.all (all_front (λ (b : ℕ). b < 256) read.front read.rest whole) in
    record {
      of_peers = peers_of_all peers segments read.is_control.each;
      bytes = All-from_recursion HasBytes segments (each_has_bytes segments front);
    }

abbrev OfPeers : List (ℕ × ℕ) → Segment → Type 0
OfPeers peers s = Contains (numbers peers) s.peer

-- what comes first of a history is one
pub history_front : (peers : List (ℕ × ℕ)) (xs ys : List Segment) → IsHistory peers (xs ++ ys) → IsHistory peers xs
history_front peers xs ys is = record {
  of_peers = All-from_recursion (OfPeers peers) xs (all_front (OfPeers peers) xs ys (recursion_from_All (OfPeers peers) (xs ++ ys) is.of_peers));
  bytes = All-from_recursion HasBytes xs (all_front HasBytes xs ys (recursion_from_All HasBytes (xs ++ ys) is.bytes));
}

-- ---- what the laws on logs and tables say

abbrev pub SomeLog : Type 0
SomeLog = (local : Local) (peers : List (ℕ × ℕ)) (segments : List Segment) → AllPairs (λ p q. p.0 ≢ q.0) peers → AreOfPeers peers segments
    → All (λ (s : Segment). AreBytes s.bytes) segments → (log : List Entry) × Heard local peers segments log

abbrev pub Taken : Type 0
Taken = (local : Local) (peers : List (ℕ × ℕ)) (segments : List Segment) (log : List Entry) → AreOfPeers peers segments → Heard local peers segments log
    → AllByRecursion IsRouteChange (changes_of log)

abbrev pub SomeTable : Type 0
SomeTable = (roster : Entries) (changes : List RouteChange) → AllByRecursion IsRouteChange changes → (table : List ServicePath) × TableAfter roster changes table
