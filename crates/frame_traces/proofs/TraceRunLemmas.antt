-- What rounds hand over, one behind the other, is the trace of a run, and there is one.
use Rattle.std.proofs.Common.{◌≡◌, ℕ, ◌+◌, List, [], ◌∷◌, ◌++◌, append_assoc, append-nil, ap, length, length-append, map, refl, subst, sym, take, ◌∙◌}
use Rattle.std.specs.List.{AllZip}
use Rattle.std.proofs.Math.Seq.{take-append_seam}
use Rattle.control_files.specs.declared.segments.Segment.{Segment}
use Rattle.pcap_io.specs.declared.frames.Captured.{Captured}
use Rattle.rounds.specs.Places.{Place, places_of, round_places}
use Rattle.rounds.specs.Rounds.{Round, Rounds, segments_of}
use Rattle.rounds.specs.Says.{Lines}
use Rattle.rounds.proofs.RoundLemmas.{unique}
use Rattle.sfc_config.specs.Parts.{Parts}
use Rattle.sfc_routes.specs.Entries.{IsRoster}
use Rattle.sfc_routes.specs.declared.route_changes.RouteChange.{RouteChange}
use Rattle.session_machine.specs.Events.{beginning}
use Rattle.session_machine.specs.Groups.{Entry}
use Rattle.control_histories.specs.Logs.{AreOfPeers, Heard, changes_of}
use Rattle.control_histories.proofs.FrontLemmas.{front_heard}
use Rattle.worker_run.proofs.OneSaying.{OneLog}
use Rattle.worker_run.proofs.RunLemmas.{all_taken, log_long, part, peers_front, zip_join}
use Rattle.frame_traces.specs.Traces.{OneWalkEach, TracesFrame}
use Rattle.frame_traces.specs.TraceRuns.{IsTrace, TracesAt, trace_says}
use Rattle.frame_traces.proofs.TraceLemmas.{one_list_traced, zip_once}

-- ---- the frames of a round at their places

-- the log up to the round's last segment is its own log
own_log : (first last log : List Entry) (n : ℕ) → log ≡ first ++ last → length first ≡ n → take n log ≡ first
own_log first last log n joined many = ap (λ (l : List Entry). take n l) joined ∙ (ap (λ (k : ℕ). take k (first ++ last)) (sym many) ∙ take-append_seam first last)

abbrev places_here : ℕ → ℕ → List Captured → List Place
places_here before size frames = map (λ (f : Captured). record { frame = f; low = before; high = before + size }) frames

placed : (setup : Parts) (log own : List Entry) (before size : ℕ) (frames : List Captured) (traces : List (List Captured)) → take (before + size) log ≡ own
    → AllZip (λ f h. TracesFrame setup (changes_of own) f h) frames traces
    → AllZip (TracesAt setup log) (places_here before size frames) traces
placed setup log own before size [] [] same each = tt
placed setup log own before size [] (h ∷ hs) same each = absurd each
placed setup log own before size (f ∷ fs) [] same each = absurd each
placed setup log own before size (f ∷ fs) (h ∷ hs) same each =
    (subst (λ (l : List Entry). TracesFrame setup (changes_of l) f h) (sym same) each.0, placed setup log own before size fs hs same each.1)

unplaced : (setup : Parts) (log own : List Entry) (before size : ℕ) (frames : List Captured) (traces : List (List Captured)) → take (before + size) log ≡ own
    → AllZip (TracesAt setup log) (places_here before size frames) traces
    → AllZip (λ f h. TracesFrame setup (changes_of own) f h) frames traces
unplaced setup log own before size [] [] same each = tt
unplaced setup log own before size [] (h ∷ hs) same each = absurd each
unplaced setup log own before size (f ∷ fs) [] same each = absurd each
unplaced setup log own before size (f ∷ fs) (h ∷ hs) same each =
    (subst (λ (l : List Entry). TracesFrame setup (changes_of l) f h) same each.0, unplaced setup log own before size fs hs same each.1)

-- ---- from what rounds hand over to a trace

record TracedBehind (setup : Parts) (history : List Segment) (rounds : List Round) (traces : List (List Captured)) : Type 0 where
  log : List Entry
  heard : Heard setup.local setup.peers (history ++ segments_of rounds) log
  each : AllZip (TracesAt setup log) (places_of (length history) rounds) traces

together : OneLog → (setup : Parts) (history : List Segment) (log : List Entry) (rounds : List Round) (traces : List (List Captured)) → AreOfPeers setup.peers (history ++ segments_of rounds)
    → Heard setup.local setup.peers history log → Lines (trace_says setup) history rounds traces → TracedBehind setup history rounds traces
together one setup history log [] traces of_peers heard lines = record {
  log = log;
  heard = subst (λ (ss : List Segment). Heard setup.local setup.peers ss log) (sym (append-nil history)) heard;
  each = subst (AllZip (TracesAt setup log) []) (sym lines) tt;
}
together one setup history log (r ∷ rounds) traces of_peers heard (here, rest, joined, said, more) =
    let front = history ++ r.segments in
    let over : front ++ segments_of rounds ≡ history ++ segments_of (r ∷ rounds) = append_assoc history r.segments (segments_of rounds) in
    let all_peers : AreOfPeers setup.peers (front ++ segments_of rounds) = subst (AreOfPeers setup.peers) (sym over) of_peers in
    let run = together one setup front said.log rounds rest all_peers said.heard more in
    let cut = front_heard setup.local setup.peers front (segments_of rounds) run.log run.heard in
    let same : cut.0 ≡ said.log = one setup.local setup.peers front cut.0 said.log (peers_front setup.peers front (segments_of rounds) all_peers) cut.3 said.heard in
    let size = length r.segments in
    let before = length history in
    let many : length cut.0 ≡ before + size = log_long front cut.0 cut.3.in_order ∙ length-append history r.segments in
    let own : take (before + size) run.log ≡ said.log = own_log cut.0 cut.1 run.log (before + size) cut.2 many ∙ same in
    let at_places : AllZip (TracesAt setup run.log) (round_places before r) here = placed setup run.log said.log before size r.frames here own said.each in
    let behind : AllZip (TracesAt setup run.log) (places_of (before + size) rounds) rest =
    subst (λ (n : ℕ). AllZip (TracesAt setup run.log) (places_of n rounds) rest) (length-append history r.segments) run.each in
    record {
      log = run.log;
      heard = subst (λ (ss : List Segment). Heard setup.local setup.peers ss run.log) over run.heard;
      each = subst (AllZip (TracesAt setup run.log) (round_places before r ++ places_of (before + size) rounds)) (sym joined)
          (zip_join (TracesAt setup run.log) (round_places before r) (places_of (before + size) rounds) here rest at_places behind);
    }

nothing_heard : (setup : Parts) → Heard setup.local setup.peers [] []
nothing_heard setup = record { in_order = refl; each = λ k d lt. (beginning, refl) }

pub rounds_trace : OneLog → (setup : Parts) (frames : List Captured) (segments : List Segment) (rounds : List Round) (traces : List (List Captured)) → AreOfPeers setup.peers segments
    → Rounds 0 frames segments rounds → Lines (trace_says setup) [] rounds traces → IsTrace setup frames segments traces
rounds_trace one setup frames segments rounds traces of_peers are lines =
    let taken = all_taken 0 frames segments rounds are in
    let x = together one setup [] [] rounds traces (subst (AreOfPeers setup.peers) taken of_peers) (nothing_heard setup) lines in
    record { rounds = rounds; are = are; log = x.log; heard = subst (λ (ss : List Segment). Heard setup.local setup.peers ss x.log) (sym taken) x.heard; each = x.each }

-- ---- from a trace to what its rounds hand over

apart : (setup : Parts) (history : List Segment) (log : List Entry) (rounds : List Round) (traces : List (List Captured)) → Heard setup.local setup.peers (history ++ segments_of rounds) log
    → AllZip (TracesAt setup log) (places_of (length history) rounds) traces → Lines (trace_says setup) history rounds traces
apart setup history log [] [] heard each = refl
apart setup history log [] (h ∷ hs) heard each = absurd each
apart setup history log (r ∷ rounds) traces heard each =
    let front = history ++ r.segments in
    let over : front ++ segments_of rounds ≡ history ++ segments_of (r ∷ rounds) = append_assoc history r.segments (segments_of rounds) in
    let all : Heard setup.local setup.peers (front ++ segments_of rounds) log = subst (λ (ss : List Segment). Heard setup.local setup.peers ss log) (sym over) heard in
    let cut = front_heard setup.local setup.peers front (segments_of rounds) log all in
    let size = length r.segments in
    let before = length history in
    let many : length cut.0 ≡ before + size = log_long front cut.0 cut.3.in_order ∙ length-append history r.segments in
    let own : take (before + size) log ≡ cut.0 = own_log cut.0 cut.1 log (before + size) cut.2 many in
    let parts = part (TracesAt setup log) (round_places before r) (places_of (before + size) rounds) traces each in
    let behind : AllZip (TracesAt setup log) (places_of (length front) rounds) parts.last =
    subst (λ (n : ℕ). AllZip (TracesAt setup log) (places_of n rounds) parts.last) (sym (length-append history r.segments)) parts.back in (
      parts.first,
      parts.last,
      parts.joined,
      record { log = cut.0; heard = cut.3; each = unplaced setup log cut.0 before size r.frames parts.first own parts.front },
      apart setup front log rounds parts.last all behind,
    )

pub trace_rounds : (setup : Parts) (frames : List Captured) (segments : List Segment) (traces : List (List Captured)) → IsTrace setup frames segments traces
    → (rounds : List Round) × Rounds 0 frames segments rounds × Lines (trace_says setup) [] rounds traces
trace_rounds setup frames segments traces x =
    let taken = all_taken 0 frames segments x.rounds x.are in
    (x.rounds, x.are, apart setup [] x.log x.rounds traces (subst (λ (ss : List Segment). Heard setup.local setup.peers ss x.log) taken x.heard) x.each)

-- ---- one trace

pub one_trace : ((setup : Parts) (changes : List RouteChange) → IsRoster setup.roster → OneWalkEach setup changes) → OneLog → (setup : Parts) (frames : List Captured) (segments : List Segment) (here there : List (List Captured))
    → IsRoster setup.roster → AreOfPeers setup.peers segments → IsTrace setup frames segments here → IsTrace setup frames segments there → here ≡ there
one_trace one one_log setup frames segments here there is of_peers x y =
    let rounds : y.rounds ≡ x.rounds = unique 0 frames segments y.rounds x.rounds y.are x.are in
    let log : y.log ≡ x.log = one_log setup.local setup.peers segments y.log x.log of_peers y.heard x.heard in
    let other : AllZip (TracesAt setup x.log) (places_of 0 x.rounds) there =
    subst (λ (l : List Entry). AllZip (TracesAt setup l) (places_of 0 x.rounds) there) log (subst (λ (rs : List Round). AllZip (TracesAt setup y.log) (places_of 0 rs) there) rounds y.each) in
    zip_once (TracesAt setup x.log) (λ place u v. one_list_traced setup (changes_of (take place.high x.log)) place.frame u v (one setup (changes_of (take place.high x.log)) is)) (places_of 0 x.rounds) here there x.each other
