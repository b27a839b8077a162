-- Each round hands something over, and every two inputs have a trace.
use Rattle.std.proofs.Common.{List, [], ◌∷◌, ◌++◌, append-nil, append_assoc, refl, subst, sym}
use Rattle.std.specs.List.{AllByRecursion, AllZip}
use Rattle.wire_base.specs.Numbers.{AreBytes}
use Rattle.control_files.specs.declared.segments.Segment.{Segment}
use Rattle.pcap_io.specs.declared.frames.Captured.{Captured}
use Rattle.path_selection.specs.Paths.{ServicePath}
use Rattle.rounds.specs.Rounds.{Round, Rounds, frames_of, segments_of}
use Rattle.rounds.specs.Says.{Lines}
use Rattle.rounds.proofs.FrontRounds.{fronts}
use Rattle.rounds.proofs.RoundLemmas.{exists}
use Rattle.sfc_config.specs.Parts.{AreParts, Parts}
use Rattle.sfc_routes.proofs.MemberLemmas.{all_back, all_front}
use Rattle.sfc_routes.specs.declared.route_changes.RouteChange.{RouteChange}
use Rattle.control_histories.specs.Logs.{changes_of}
use Rattle.control_histories.specs.Versions.{TableAfter}
use Rattle.history_laws.specs.Histories.{IsHistory}
use Rattle.history_laws.proofs.HistoryLemmas.{history_front}
use Rattle.run_laws.proofs.RunExists.{Laws, SomeWalk, some_record}
use Rattle.worker_run.proofs.OneSaying.{OneLog}
use Rattle.worker_run.proofs.RunLemmas.{all_taken}
use Rattle.frame_traces.specs.Traces.{SaysTraces, TracesFrame}
use Rattle.frame_traces.specs.TraceRuns.{IsTrace, trace_says}
use Rattle.frame_traces.proofs.TraceRunLemmas.{rounds_trace}
use Rattle.trace_laws.proofs.TraceExists.{traces_frame}

abbrev pub HasBytes : Captured → Type 0
HasBytes frame = AreBytes frame.bytes

-- ---- one round

traces_each : SomeWalk → (setup : Parts) (changes : List RouteChange) (table : List ServicePath) (frames : List Captured) → AreParts setup → TableAfter setup.roster changes table → AllByRecursion HasBytes frames
    → (traces : List (List Captured)) × AllZip (λ frame handed. TracesFrame setup changes frame handed) frames traces
traces_each some setup changes table [] parts after are = ([], tt)
traces_each some setup changes table (frame ∷ frames) parts after are =
    let told = some_record some setup changes table frame after in
    let first = traces_frame setup changes frame told.0 parts are.0 told.1 in
    let rest = traces_each some setup changes table frames parts after are.1 in
    (first.0 ∷ rest.0, (first.1, rest.1))

pub traces_round : Laws → (setup : Parts) (history segments : List Segment) (frames : List Captured) → AreParts setup → IsHistory setup.peers (history ++ segments) → AllByRecursion HasBytes frames
    → (traces : List (List Captured)) × SaysTraces setup history segments frames traces
traces_round laws setup history segments frames parts is are =
    let log = laws.log setup.local setup.peers (history ++ segments) parts.peers_differ is.of_peers is.bytes in
    let table = laws.table setup.roster (changes_of log.0) (laws.taken setup.local setup.peers (history ++ segments) log.0 is.of_peers log.1) in
    let each = traces_each laws.walk setup (changes_of log.0) table.0 frames parts table.1 are in
    (each.0, record { log = log.0; heard = log.1; each = each.1 })

-- ---- all rounds

traces_rounds : Laws → (setup : Parts) (history : List Segment) (rounds : List Round) → AreParts setup → IsHistory setup.peers (history ++ segments_of rounds) → AllByRecursion HasBytes (frames_of rounds)
    → (traces : List (List Captured)) × Lines (trace_says setup) history rounds traces
traces_rounds laws setup history [] parts is are = ([], refl)
traces_rounds laws setup history (r ∷ rounds) parts is are =
    let front = history ++ r.segments in
    let all : IsHistory setup.peers (front ++ segments_of rounds) = subst (IsHistory setup.peers) (sym (append_assoc history r.segments (segments_of rounds))) is in
    let here = traces_round laws setup history r.segments r.frames parts (history_front setup.peers front (segments_of rounds) all) (all_front HasBytes r.frames (frames_of rounds) are) in
    let rest = traces_rounds laws setup front rounds parts all (all_back HasBytes r.frames (frames_of rounds) are) in
    (here.0 ++ rest.0, (here.0, rest.0, refl, here.1, rest.1))

pub some_trace : Laws → OneLog → (setup : Parts) (frames : List Captured) (segments : List Segment) → AreParts setup → IsHistory setup.peers segments → AllByRecursion HasBytes frames
    → (traces : List (List Captured)) × IsTrace setup frames segments traces
some_trace laws one_log setup frames segments parts is are =
    let rs = exists 0 frames segments in
    let cut = fronts 0 frames segments rs.0 [] (subst (λ (l : List Round). Rounds 0 frames segments l) (sym (append-nil rs.0)) rs.1) in
    let own : AllByRecursion HasBytes (frames_of rs.0) = all_front HasBytes (frames_of rs.0) cut.0 (subst (AllByRecursion HasBytes) cut.2 are) in
    let all : IsHistory setup.peers (segments_of rs.0) = subst (IsHistory setup.peers) (all_taken 0 frames segments rs.0 rs.1) is in
    let lines = traces_rounds laws setup [] rs.0 parts all own in
    (lines.0, rounds_trace one_log setup frames segments rs.0 lines.0 is.of_peers rs.1 lines.1)
