-- There is one summary for a seed and a number of frames.
use Rattle.std.proofs.Common.{◌≡◌, ℕ, ◌≤◌, List, sym, ap, subst, ◌∙◌}
use Rattle.control_files.specs.declared.segments.Segment.{Segment}
use Rattle.pcap_io.specs.declared.frames.Captured.{Captured}
use Rattle.record_text.specs.declared.records.Record.{Record}
use Rattle.session_machine.specs.Groups.{Entry}
use Rattle.sfc_config.specs.Parts.{Parts}
use Rattle.sfc_routes.specs.Entries.{IsRoster}
use Rattle.control_histories.specs.Logs.{AreOfPeers, Heard}
use Rattle.worker_run.specs.Runs.{IsSingle}
use Rattle.worker_run.proofs.OneSaying.{OneLog}
use Rattle.generated_inputs.specs.Segments.{generated_segments}
use Rattle.generated_inputs.proofs.InputLemmas.{may_run}
use Rattle.generated_inputs.proofs.SetupLemmas.{are_parts, parts_are}
use Rattle.generate_command.specs.declared.summaries.Summary.{Summary}
use Rattle.generate_command.specs.Summaries.{Counted, summary_of}

-- there is one run on one thread (`there_is_one_single_run`)
abbrev pub OneRun : Type 0
OneRun = (setup : Parts) (frames : List Captured) (segments : List Segment) (here there : List Record) → IsRoster setup.roster → AreOfPeers setup.peers segments → IsSingle setup frames segments here → IsSingle setup frames segments there → here ≡ there

pub one_summary : OneLog → OneRun → (seed count : ℕ) (here there : Summary) → count ≤ 65536 → Counted seed count here → Counted seed count there → here ≡ there
one_summary one_log one_run seed count here there most a b =
    let setup_a = parts_are a.setup a.generated.setup_is in
    let setup_b = parts_are b.setup b.generated.setup_is in
    let setup : b.setup ≡ a.setup = setup_b ∙ sym setup_a in
    let frames : b.frames ≡ a.frames = b.generated.frames_are ∙ sym a.generated.frames_are in
    let segments : b.segments ≡ a.segments = b.generated.segments_are ∙ (ap (λ (p : Parts). generated_segments p.local count) setup ∙ sym a.generated.segments_are) in
    let may = may_run seed count a.setup a.frames a.segments most a.generated in
    let roster : IsRoster a.setup.roster = subst (λ (p : Parts). IsRoster p.roster) (sym setup_a) are_parts.roster_fits in
    let run : IsSingle a.setup a.frames a.segments b.records =
    subst (λ (p : Parts). IsSingle p a.frames a.segments b.records) setup
    (subst (λ (fs : List Captured). IsSingle b.setup fs a.segments b.records) frames
    (subst (λ (ss : List Segment). IsSingle b.setup b.frames ss b.records) segments b.run)) in
    let heard : Heard a.setup.local a.setup.peers a.segments b.log =
    subst (λ (p : Parts). Heard p.local p.peers a.segments b.log) setup
    (subst (λ (ss : List Segment). Heard b.setup.local b.setup.peers ss b.log) segments b.heard) in
    let records : a.records ≡ b.records = one_run a.setup a.frames a.segments a.records b.records roster may.of_peers a.run run in
    let log : a.log ≡ b.log = one_log a.setup.local a.setup.peers a.segments a.log b.log may.of_peers a.heard heard in
    a.summary_is
    ∙ (ap (λ (fs : List Captured). summary_of fs a.records a.log) (sym frames)
    ∙ (ap (λ (rs : List Record). summary_of b.frames rs a.log) records
    ∙ (ap (λ (l : List Entry). summary_of b.frames b.records l) log ∙ sym b.summary_is)))
