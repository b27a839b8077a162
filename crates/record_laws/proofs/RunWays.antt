-- What holds of each place of a run holds of its frames, in order.
use Rattle.std.proofs.Common.{◌≡◌, ℕ, ◌+◌, List, [], ◌∷◌, ◌++◌, length, map, take, drop, sym, ap, subst, ◌∙◌}
use Rattle.std.specs.List.{AllZip}
use Rattle.std.proofs.lemmas.List.{take-append-drop}
use Rattle.control_files.specs.declared.segments.Segment.{Segment}
use Rattle.pcap_io.specs.declared.frames.Captured.{Captured}
use Rattle.record_text.specs.declared.records.Record.{Record}
use Rattle.rounds.specs.Rounds.{Round, Rounds}
use Rattle.rounds.specs.Places.{Place, places_of, round_places}
use Rattle.rounds.proofs.LastLemmas.{frames_at}
use Rattle.sfc_config.specs.Parts.{AreParts, Parts}
use Rattle.control_histories.specs.Logs.{changes_of}
use Rattle.worker_run.specs.Runs.{IsRun, RecordAt, made}
use Rattle.worker_run.proofs.RunLemmas.{part, zip_join}
use Rattle.record_laws.specs.Ways.{IsToldRun, TellsWay}
use Rattle.record_laws.proofs.WayLemmas.{Laws, way}

of_round : (P : Place → Record → Type 0) (Q : Captured → Record → Type 0) → ((place : Place) (r : Record) → P place r → Q place.frame r) → (low high : ℕ) (frames : List Captured) (records : List Record)
    → AllZip P (map (λ (f : Captured). record { frame = f; low = low; high = high }) frames) records → AllZip Q frames records
of_round P Q f low high [] [] all = tt
of_round P Q f low high [] (r ∷ rs) all = absurd all
of_round P Q f low high (x ∷ xs) [] all = absurd all
of_round P Q f low high (x ∷ xs) (r ∷ rs) all = (f (record { frame = x; low = low; high = high }) r all.0, of_round P Q f low high xs rs all.1)

of_rounds : (P : Place → Record → Type 0) (Q : Captured → Record → Type 0) → ((place : Place) (r : Record) → P place r → Q place.frame r)
    → (before place : ℕ) (frames : List Captured) (segments : List Segment) (rounds : List Round) (records : List Record) → Rounds place frames segments rounds
    → AllZip P (places_of before rounds) records → AllZip Q frames records
of_rounds P Q f before place frames segments [] [] are all = subst (λ (fs : List Captured). AllZip Q fs []) (sym are.0) tt
of_rounds P Q f before place frames segments [] (r ∷ rs) are all = absurd all
of_rounds P Q f before place frames segments (round ∷ rounds) records are all =
    let size = length round.frames in
    let parts = part P (round_places before round) (places_of (before + length round.segments) rounds) records all in
    let front = of_round P Q f before (before + length round.segments) round.frames parts.first parts.front in
    let back =
    of_rounds P Q f (before + length round.segments) (place + size) (drop size frames) (drop (length round.segments) segments) rounds parts.last are.3 parts.back in
    let first : round.frames ≡ take size frames = are.2 ∙ (frames_at place frames segments ∙ ap (λ (fs : List Captured). take (length fs) frames) (sym are.2)) in
    let whole : round.frames ++ drop size frames ≡ frames = ap (λ (fs : List Captured). fs ++ drop size frames) first ∙ take-append-drop size frames in
    subst (λ (rs : List Record). AllZip Q frames rs) (sym parts.joined)
    (subst (λ (fs : List Captured). AllZip Q fs (parts.first ++ parts.last)) whole
    (zip_join Q round.frames (drop size frames) parts.first parts.last front back))

pub ways : Laws → (setup : Parts) (workers : ℕ) (frames : List Captured) (segments : List Segment) (records : List Record) → AreParts setup → IsRun setup frames segments workers records
    → IsToldRun setup workers frames segments records
ways laws setup workers frames segments records parts run = record {
  run = run;
  ways = of_rounds (RecordAt setup run.log workers) (TellsWay setup (changes_of run.log))
      (λ place r x. way laws setup (changes_of run.log) (made run.log place.low) (made run.log place.high) workers place.frame r parts x)
      0 0 frames segments run.rounds records run.are run.each;
}
