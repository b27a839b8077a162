-- From one round to the next.
use Rattle.std.proofs.Common.{◌≡◌, ℕ, ◌+◌, ◌≤◌, Bool, List, [], ◌∷◌, ◌++◌, append_assoc, length, map, take, drop, Result, Ok, Err, OnOk, refl, sym, ap, subst, ◌∙◌, arith, length-append}
use Rattle.std.specs.Prelude.{Contains}
use Rattle.std.specs.List.{filter}
use Rattle.std.proofs.lemmas.List.{length-map, length-take-le, take-append-drop}
use Rattle.std.proofs.lemmas.List.Elements.{All-drop, All-map, All-take, filter-append}
use Rattle.std.proofs.lemmas.Slice.Zip.{AllZip-long}
use Rattle.control_files.specs.declared.segments.Segment.{Segment}
use Rattle.control_files.specs.Segments.{numbers}
use Rattle.pcap_io.specs.declared.frames.Captured.{Captured}
use Rattle.pcap_io.specs.Captures.{IsWithinLimits}
use Rattle.record_text.specs.declared.records.Record.{Record}
use Rattle.session_machine.specs.Groups.{Entry}
use Rattle.session_machine.specs.Peers.{AllHold}
use Rattle.sfc_config.specs.Parts.{Parts}
use Rattle.rounds.specs.Rounds.{Round}
use Rattle.rounds.specs.Views.{Inputs, IsNext, Leads, View, after, place_of, view_at_first}
use Rattle.rounds.proofs.LeadLemmas.{leads, leads_over}
use Rattle.control_histories.specs.Logs.{AreOfPeers, changes_of}
use Rattle.worker_run.specs.declared.runners.Runner.{Runner}
use Rattle.worker_run.specs.Batches.{AreWithinLimits, Carried, frames_in, pushed, records_in}
use Rattle.worker_run.specs.Controls.{HasRoomFor, bytes_in}
use Rattle.worker_run.specs.Rounds.{SaysSingle}
use Rattle.worker_run.specs.Runners.{Carries, Stands}
use Rattle.worker_run.specs.Runs.{single_says}
use Rattle.file_runs.proofs.TakenLemmas.{bytes_more}
use Rattle.generate_command.specs.declared.counted_runs.CountedRun.{CountedRun}
use Rattle.generate_command.specs.declared.memory_rounds.RoundSize.{RoundSize}
use Rattle.generate_command.specs.declared.summaries.Summary.{Summary}
use Rattle.generate_command.specs.Summaries.{drops, goes, summary_of}
use Rattle.generate_command.specs.GenerateSteps.{Along, CountsRound, IsNextSize, IsRoomy, view_of}
use Rattle.generate_command.proofs.CountLemmas.{few_counted}

-- the frames that are taken in are those that were pushed
frames_pushed : (frames : List Captured) → frames_in (map pushed frames) ≡ frames
frames_pushed [] = refl
frames_pushed (f ∷ fs) = ap (λ (l : List Captured). f ∷ l) (frames_pushed fs)

-- ---- what is asked before a round is run

pub round_limits : (setup : Parts) (whole : Inputs) (run : CountedRun) (frames : List Captured) (segments : List Segment) (batch : List Carried) (n : ℕ) → Along setup whole run frames segments → batch ≡ map pushed (take n frames) → AreWithinLimits batch
round_limits setup whole run frames segments batch n along is =
    subst (λ (b : List Carried). AreWithinLimits b) (sym is) (All-map (λ (c : Carried). IsWithinLimits c.frame) pushed (take n frames) (All-take IsWithinLimits n frames along.fit.limits))

pub round_peers : (setup : Parts) (whole : Inputs) (run mid : CountedRun) (frames : List Captured) (segments : List Segment) (n : ℕ) → Along setup whole run frames segments → mid.runner ≡ run.runner → mid.group ≡ take n segments → AreOfPeers mid.runner.setup.peers mid.group
round_peers setup whole run mid frames segments n along same is =
    let setup_is : mid.runner.setup ≡ setup = ap (λ (r : Runner). r.setup) same ∙ along.setup_is in
    subst (λ (p : Parts). AreOfPeers p.peers mid.group) (sym setup_is) (subst (λ (ss : List Segment). AreOfPeers setup.peers ss) (sym is) (All-take (λ (s : Segment). Contains (numbers setup.peers) s.peer) n segments along.fit.of_peers))

bytes_taken : (history segments all : List Segment) (n : ℕ) → history ++ segments ≡ all → bytes_in history + bytes_in (take n segments) ≤ bytes_in all
bytes_taken history segments all n are =
    let both = ap bytes_in are in
    let cut = ap bytes_in (take-append-drop n segments) in
    omega (arith, both, cut, bytes_more history segments, bytes_more (take n segments) (drop n segments))

pub round_room : (setup : Parts) (whole : Inputs) (run mid : CountedRun) (frames : List Captured) (segments : List Segment) (n : ℕ) → Along setup whole run frames segments → mid.runner ≡ run.runner → mid.group ≡ take n segments → HasRoomFor mid.runner.control mid.group
round_room setup whole run mid frames segments n along same is = (
  bytes_in along.history,
  subst (λ (r : Runner). AllHold (bytes_in along.history) r.control.sessions.sessions.items) (sym same) along.hold,
  (let few = bytes_taken along.history segments whole.segments n along.segments_are in let taken = ap bytes_in is in omega (arith, few, taken, along.few_bytes)),
)

pub round_counted : (setup : Parts) (whole : Inputs) (run mid : CountedRun) (frames : List Captured) (segments : List Segment) (n : ℕ) → Along setup whole run frames segments → mid.summary ≡ run.summary → mid.batch ≡ map pushed (take n frames) → n ≤ length frames → IsRoomy mid
round_counted setup whole run mid frames segments n along same is few =
    let counted : mid.summary ≡ summary_of along.passed along.said along.log = same ∙ along.counted in
    let all = ap length along.frames_are in
    let size = ap length is in
    let many = length-map (take n frames) pushed in
    let taken = length-take-le n frames few in
    let so_far : mid.summary.frames ≡ length along.passed = ap (λ (s : Summary). s.frames) counted in
    let out : mid.summary.egress ≡ length (filter goes along.said) = ap (λ (s : Summary). s.egress) counted in
    let dropped : mid.summary.dropped ≡ length (filter drops along.said) = ap (λ (s : Summary). s.dropped) counted in
    let least = length-append along.passed frames in (
      omega (arith, all, size, many, taken, few, so_far, least, along.few_frames),
      omega (arith, all, size, many, taken, few, out, few_counted goes along.said, along.each, least, along.few_frames),
      omega (arith, all, size, many, taken, few, dropped, few_counted drops along.said, along.each, least, along.few_frames),
    )

-- ---- behind it

-- summaries with the same counts
same_summary : (a b : Summary) → a.frames ≡ b.frames → a.egress ≡ b.egress → a.dropped ≡ b.dropped → a.last_version ≡ b.last_version → a ≡ b
same_summary a b frames egress dropped version = λ k. record { frames = frames k; egress = egress k; dropped = dropped k; last_version = version k }

joined_counts : (p : Record → Bool) (said more : List Record) → length (filter p (said ++ more)) ≡ length (filter p said) + length (filter p more)
joined_counts p said more = ap length (filter-append p said more) ∙ length-append (filter p said) (filter p more)

-- how many records a round says
many_records : (history : List Segment) (log : List Entry) (old new : CountedRun) → CountsRound history log old new → length (records_in new.batch) ≡ length old.batch
many_records history log old new round =
    let rounded = round.rounded in
    length-map new.batch (λ (c : Carried). c.outcome) ∙ AllZip-long (Carries new.runner.setup (changes_of (log ++ rounded.now))) old.batch new.batch rounded.each

-- what a round says of the frames that were taken
round_says : (setup : Parts) (history : List Segment) (log : List Entry) (frames : List Captured) (segments : List Segment) (old new : CountedRun) → CountsRound history log old new → new.runner.setup ≡ setup → old.batch ≡ map pushed frames → old.group ≡ segments → SaysSingle setup history segments frames (records_in new.batch)
round_says setup history log frames segments old new round setup_is frames_are segments_are =
    let records = records_in new.batch in
    let given : frames_in old.batch ≡ frames = ap frames_in frames_are ∙ frames_pushed frames in
    subst (λ (p : Parts). SaysSingle p history segments frames records) setup_is
    (subst (λ (ss : List Segment). SaysSingle new.runner.setup history ss frames records) segments_are
    (subst (λ (fs : List Captured). SaysSingle new.runner.setup history old.group fs records) given round.rounded.says))

-- the next round is led to
leads_on : (setup : Parts) (whole : Inputs) (passed : List Captured) (history : List Segment) (said here : List Record) (frames : List Captured) (segments : List Segment) (size : RoundSize) → IsNextSize (length passed) frames segments size → SaysSingle setup history (take size.segments segments) (take size.frames frames) here
    → Leads (single_says setup) (view_at_first whole) (view_of passed history said frames segments)
    → Leads (single_says setup) (view_at_first whole) (view_of (passed ++ take size.frames frames) (history ++ take size.segments segments) (said ++ here) (drop size.frames frames) (drop size.segments segments))
leads_on setup whole passed history said here frames segments size next says so_far =
    let v : View Record = view_of passed history said frames segments in
    let r : Round = record { segments = take size.segments segments; frames = take size.frames frames } in
    let is_next : IsNext (place_of v) v.left r = record { some = next.some; segments_are = next.segments_are; frames_are = next.frames_are; is_open = λ none. refl; known = λ none. refl } in
    let on : Leads (single_says setup) (view_at_first whole) (after v r here) = leads_over (single_says setup) (view_at_first whole) v (after v r here) so_far (leads (single_says setup) v r here is_next says) in
    let few_frames : length r.frames ≡ size.frames = length-take-le size.frames frames next.few_frames in
    let few_segments : length r.segments ≡ size.segments = length-take-le size.segments segments next.few_segments in
    subst (λ (n : ℕ). Leads (single_says setup) (view_at_first whole) (view_of (passed ++ r.frames) (history ++ r.segments) (said ++ here) (drop n frames) (drop size.segments segments))) few_frames
    (subst (λ (n : ℕ). Leads (single_says setup) (view_at_first whole) (view_of (passed ++ r.frames) (history ++ r.segments) (said ++ here) (drop (length r.frames) frames) (drop n segments))) few_segments on)

-- what is counted behind it
counted_on : (passed : List Captured) (history : List Segment) (said : List Record) (log : List Entry) (frames : List Captured) (old new : CountedRun) → (round : CountsRound history log old new) → old.summary ≡ summary_of passed said log → old.batch ≡ map pushed frames → new.summary ≡ summary_of (passed ++ frames) (said ++ records_in new.batch) (log ++ round.rounded.now)
counted_on passed history said log frames old new round counted are =
    let size : length new.batch ≡ length frames =
    sym (length-map new.batch (λ (c : Carried). c.outcome)) ∙ (many_records history log old new round ∙ (ap length are ∙ length-map frames pushed)) in
    let so_far : old.summary.frames ≡ length passed = ap (λ (s : Summary). s.frames) counted in
    let out : old.summary.egress ≡ length (filter goes said) = ap (λ (s : Summary). s.egress) counted in
    let dropped : old.summary.dropped ≡ length (filter drops said) = ap (λ (s : Summary). s.dropped) counted in
    same_summary new.summary (summary_of (passed ++ frames) (said ++ records_in new.batch) (log ++ round.rounded.now))
    (omega (arith, round.frames_are, so_far, size, length-append passed frames))
    (omega (arith, round.egress_is, out, joined_counts goes said (records_in new.batch)))
    (omega (arith, round.dropped_is, dropped, joined_counts drops said (records_in new.batch)))
    (round.version_is ∙ round.rounded.stands.publishes.follows.version)

put_over : {A : Type 0} (old all rest : List A) (n : ℕ) → old ++ rest ≡ all → (old ++ take n rest) ++ drop n rest ≡ all
put_over old all rest n are = append_assoc old (take n rest) (drop n rest) ∙ (ap (λ l. old ++ l) (take-append-drop n rest) ∙ are)

along_on : (setup : Parts) (whole : Inputs) (run mid new : CountedRun) (frames : List Captured) (segments : List Segment) (size : RoundSize) → (along : Along setup whole run frames segments) → IsNextSize run.summary.frames frames segments size
    → mid.batch ≡ map pushed (take size.frames frames) → mid.group ≡ take size.segments segments → mid.runner ≡ run.runner → mid.summary ≡ run.summary → new.runner.setup ≡ mid.runner.setup
    → CountsRound along.history along.log mid new → AllHold (bytes_in along.history + bytes_in mid.group) new.runner.control.sessions.sessions.items
    → Along setup whole new (drop size.frames frames) (drop size.segments segments)
along_on setup whole run mid new frames segments size along next batch_is group_is runner_is summary_is same round hold =
    let fs : List Captured = take size.frames frames in
    let ss : List Segment = take size.segments segments in
    let here : List Record = records_in new.batch in
    let counted : mid.summary ≡ summary_of along.passed along.said along.log = summary_is ∙ along.counted in
    let setup_is : new.runner.setup ≡ setup = same ∙ (ap (λ (r : Runner). r.setup) runner_is ∙ along.setup_is) in
    let place : run.summary.frames ≡ length along.passed = ap (λ (s : Summary). s.frames) along.counted in
    record {
      passed = along.passed ++ fs;
      history = along.history ++ ss;
      log = along.log ++ round.rounded.now;
      said = along.said ++ here;
      frames_are = put_over along.passed whole.frames frames size.frames along.frames_are;
      segments_are = put_over along.history whole.segments segments size.segments along.segments_are;
      few_frames = along.few_frames;
      few_bytes = along.few_bytes;
      fit = record {
        limits = All-drop IsWithinLimits size.frames frames along.fit.limits;
        of_peers = All-drop (λ (s : Segment). Contains (numbers setup.peers) s.peer) size.segments segments along.fit.of_peers;
        short = All-drop (λ (s : Segment). length s.bytes ≤ 65535) size.segments segments along.fit.short;
      };
      setup_is = setup_is;
      stands = subst (λ (g : List Segment). Stands new.runner (along.history ++ g) (along.log ++ round.rounded.now)) group_is round.rounded.stands;
      hold = subst (λ (n : ℕ). AllHold n new.runner.control.sessions.sessions.items) (ap (λ (g : List Segment). bytes_in along.history + bytes_in g) group_is ∙ sym (bytes_more along.history ss)) hold;
      each =
          let many = many_records along.history along.log mid new round in
          let size_is = ap length batch_is in
          omega (arith, many, size_is, along.each, length-map fs pushed, length-append along.said here, length-append along.passed fs);
      leads = leads_on setup whole along.passed along.history along.said here frames segments size (subst (λ (n : ℕ). IsNextSize n frames segments size) place next)
          (round_says setup along.history along.log fs ss mid new round setup_is batch_is group_is) along.leads;
      counted = counted_on along.passed along.history along.said along.log fs mid new round counted batch_is;
    }

pub along_next : (setup : Parts) (whole : Inputs) (run mid new : CountedRun) (frames : List Captured) (segments : List Segment) (size : RoundSize) {E : Type 0} (r : Result (Unit {0}) E) → (along : Along setup whole run frames segments) → IsNextSize run.summary.frames frames segments size
    → mid.batch ≡ map pushed (take size.frames frames) → mid.group ≡ take size.segments segments → mid.runner ≡ run.runner → mid.summary ≡ run.summary → new.runner.setup ≡ mid.runner.setup
    → OnOk r (CountsRound along.history along.log mid new) → OnOk r (AllHold (bytes_in along.history + bytes_in mid.group) new.runner.control.sessions.sessions.items)
    → OnOk r (Along setup whole new (drop size.frames frames) (drop size.segments segments))
along_next setup whole run mid new frames segments size (Ok done) along next batch_is group_is runner_is summary_is same round hold =
    along_on setup whole run mid new frames segments size along next batch_is group_is runner_is summary_is same round hold
along_next setup whole run mid new frames segments size (Err fault) along next batch_is group_is runner_is summary_is same round hold = tt
