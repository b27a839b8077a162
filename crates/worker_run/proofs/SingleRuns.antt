-- The run on one thread: what its rounds say, that it is one on any number of workers, and that there is one.
use Rattle.std.proofs.Common.{◌≡◌, ℕ, ◌+◌, ◌≤◌, List, [], ◌∷◌, ◌++◌, length, All, refl, sym, ap, subst, ◌∙◌, arith, append_assoc}
use Rattle.std.specs.List.{AllByRecursion, AllZip}
use Rattle.std.proofs.lemmas.List.Elements.{All-tail, recursion_from_All}
use Rattle.control_files.specs.declared.segments.Segment.{Segment}
use Rattle.pcap_io.specs.declared.frames.Captured.{Captured}
use Rattle.record_text.specs.declared.records.Record.{Record}
use Rattle.rounds.specs.Rounds.{Round, Rounds, segments_of}
use Rattle.rounds.specs.Places.{places_of}
use Rattle.rounds.specs.Says.{Lines}
use Rattle.rounds.proofs.RoundLemmas.{unique}
use Rattle.session_machine.specs.Events.{beginning}
use Rattle.session_machine.specs.Groups.{Entry}
use Rattle.sfc_config.specs.Parts.{Parts}
use Rattle.sfc_routes.specs.Entries.{IsRoster}
use Rattle.sfc_routes.specs.declared.route_changes.RouteChange.{RouteChange}
use Rattle.control_histories.specs.Logs.{AreOfPeers, Heard, changes_of}
use Rattle.worker_run.specs.Records.{NamesOnly, SingleRecord}
use Rattle.worker_run.specs.Rounds.{SaysSingle}
use Rattle.worker_run.specs.Runs.{ClimbsWithin, IsRun, IsSingle, MayComeBehind, RecordAt, RunRecord, SaysRun, WorkersClimb, made, run_says, single_says}
use Rattle.worker_run.proofs.OneSaying.{OneLog}
use Rattle.worker_run.proofs.RunLemmas.{RecordWith, all_so, all_taken, apart, lines_so, made_all, made_rises, peers_front, together, with_says, zip_both, zip_map}

-- no further word
abbrev Nothing : ℕ → Record → Type 0
Nothing newest r = Unit {0}

-- ---- what rounds on workers say

plain : (setup : Parts) (workers : ℕ) (history : List Segment) (r : Round) (here : List Record) → run_says setup workers history r here → with_says Nothing setup workers history r here
plain setup workers history r here x = record {
  log = x.log;
  heard = x.heard;
  each = zip_map (RunRecord setup (changes_of x.log) (made x.log (length history)) (length (changes_of x.log)) workers)
      (λ f q. RunRecord setup (changes_of x.log) (made x.log (length history)) (length (changes_of x.log)) workers f q × Nothing (length (changes_of x.log)) q) (λ f q one. (one, tt)) r.frames here x.each;
  climb = x.climb;
}

plain_back : (setup : Parts) (workers : ℕ) (history : List Segment) (r : Round) (here : List Record) → with_says Nothing setup workers history r here → run_says setup workers history r here
plain_back setup workers history r here x = record {
  log = x.log;
  heard = x.heard;
  each = zip_map (λ f q. RunRecord setup (changes_of x.log) (made x.log (length history)) (length (changes_of x.log)) workers f q × Nothing (length (changes_of x.log)) q)
      (RunRecord setup (changes_of x.log) (made x.log (length history)) (length (changes_of x.log)) workers) (λ f q one. one.0) r.frames here x.each;
  climb = x.climb;
}

-- ---- what rounds on one thread say

pub made_most : (log : List Entry) (n : ℕ) → made log n ≤ length (changes_of log)
made_most log n =
    let rises = made_rises log n (n + length log) (omega arith) in
    let all = made_all log (n + length log) (omega arith) in
    omega (arith, rises, all)

climbs_only : (low newest : ℕ) (vs : List ℕ) → low ≤ newest → All (λ v. v ≡ newest) vs → ClimbsWithin low newest vs
climbs_only low newest [] le all = tt
climbs_only low newest (v ∷ vs) le all =
    let here : v ≡ newest = all 0 v (omega arith) in
    (omega (arith, le, here), omega (arith, here), climbs_only v newest vs (omega (arith, here)) (All-tail (λ w. w ≡ newest) v vs all))

single_run : (setup : Parts) (changes : List RouteChange) (low : ℕ) (frame : Captured) (r : Record) → low ≤ length changes → SingleRecord setup changes frame r
    → RunRecord setup changes low (length changes) 1 frame r × NamesOnly (length changes) r
single_run setup changes low frame r le x = (
  record { told = x.told; climbs = climbs_only low (length changes) r.versions.items le x.newest; worker_below = let is = x.worker_is in omega (arith, is) },
  x.newest,
)

run_single : (setup : Parts) (changes : List RouteChange) (low : ℕ) (frame : Captured) (r : Record) → RunRecord setup changes low (length changes) 1 frame r × NamesOnly (length changes) r → SingleRecord setup changes frame r
run_single setup changes low frame r x = record { told = x.0.told; newest = x.1; worker_is = let below = x.0.worker_below in omega (arith, below) }

newest_all : (setup : Parts) (changes : List RouteChange) (frames : List Captured) (records : List Record) → AllZip (λ f r. SingleRecord setup changes f r) frames records → AllByRecursion (NamesOnly (length changes)) records
newest_all setup changes [] [] all = tt
newest_all setup changes [] (r ∷ rs) all = absurd all
newest_all setup changes (f ∷ fs) [] all = absurd all
newest_all setup changes (f ∷ fs) (r ∷ rs) all = (all.0.newest, newest_all setup changes fs rs all.1)

newest_behind : (newest : ℕ) (r q : Record) → NamesOnly newest r → NamesOnly newest q → MayComeBehind r q
newest_behind newest r q a b = λ same.
    all_so (λ seen. seen ≡ newest) (λ seen. AllByRecursion (λ v. seen ≤ v) q.versions.items)
    (λ seen is. all_so (λ v. v ≡ newest) (λ v. seen ≤ v) (λ v e. omega (arith, is, e)) q.versions.items (recursion_from_All (λ v. v ≡ newest) q.versions.items b))
    r.versions.items (recursion_from_All (λ v. v ≡ newest) r.versions.items a)

climb_newest : (newest : ℕ) (records : List Record) → AllByRecursion (NamesOnly newest) records → WorkersClimb records
climb_newest newest [] all = tt
climb_newest newest (r ∷ rs) all = (all_so (NamesOnly newest) (MayComeBehind r) (λ q b. newest_behind newest r q all.0 b) rs all.1, climb_newest newest rs all.1)

single_with : (setup : Parts) (history : List Segment) (r : Round) (here : List Record) → single_says setup history r here → with_says NamesOnly setup 1 history r here
single_with setup history r here x =
    let changes = changes_of x.log in
    record {
      log = x.log;
      heard = x.heard;
      each = zip_map (λ f q. SingleRecord setup changes f q) (λ f q. RunRecord setup changes (made x.log (length history)) (length changes) 1 f q × NamesOnly (length changes) q)
          (λ f q one. single_run setup changes (made x.log (length history)) f q (made_most x.log (length history)) one) r.frames here x.each;
      climb = climb_newest (length changes) here (newest_all setup changes r.frames here x.each);
    }

with_single : (setup : Parts) (history : List Segment) (r : Round) (here : List Record) → with_says NamesOnly setup 1 history r here → single_says setup history r here
with_single setup history r here x =
    let changes = changes_of x.log in
    record {
      log = x.log;
      heard = x.heard;
      each = zip_map (λ f q. RunRecord setup changes (made x.log (length history)) (length changes) 1 f q × NamesOnly (length changes) q) (λ f q. SingleRecord setup changes f q)
          (λ f q one. run_single setup changes (made x.log (length history)) f q one) r.frames here x.each;
    }

more_workers : (setup : Parts) (changes : List RouteChange) (low high workers : ℕ) (frame : Captured) (r : Record) → 1 ≤ workers → RunRecord setup changes low high 1 frame r → RunRecord setup changes low high workers frame r
more_workers setup changes low high workers frame r some x = record { told = x.told; climbs = x.climbs; worker_below = let below = x.worker_below in omega (arith, some, below) }

-- a round on one thread is one on any number of workers
pub single_round : (setup : Parts) (workers : ℕ) (history segments : List Segment) (frames : List Captured) (records : List Record) → 1 ≤ workers → SaysSingle setup history segments frames records → SaysRun setup workers history segments frames records
single_round setup workers history segments frames records some x =
    let y = single_with setup history (record { segments = segments; frames = frames }) records x in
    let changes = changes_of y.log in
    record {
      log = y.log;
      heard = y.heard;
      each = zip_map (λ f q. RunRecord setup changes (made y.log (length history)) (length changes) 1 f q × NamesOnly (length changes) q) (RunRecord setup changes (made y.log (length history)) (length changes) workers)
          (λ f q one. more_workers setup changes (made y.log (length history)) (length changes) workers f q some one.0) frames records y.each;
      climb = y.climb;
    }

-- ---- runs

nothing_heard : (setup : Parts) → Heard setup.local setup.peers [] []
nothing_heard setup = record { in_order = refl; each = λ k d lt. (beginning, refl) }

pub runs : OneLog → (setup : Parts) (workers : ℕ) (frames : List Captured) (segments : List Segment) (rounds : List Round) (records : List Record)
    → AreOfPeers setup.peers segments → Rounds 0 frames segments rounds → Lines (run_says setup workers) [] rounds records → IsRun setup frames segments workers records
runs one setup workers frames segments rounds records of_peers are lines =
    let taken = all_taken 0 frames segments rounds are in
    let x = together one Nothing setup workers [] [] rounds records (subst (AreOfPeers setup.peers) taken of_peers) (nothing_heard setup)
    (lines_so (run_says setup workers) (with_says Nothing setup workers) (plain setup workers) [] rounds records lines) in
    record {
      rounds = rounds;
      are = are;
      log = x.log;
      heard = subst (λ (ss : List Segment). Heard setup.local setup.peers ss x.log) (sym taken) x.heard;
      each = zip_map (RecordWith Nothing setup x.log workers) (RecordAt setup x.log workers) (λ p r both. both.0) (places_of 0 rounds) records x.each;
      climb = x.climb;
    }

pub run_lines : (setup : Parts) (workers : ℕ) (frames : List Captured) (segments : List Segment) (records : List Record)
    → IsRun setup frames segments workers records → (rounds : List Round) × Rounds 0 frames segments rounds × Lines (run_says setup workers) [] rounds records
run_lines setup workers frames segments records x =
    let taken = all_taken 0 frames segments x.rounds x.are in
    let heard : Heard setup.local setup.peers (segments_of x.rounds) x.log = subst (λ (ss : List Segment). Heard setup.local setup.peers ss x.log) taken x.heard in
    let each = zip_map (RecordAt setup x.log workers) (RecordWith Nothing setup x.log workers) (λ p r one. (one, tt)) (places_of 0 x.rounds) records x.each in (
      x.rounds,
      x.are,
      lines_so (with_says Nothing setup workers) (run_says setup workers) (plain_back setup workers) [] x.rounds records (apart Nothing setup workers [] x.log x.rounds records heard each x.climb),
    )

pub singles_run : OneLog → (setup : Parts) (frames : List Captured) (segments : List Segment) (rounds : List Round) (records : List Record)
    → AreOfPeers setup.peers segments → Rounds 0 frames segments rounds → Lines (single_says setup) [] rounds records → IsSingle setup frames segments records
singles_run one setup frames segments rounds records of_peers are lines =
    let taken = all_taken 0 frames segments rounds are in
    let x = together one NamesOnly setup 1 [] [] rounds records (subst (AreOfPeers setup.peers) taken of_peers) (nothing_heard setup)
    (lines_so (single_says setup) (with_says NamesOnly setup 1) (single_with setup) [] rounds records lines) in
    record {
      run = record {
        rounds = rounds;
        are = are;
        log = x.log;
        heard = subst (λ (ss : List Segment). Heard setup.local setup.peers ss x.log) (sym taken) x.heard;
        each = zip_map (RecordWith NamesOnly setup x.log 1) (RecordAt setup x.log 1) (λ p r both. both.0) (places_of 0 rounds) records x.each;
        climb = x.climb;
      };
      newest = zip_map (RecordWith NamesOnly setup x.log 1) (λ p r. NamesOnly (made x.log p.high) r) (λ p r both. both.1) (places_of 0 rounds) records x.each;
    }

pub single_lines : (setup : Parts) (frames : List Captured) (segments : List Segment) (records : List Record)
    → IsSingle setup frames segments records → (rounds : List Round) × Rounds 0 frames segments rounds × Lines (single_says setup) [] rounds records
single_lines setup frames segments records s =
    let x = s.run in
    let taken = all_taken 0 frames segments x.rounds x.are in
    let heard : Heard setup.local setup.peers (segments_of x.rounds) x.log = subst (λ (ss : List Segment). Heard setup.local setup.peers ss x.log) taken x.heard in
    let each = zip_both (RecordAt setup x.log 1) (λ p r. NamesOnly (made x.log p.high) r) (places_of 0 x.rounds) records x.each s.newest in (
      x.rounds,
      x.are,
      lines_so (with_says NamesOnly setup 1) (single_says setup) (with_single setup) [] x.rounds records (apart NamesOnly setup 1 [] x.log x.rounds records heard each x.climb),
    )

pub single_is_run : (setup : Parts) (frames : List Captured) (segments : List Segment) (workers : ℕ) (records : List Record) → 1 ≤ workers → IsSingle setup frames segments records → IsRun setup frames segments workers records
single_is_run setup frames segments workers records some s =
    let x = s.run in
    record {
      rounds = x.rounds;
      are = x.are;
      log = x.log;
      heard = x.heard;
      each = zip_map (RecordAt setup x.log 1) (RecordAt setup x.log workers)
          (λ p r one. more_workers setup (changes_of x.log) (made x.log p.low) (made x.log p.high) workers p.frame r some one) (places_of 0 x.rounds) records x.each;
      climb = x.climb;
    }

-- ---- one run

abbrev pub OneSingle : Type 0
OneSingle = (setup : Parts) (history segments : List Segment) (frames : List Captured) (here there : List Record) → IsRoster setup.roster
    → AreOfPeers setup.peers (history ++ segments) → SaysSingle setup history segments frames here → SaysSingle setup history segments frames there → here ≡ there

one_lines : OneSingle → (setup : Parts) (history : List Segment) (rounds : List Round) (here there : List Record) → IsRoster setup.roster → AreOfPeers setup.peers (history ++ segments_of rounds)
    → Lines (single_says setup) history rounds here → Lines (single_says setup) history rounds there → here ≡ there
one_lines one setup history [] here there roster of_peers a b = a ∙ sym b
one_lines one setup history (r ∷ rounds) here there roster of_peers (x, xs, is_x, said_x, more_x) (y, ys, is_y, said_y, more_y) =
    let all : AreOfPeers setup.peers ((history ++ r.segments) ++ segments_of rounds) = subst (AreOfPeers setup.peers) (sym (append_assoc history r.segments (segments_of rounds))) of_peers in
    let first : x ≡ y = one setup history r.segments r.frames x y roster (peers_front setup.peers (history ++ r.segments) (segments_of rounds) all) said_x said_y in
    let rest : xs ≡ ys = one_lines one setup (history ++ r.segments) rounds xs ys roster all more_x more_y in
    is_x ∙ ap (λ (l : List Record). l ++ xs) first ∙ ap (λ (l : List Record). y ++ l) rest ∙ sym is_y

pub one_single : OneSingle → (setup : Parts) (frames : List Captured) (segments : List Segment) (here there : List Record) → IsRoster setup.roster → AreOfPeers setup.peers segments
    → IsSingle setup frames segments here → IsSingle setup frames segments there → here ≡ there
one_single one setup frames segments here there roster of_peers a b =
    let x = single_lines setup frames segments here a in
    let y = single_lines setup frames segments there b in
    let same : y.0 ≡ x.0 = unique 0 frames segments y.0 x.0 y.1 x.1 in
    one_lines one setup [] x.0 here there roster (subst (AreOfPeers setup.peers) (all_taken 0 frames segments x.0 x.1) of_peers) x.2
    (subst (λ (rs : List Round). Lines (single_says setup) [] rs there) same y.2)
