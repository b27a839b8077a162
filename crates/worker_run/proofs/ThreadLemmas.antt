-- A round on threads: the table after its segments, and what it says.
use Rattle.std.proofs.Common.{◌≡◌, ℕ, ◌+◌, false, List, [], ◌∷◌, ◌++◌, None, length, map, sym, ap, subst, ◌∙◌, arith, length-append, inr}
use Rattle.std.specs.List.{AllZip}
use Rattle.control_files.specs.declared.segments.Segment.{Segment}
use Rattle.session_machine.specs.declared.machines.Session.{Session}
use Rattle.session_machine.specs.Groups.{Entry}
use Rattle.sfc_config.specs.Parts.{Parts}
use Rattle.sfc_routes.specs.declared.route_changes.RouteChange.{RouteChange}
use Rattle.path_selection.specs.declared.changes.Change.{Change}
use Rattle.path_selection.specs.Paths.{ServicePath}
use Rattle.table_publish.specs.Publications.{after, table_of, version_of}
use Rattle.control_histories.specs.Logs.{changes_of}
use Rattle.control_histories.specs.Replies.{reply_bytes}
use Rattle.control_histories.specs.Versions.{TableAfter}
use Rattle.control_histories.proofs.HeardLemmas.{heard}
use Rattle.control_histories.proofs.ReplyLemmas.{bytes_behind}
use Rattle.worker_run.specs.declared.controls.Control.{Control}
use Rattle.worker_run.specs.declared.runners.Runner.{Runner}
use Rattle.worker_run.specs.declared.versions.Versions.{Versions}
use Rattle.worker_run.specs.Batches.{Carried, frames_in, records_in}
use Rattle.worker_run.specs.Controls.{Publishes}
use Rattle.worker_run.specs.Publications.{AreVersions, TookEach, latest}
use Rattle.worker_run.specs.Runners.{IsSound, RoundedOnThreads, RunCarries}
use Rattle.worker_run.specs.Runs.{RunRecord, WorkersClimb, made}
use Rattle.worker_run.specs.Shares.{AreShared, published_on, slots_of}
use Rattle.worker_run.specs.Steps.{RanOnThreads}
use Rattle.worker_run.proofs.CarryLemmas.{all_carry}
use Rattle.worker_run.proofs.ClimbLemmas.{parts_climb}
use Rattle.worker_run.proofs.DealtLemmas.{shared_dealt}
use Rattle.worker_run.proofs.OutputLemmas.{outs}
use Rattle.worker_run.proofs.RoundLemmas.{changes_behind}
use Rattle.worker_run.proofs.RunLemmas.{log_long, made_all, made_front}
use Rattle.worker_run.proofs.VersionLemmas.{last_version}

-- a round's lists make the versions behind its opening table, of which the last is the one after all
pub record Behind (setup : Parts) (log now : List Entry) (table last : List ServicePath) (lists : List (List Change)) : Type 0 where
  pub are : AreVersions setup.roster (changes_of log) (changes_of now) table lists
  pub last_is : last ≡ after table lists

pub behind : (setup : Parts) (table : List ServicePath) (control : Control) (history : List Segment) (log : List Entry) (segments : List Segment) (before replies : List ℕ) (v w : Versions)
    → v.lists.items ≡ [] → v.last ≡ None → (y : TookEach setup.roster table control history log segments before replies v w) → Behind setup log y.took.now table (latest table w.last) w.lists.items
behind setup table control history log segments before replies v w none first y =
    let all : w.lists.items ≡ y.adds.made = y.adds.lists_are ∙ ap (λ (l : List (List Change)). l ++ y.adds.made) none in
    let opening : latest table v.last ≡ table = ap (latest table) first in
    record {
      are = subst (λ (l : List (List Change)). AreVersions setup.roster (changes_of log) (changes_of y.took.now) table l) (sym all)
          (subst (λ (t : List ServicePath). AreVersions setup.roster (changes_of log) (changes_of y.took.now) t y.adds.made) opening y.adds.are);
      last_is = y.adds.last_is ∙ ap (λ (t : List ServicePath). after t y.adds.made) opening ∙ ap (after table) (sym all);
    }

pub last_number : (setup : Parts) (log now : List Entry) (table last : List ServicePath) (lists : List (List Change)) (version number : ℕ) → Behind setup log now table last lists
    → version ≡ length (changes_of log) → number ≡ length (changes_of (log ++ now)) → number ≡ version + length lists
last_number setup log now table last lists version number x is all =
    let many = (last_version setup.roster (changes_of log) (changes_of now) table lists x.are).1 in
    omega (arith, is, all, many, ap length (changes_behind log now), length-append (changes_of log) (changes_of now))

-- the last table and its number, as publications have them
pub last_published : (setup : Parts) (old control : Control) (table : List ServicePath) (history : List Segment) (log : List Entry) (segments : List Segment) (before replies : List ℕ) (v w : Versions)
    → Publishes setup old table history log → v.lists.items ≡ [] → v.last ≡ None → TookEach setup.roster table control history log segments before replies v w
    → (latest table w.last ≡ table_of (published_on table old.version w.lists.items)) × (control.version ≡ version_of (published_on table old.version w.lists.items))
last_published setup old control table history log segments before replies v w x none first y =
    let b = behind setup table control history log segments before replies v w none first y in
    (b.last_is, last_number setup log y.took.now table (latest table w.last) w.lists.items old.version control.version b x.follows.version y.took.follows.version)

module _ (setup : Parts) (workers : ℕ) (history : List Segment) (log : List Entry) (segments : List Segment) where
  pub ran_on_threads : (old control : Control) (table last : List ServicePath) (batch new_batch : List Carried) (replies : List ℕ) (v w : Versions)
      → map (λ (s : Session). s.side) control.sessions.sessions.items ≡ map (λ (s : Session). s.side) old.sessions.sessions.items
      → Publishes setup old table history log → v.lists.items ≡ [] → v.last ≡ None → TookEach setup.roster table control history log segments [] replies v w
      → last ≡ latest table w.last → AreShared setup (published_on table old.version w.lists.items) workers batch new_batch
      → RanOnThreads setup workers control last history log segments batch new_batch replies
  ran_on_threads old control table last batch new_batch replies v w sides x none first y is shared =
      let now = y.took.now in
      let changes = changes_behind log now in
      let b = behind setup table control history log segments [] replies v w none first y in
      let after_all : TableAfter setup.roster (changes_of log ++ changes_of now) last =
      subst (TableAfter setup.roster (changes_of log ++ changes_of now)) (sym (is ∙ b.last_is)) (last_version setup.roster (changes_of log) (changes_of now) table w.lists.items b.are).0 in
      let R : List RouteChange → Carried → Carried → Type 0 = λ all c d. RunCarries setup all (length (changes_of log)) (length all) workers c d in
      let each = all_carry setup (changes_of log) (changes_of now) (published_on table old.version w.lists.items) workers shared.before shared.parts x.follows.version b.are shared.many shared.numbered shared.forwarded in
      let climbing = parts_climb setup (published_on table old.version w.lists.items) 0 shared.before shared.parts shared.numbered shared.forwarded in
      record {
        now = now;
        logs = y.took.logs;
        publishes = record {
          with_peers = sides ∙ x.with_peers;
          follows = y.took.follows;
          table_is = subst (λ (l : List RouteChange). TableAfter setup.roster l last) (sym changes) after_all;
        };
        replies_are = y.took.replies;
        each = subst (λ (all : List RouteChange). AllZip (R all) batch new_batch) (sym changes)
            (subst (λ (cs : List Carried). AllZip (R (changes_of log ++ changes_of now)) cs new_batch) (sym shared.old_is)
            (subst (λ (ds : List Carried). AllZip (R (changes_of log ++ changes_of now)) (slots_of shared.before) ds) (sym shared.new_is) each));
        climb = subst (λ (ds : List Carried). WorkersClimb (records_in ds)) (sym shared.new_is) climbing.climb;
        dealt = shared_dealt setup (published_on table old.version w.lists.items) workers batch new_batch shared;
      }

run_records : (setup : Parts) (changes : List RouteChange) (low lower high workers : ℕ) (old new : List Carried) → low ≡ lower → AllZip (λ c d. RunCarries setup changes low high workers c d) old new
    → AllZip (RunRecord setup changes lower high workers) (frames_in old) (records_in new)
run_records setup changes low lower high workers [] [] is all = tt
run_records setup changes low lower high workers [] (d ∷ ds) is all = absurd all
run_records setup changes low lower high workers (c ∷ cs) [] is all = absurd all
run_records setup changes low lower high workers (c ∷ cs) (d ∷ ds) is all =
    (subst (λ (l : ℕ). RunRecord setup changes l high workers c.frame d.outcome) is all.0.recorded, run_records setup changes low lower high workers cs ds is all.1)

pub rounded_on_threads : (runner : Runner) (history : List Segment) (log : List Entry) (segments : List Segment) (old new : List Carried) (replies : List ℕ) (before : Control) (table : List ServicePath)
    → runner.failed ≡ false → Publishes runner.setup before table history log → RanOnThreads runner.setup runner.workers runner.control runner.table history log segments old new replies
    → RoundedOnThreads runner history log segments old new replies
rounded_on_threads runner history log segments old new replies before table works x y =
    let all = log ++ y.now in
    let changes = changes_of all in
    let long : length log ≡ length history = log_long history log x.follows.hears.in_order in
    let low : length (changes_of log) ≡ made all (length history) = sym (made_front log y.now (length history) (omega (arith, long)) ∙ made_all log (length history) (omega (arith, long))) in
    record {
      now = y.now;
      stands = record { works = works; publishes = y.publishes };
      replies_are = bytes_behind history segments log y.now x.follows.hears.in_order ∙ ap (λ (l : List ℕ). reply_bytes history log ++ l) (sym y.replies_are);
      each = y.each;
      says = record {
        log = all;
        heard = heard runner.control.sessions runner.setup.local runner.setup.peers (history ++ segments) all y.publishes.with_peers y.publishes.follows.hears;
        each = run_records runner.setup changes (length (changes_of log)) (made all (length history)) (length changes) runner.workers old new low y.each;
        climb = y.climb;
      };
      dealt = y.dealt;
      out = λ form. outs runner.setup (λ c d. RunCarries runner.setup changes (length (changes_of log)) (length changes) runner.workers c d) (λ c d z. z.left) form old new y.each;
    }

-- after a round too
pub sound_on_threads : (runner : Runner) (history : List Segment) (log : List Entry) (segments : List Segment) (old new : List Carried) (replies : List ℕ) → RoundedOnThreads runner history log segments old new replies → IsSound runner
sound_on_threads runner history log segments old new replies x = inr (history ++ segments, log ++ x.now, x.stands)
