-- A round: the table after its segments, and what it says.
use Rattle.std.proofs.Common.{◌≡◌, ℕ, false, List, [], ◌∷◌, ◌++◌, length, map, refl, sym, ap, subst, ◌∙◌, arith, length-append}
use Rattle.std.specs.List.{AllZip}
use Rattle.std.proofs.lemmas.List.{append-nil}
use Rattle.std.proofs.lemmas.Grind.{flat_map-append}
use Rattle.control_files.specs.declared.segments.Segment.{Segment}
use Rattle.session_machine.specs.declared.machines.Session.{Session}
use Rattle.session_machine.specs.Groups.{Entry}
use Rattle.sfc_config.specs.Parts.{Parts}
use Rattle.sfc_routes.specs.Entries.{Entries}
use Rattle.sfc_routes.specs.declared.route_changes.RouteChange.{RouteChange}
use Rattle.sfc_routes.specs.LastWords.{Stands as AreAfter}
use Rattle.path_selection.specs.Paths.{ServicePath}
use Rattle.control_histories.specs.Logs.{changes_of}
use Rattle.control_histories.specs.Replies.{reply_bytes}
use Rattle.control_histories.specs.Versions.{TableAfter}
use Rattle.control_histories.proofs.HeardLemmas.{heard}
use Rattle.control_histories.proofs.ReplyLemmas.{bytes_behind}
use Rattle.worker_run.specs.declared.controls.Control.{Control}
use Rattle.worker_run.specs.declared.runners.Runner.{Runner}
use Rattle.worker_run.specs.Batches.{Carried}
use Rattle.worker_run.specs.Controls.{Publishes, Took}
use Rattle.worker_run.specs.Runners.{Carries, Rounded}
use Rattle.worker_run.specs.Steps.{Forwards, Ran}
use Rattle.worker_run.proofs.OutputLemmas.{outs, singles}
use Rattle.worker_run.proofs.RecordLemmas.{all_carry}

pub no_more : {A : Type 0} (xs : List A) → length xs ≡ 0 → xs ≡ []
no_more [] e = refl
no_more (x ∷ xs) e = absurd (omega (arith, e))

-- where no change was made the table stays
pub same_table : (roster : Entries) (table : List ServicePath) (changes more : List RouteChange) → length (changes ++ more) ≡ length changes → TableAfter roster changes table → TableAfter roster (changes ++ more) table
same_table roster table changes more same x =
    let none : more ≡ [] = no_more more (omega (arith, same, length-append changes more)) in
    let all : changes ++ more ≡ changes = ap (λ (l : List RouteChange). changes ++ l) none ∙ append-nil changes in
    subst (λ (l : List RouteChange). TableAfter roster l table) (sym all) x

pub changes_behind : (log now : List Entry) → changes_of (log ++ now) ≡ changes_of log ++ changes_of now
changes_behind log now = flat_map-append (λ (e : Entry). e.effects.changes) log now

abbrev pub Refreshed : Entries → Control → ℕ → List ServicePath → List ServicePath → Type 0
Refreshed roster control before old new = (changes more : List RouteChange) → TableAfter roster changes old → AreAfter control.routes (changes ++ more)
    → before ≡ length changes → control.version ≡ length (changes ++ more) → TableAfter roster (changes ++ more) new

pub ran : (setup : Parts) (old control : Control) (table new_table : List ServicePath) (history : List Segment) (log : List Entry) (segments : List Segment) (batch new_batch : List Carried) (replies : List ℕ)
    → map (λ (s : Session). s.side) control.sessions.sessions.items ≡ map (λ (s : Session). s.side) old.sessions.sessions.items
    → Publishes setup old table history log → Took control history log segments [] replies → Refreshed setup.roster control old.version table new_table
    → AllZip (Forwards setup control.version new_table) batch new_batch → Ran setup control new_table history log segments batch new_batch replies
ran setup old control table new_table history log segments batch new_batch replies sides x y fresh each =
    let changes = changes_behind log y.now in
    let after : TableAfter setup.roster (changes_of log ++ changes_of y.now) new_table =
    fresh (changes_of log) (changes_of y.now) x.table_is (subst (AreAfter control.routes) changes y.follows.routes) x.follows.version (y.follows.version ∙ ap length changes) in
    record {
      now = y.now;
      logs = y.logs;
      publishes = record {
        with_peers = sides ∙ x.with_peers;
        follows = y.follows;
        table_is = subst (λ (l : List RouteChange). TableAfter setup.roster l new_table) (sym changes) after;
      };
      replies_are = y.replies;
      each = subst (λ (v : ℕ). AllZip (Forwards setup v new_table) batch new_batch) y.follows.version each;
    }

pub rounded : (runner : Runner) (history : List Segment) (log : List Entry) (segments : List Segment) (old new : List Carried) (replies : List ℕ) (before : Control) (table : List ServicePath)
    → runner.failed ≡ false → Publishes runner.setup before table history log → Ran runner.setup runner.control runner.table history log segments old new replies
    → Rounded runner history log segments old new replies
rounded runner history log segments old new replies before table works x y =
    let changes = changes_of (log ++ y.now) in
    let each = all_carry runner.setup changes runner.table old new y.publishes.table_is y.each in
    record {
      now = y.now;
      stands = record { works = works; publishes = y.publishes };
      replies_are = bytes_behind history segments log y.now x.follows.hears.in_order ∙ ap (λ (l : List ℕ). reply_bytes history log ++ l) (sym y.replies_are);
      each = each;
      says = record {
        log = log ++ y.now;
        heard = heard runner.control.sessions runner.setup.local runner.setup.peers (history ++ segments) (log ++ y.now) y.publishes.with_peers y.publishes.follows.hears;
        each = singles runner.setup changes old new each;
      };
      out = λ form. outs runner.setup (λ c d. Carries runner.setup changes c d) (λ c d x. x.left) form old new each;
    }
