-- The control side took the segments, the versions that they made were published, and every frame was forwarded over these.
use Rattle.std.proofs.Common.{◌∙◌, ℕ, List, [], Option, take, ap, sym, subst}
use Rattle.control_files.specs.declared.segments.Segment.{Segment}
use Rattle.session_machine.specs.Groups.{Entry}
use Rattle.sfc_config.specs.Parts.{Parts}
use Rattle.sfc_routes.specs.Entries.{Entries}
use Rattle.path_selection.specs.Paths.{ServicePath}
use Rattle.control_histories.specs.Logs.{changes_of}
use Rattle.control_histories.specs.Versions.{TableAfter}
use Rattle.worker_run.specs.declared.controls.Control.{Control}
use Rattle.worker_run.specs.declared.versions.Versions.{Versions}
use Rattle.worker_run.specs.Batches.{Carried}
use Rattle.worker_run.specs.Controls.{Follows}
use Rattle.worker_run.specs.Publications.{TookEach, latest}
use Rattle.worker_run.specs.Shares.{AreShared, published_on}
use Rattle.worker_run.proofs.ThreadLemmas.{last_published, ran_on_threads}
use Rattle.worker_run.proofs.thread_rounds.run_threads.Goals as goal

-- what taking the segments says, by the roster
abbrev Taking : Control → Control → List ServicePath → List Segment → List ℕ → List ℕ → Versions → Versions → Entries → Type 0
Taking old new table segments before after v w roster = (history : List Segment) (log : List Entry) → Follows old history log → TableAfter roster (changes_of log) (latest table v.last) → TookEach roster table new history log segments before after v w

pub forward_used-requires-clause-last : goal.forward_used-requires-clause-last
forward_used-requires-clause-last g c κs within =
    let setup = c.args.setup.now in
    let some = c.requires.some in
    let x = some.2 in
    let old = c.args.control.now in
    let new = c.take_each.new.self in
    let table = c.args.table.now in
    let segments = c.args.segments.now in
    let before = c.new-replies.result in
    let replies = c.take_each.new.replies in
    let v = c.new-versions.result in
    let w = c.take_each.new.versions in
    let taking : Taking old new table segments before replies v w setup.roster = subst (Taking old new table segments before replies v w) (ap (λ (p : Parts). p.roster) c.setup.view_is) c.in_ok-take_each.ensures.history in
    let y = taking some.0 some.1 x.follows (subst (λ (o : Option (List ServicePath)). TableAfter setup.roster (changes_of some.1) (latest table o)) (sym c.new-versions.ensures.1) x.table_is) in
    last_published setup old new table some.0 some.1 segments before replies v w x c.new-versions.ensures.0 c.new-versions.ensures.1 y

pub returns-clause-history : goal.returns-clause-history
returns-clause-history g c = λ history log x.
    let setup = c.args.setup.now in
    let old = c.args.control.now in
    let new = c.take_each.new.self in
    let table = c.args.table.now in
    let last = c.bring.new.table in
    let segments = c.args.segments.now in
    let replies = c.take_each.new.replies in
    let v = c.new-versions.result in
    let w = c.take_each.new.versions in
    let left = c.forward_used.new.slots.items in
    let published = published_on table old.version w.lists.items in
    let taking : Taking old new table segments c.new-replies.result replies v w setup.roster = subst (Taking old new table segments c.new-replies.result replies v w) (ap (λ (p : Parts). p.roster) c.setup.view_is) c.in_ok-take_each.ensures.history in
    let y = taking history log x.follows (subst (λ (o : Option (List ServicePath)). TableAfter setup.roster (changes_of log) (latest table o)) (sym c.new-versions.ensures.1) x.table_is) in
    let y' : TookEach setup.roster table new history log segments [] replies v w = subst (λ (b : List ℕ). TookEach setup.roster table new history log segments b replies v w) c.new-replies.ensures y in
    let shared : AreShared setup published c.args.workers c.args.batch.now (take c.batch.inside.used left) = subst (λ (l : List Carried). AreShared setup published c.args.workers l (take c.batch.inside.used left)) c.batch.view_is c.in_ok-forward_used.ensures.shares in
    ran_on_threads setup c.args.workers history log segments old new table last c.args.batch.now (take c.batch.inside.used left) replies v w c.take_each.ensures.sides x c.new-versions.ensures.0 c.new-versions.ensures.1 y'
    (c.bring.ensures ∙ ap (latest table) c.forward_used.ensures.last) shared
