-- The frames that were left are forwarded over the last table, which is one of those that were published.
use Rattle.std.proofs.Common.{rules, ◌≡◌, ◌∙◌, ℕ, List, length, refl, subst}
use Rattle.std.specs.Prelude.{OnOk}
use Rattle.std.specs.Vec.{with_items}
use Rattle.std.proofs.lemmas.List.{with_items_is}
use Rattle.path_selection.specs.Published.{one_table}
use Rattle.path_selection.specs.Paths.{ServicePath}
use Rattle.table_publish.specs.Publications.{table_of, version_of}
use Rattle.worker_run.specs.declared.parts.Part.{Part}
use Rattle.worker_run.specs.Batches.{Carried}
use Rattle.worker_run.specs.Shares.{AreWalkedBehind, Forwarded}
use Rattle.worker_run.proofs.ShareLemmas.{finished}
use Rattle.worker_run.proofs.StepLemmas.{on_ok}
use Rattle.worker_run.proofs.parts.Part.finish.Goals as goal

pub returns-clause-forwarded : goal.returns-clause-forwarded
returns-clause-forwarded g c = λ published given table version worked.
    let setup = c.args.setup.now in
    let old = c.args.self.now in
    let slots = old.slots.items in
    let B : ℕ → List ServicePath → Type 0 = λ v t. AreWalkedBehind setup old.worker (one_table v t) v c.in_ok-done.done slots c.forward_rest.new.slots in
    let new : Part = record old { work = c.forward_rest.new.work; slots = with_items old.slots c.forward_rest.new.slots } in
    let many : length c.forward_rest.new.slots ≡ old.slots.len = search rules in
    let same : new.slots.items ≡ c.forward_rest.new.slots = with_items_is old.slots c.forward_rest.new.slots many in
    on_ok c.forward_rest.result (B c.args.version c.args.table.now) (Forwarded setup published given new)
    (subst (λ (l : List Carried). OnOk c.forward_rest.result (AreWalkedBehind setup old.worker (one_table c.args.version c.args.table.now) c.args.version c.in_ok-done.done l c.forward_rest.new.slots)) c.as_mut_slice.ensures.value c.forward_rest.ensures)
    (λ behind.
    let b : B (version_of published) (table_of published) = subst (λ (t : List ServicePath). B (version_of published) t) table (subst (λ (v : ℕ). B v c.args.table.now) version behind) in
    finished setup published given old new c.in_ok-done.done b.rest worked c.in_ok-done.was refl (same ∙ b.new_is) b.walked)
