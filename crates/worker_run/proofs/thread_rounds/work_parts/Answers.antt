-- Where nothing is to be published, every worker forwards over the opening table.
use Rattle.std.proofs.Common.{◌≡◌, arith, length, List, [], sym, subst}
use Rattle.std.specs.List.{AllZip}
use Rattle.std.proofs.lemmas.Bool.Decides.{nat_tests}
use Rattle.path_selection.specs.declared.changes.Change.{Change}
use Rattle.worker_run.specs.Shares.{Worked, published_on}
use Rattle.worker_run.proofs.ShareLemmas.{still_worked}
use Rattle.worker_run.proofs.RoundLemmas.{no_more}
use Rattle.worker_run.proofs.WindowLemmas.{filled_shape}
use Rattle.worker_run.proofs.thread_rounds.work_parts.Goals as goal

pub returns-then-is_empty-clause-shape : goal.returns-then-is_empty-clause-shape
returns-then-is_empty-clause-shape g c = filled_shape c.args.setup.now c.args.table.now c.args.version c.args.parts.now c.fill_parts.new.parts c.fill_parts.ensures

pub returns-then-is_empty-clause-worked : goal.returns-then-is_empty-clause-worked
returns-then-is_empty-clause-worked g c =
    let zero : length c.args.lists.now.items ≡ 0 = grind (arith, nat_tests) in
    let none : c.args.lists.now.items ≡ [] = no_more c.args.lists.now.items zero in
    subst (λ (l : List (List Change)). AllZip (Worked c.args.setup.now (published_on c.args.table.now c.args.version l)) c.args.parts.now c.fill_parts.new.parts) (sym none)
    (still_worked c.args.setup.now c.args.table.now c.args.version c.args.parts.now c.fill_parts.new.parts c.requires.seats c.fill_parts.ensures)
