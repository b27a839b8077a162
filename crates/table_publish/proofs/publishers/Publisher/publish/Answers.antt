use Rattle.std.proofs.Common.{◌≡◌, ◌⊎◌, ◌∙◌, true, ap, refl, inr}
use Rattle.table_publish.specs.Entries.{published_of}
use Rattle.table_publish.specs.Publications.{longer}
use Rattle.table_publish.proofs.PublicationLemmas.{published-snoc}
use Rattle.table_publish.proofs.Moves.{on_any_err}
use Rattle.table_publish.proofs.publishers.Publisher.publish.Goals as goal

-- behind the entry one list more is published, whether the readers were shown it or not
pub returns-in_err-told-clause-err : goal.returns-in_err-told-clause-err
returns-in_err-told-clause-err g c =
    let head = c.self.inside.head in
    let now = published_of c.add.new.self.seen.log in
    let was = c.args.self.now.published in
    on_any_err c.from_residual-in_err-told.result ((true ≡ true) × ((now ≡ was) ⊎ (now ≡ longer was c.args.changes))) (rw (← c.self.view_is) (refl, inr (ap published_of c.in_ok-add.ensures.list ∙ published-snoc head.seen.log c.args.changes head.begins)))

pub returns-clause-published : goal.returns-clause-published
returns-clause-published g c =
    let head = c.self.inside.head in
    rw (← c.self.view_is) (ap published_of c.in_ok-add.ensures.list ∙ published-snoc head.seen.log c.args.changes head.begins, c.in_ok-told.ensures.told)
