use Rattle.std.proofs.Common.{◌≡◌, ◌∙◌, ap, sym, fold, ◌++◌, ◌∷◌, [], List}
use Rattle.table_publish.specs.declared.entries.Entry.TheVariants.{Changes}
use Rattle.table_publish.specs.declared.stores.Operation.{Operation}
use Rattle.table_publish.specs.declared.stores.Operation.TheVariants.{Enter}
use Rattle.table_publish.specs.Contents.{content_of, absorbed}
use Rattle.table_publish.proofs.Moves.{sends, stands_as, unless_err}
use Rattle.table_publish.proofs.publishers.send.Goals as goal

-- a publication keeps the rule of the window
pub publish_as-requires : goal.publish_as-requires
publish_as-requires g c next is =
    let x = c.append.new.self.desk.shown.value in
    let cs = c.args.asked.1 in
    let seen = c.args.asked.2 in
    let same : x ≡ c.args.writer.desk.shown.value = ap (λ d. d.shown.value) c.append.ensures.desk in
    let pending = unless_err c.append.result _ _ c.if-is_err.ensures.value c.append.ensures.pending in
    let held = c.requires.held in
    sends _ _ x next cs seen (stands_as _ x (ap content_of same) held.stands) (c.requires.list.0 ∙ sym (ap (λ s. s.seen.book) same)) (c.requires.list.1 ∙ sym (ap (λ s. s.seen.log ++ Changes cs ∷ []) same))
    (is ∙ ap (fold absorbed (content_of x)) (pending ∙ ap (λ (l : List Operation). l ++ Enter cs seen ∷ []) held.none))
