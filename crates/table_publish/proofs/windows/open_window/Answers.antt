use Rattle.std.proofs.Common.{◌≡◌, ◌∙◌, ap, fold, ◌++◌, ◌∷◌, [], List}
use Rattle.table_publish.specs.declared.stores.Operation.{Operation}
use Rattle.table_publish.specs.declared.stores.Operation.TheVariants.{Open}
use Rattle.table_publish.specs.Contents.{content_of, absorbed}
use Rattle.table_publish.proofs.Moves.{opens, stands_as, unless_err}
use Rattle.table_publish.proofs.windows.open_window.Goals as goal

-- the opening keeps the rule of the window
pub publish_as-requires : goal.publish_as-requires
publish_as-requires g c next is =
    let x = c.append.new.self.desk.shown.value in
    let same : x ≡ c.args.writer.desk.shown.value = ap (λ d. d.shown.value) c.append.ensures.desk in
    let pending = unless_err c.append.result _ _ c.if-is_err.ensures.value c.append.ensures.pending in
    opens _ _ x next (stands_as _ x (ap content_of same) c.requires.stands)
    (is ∙ ap (fold absorbed (content_of x)) (pending ∙ ap (λ (l : List Operation). l ++ Open ∷ []) c.requires.none))
