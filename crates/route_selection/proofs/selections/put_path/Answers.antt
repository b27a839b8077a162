-- The path stands behind those of smaller SPIs.
use Rattle.std.proofs.Common.{◌∷◌, ◌++◌, ◌∙◌, ap}
use Rattle.path_selection.specs.Changes.{above, below}
use Rattle.path_selection.specs.Paths.{ServicePath}
use Rattle.route_selection.specs.Selections.{path_at}
use Rattle.route_selection.proofs.PathLemmas.{put_behind}
use Rattle.route_selection.proofs.selections.put_path.Goals as goal

pub returns : goal.returns
returns c =
    let old = c.args.table.now in
    c.in_ok-apply.ensures.ok
    ∙ ap (λ (p : ServicePath). below p.spi old ++ p ∷ above p.spi old) c.in_ok-path.ensures
    ∙ put_behind (path_at c.args.usable.now c.args.entry.now) old c.requires.behind
