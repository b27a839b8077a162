-- The routes that stand have a selection.
use Rattle.history_laws.proofs.laws.every_list_of_changes_has_a_table.Goals as goal

pub returns : goal.returns
returns c = λ roster changes fit.
    let all = c.every_list_of_changes_has_routes.ensures changes fit in
    let selected = c.every_list_has_a_selection.ensures roster all.0 in
    (selected.0, record { routes = all.0; are_routes = all.1; stand = all.2; selected = selected.1 })
