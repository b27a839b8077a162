-- The routes may be announced, and the changes come behind them.
use Rattle.std.proofs.Common.{◌++◌, List, sym, ap, subst, ◌∙◌}
use Rattle.std.specs.List.{AllByRecursion}
use Rattle.control_files.specs.declared.segments.Segment.{Segment}
use Rattle.announced_files.specs.Announceable.{IsAnnounceable}
use Rattle.announced_files.specs.Announced.{announced}
use Rattle.generated_inputs.specs.Segments.{changes_for}
use Rattle.generated_inputs.proofs.RouteLemmas.{routes_fit}
use Rattle.generated_inputs.proofs.segments.generated_segments.Goals as goal

pub announced_segments-requires-clause-routes : goal.announced_segments-requires-clause-routes
announced_segments-requires-clause-routes c = subst (AllByRecursion IsAnnounceable) (sym (c.as_slice.ensures ∙ c.in_ok-routes.ensures)) routes_fit

pub returns : goal.returns
returns c =
    c.in_ok-push_changes.ensures
    ∙ ap (λ (l : List Segment). l ++ changes_for c.args.local.now.asn c.args.count)
    (c.in_ok-segments.ensures ∙ ap (announced c.args.local.now 1 65001) (c.as_slice.ensures ∙ c.in_ok-routes.ensures))
