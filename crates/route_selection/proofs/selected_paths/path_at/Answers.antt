-- The rows of an attribute that has a spelling fall.
use Rattle.std.proofs.Common.{List, sym, ◌∙◌, ap, subst}
use Rattle.sfp_attribute.specs.declared.sfps.Part.{Part}
use Rattle.sfp_attribute.specs.Sfps.{SfpFits}
use Rattle.path_selection.specs.declared.hops.HopRow.{HopRow}
use Rattle.path_selection.specs.Paths.{FallsBelow}
use Rattle.route_selection.specs.Accepted.{PathRoute}
use Rattle.route_selection.specs.Selections.{path_rows}
use Rattle.route_selection.proofs.PathLemmas.{path_falls}
use Rattle.route_selection.proofs.selected_paths.path_at.Goals as goal

pub unreachable-requires : goal.unreachable-requires
unreachable-requires c =
    let usable = c.args.usable.now in
    let fits = subst (λ (p : PathRoute). SfpFits p.sfp) (sym c.entry.view_is) c.requires.fits in
    let rows = c.in_ok-rows.ensures ∙ ap (λ (ps : List Part). path_rows usable c.entry.inside.spi ps) c.as_slice.ensures in
    c.in-None.ensures (subst (λ (l : List HopRow). FallsBelow 256 l) (sym rows) (path_falls usable c.entry.inside.spi c.entry.inside.sfp.now fits))
