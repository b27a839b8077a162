use Rattle.std.proofs.Common.{◌≡◌, [], Err, ap, sym, subst, ◌∙◌}
use Rattle.sfc_desk.specs.declared.ports.Port.TheVariants.{Report}
use Rattle.control_files.specs.Kept.{Kept}
use Rattle.control_files.specs.Segments.{numbers}
use Rattle.sfc_config.specs.Parts.{Parts}
use Rattle.commands.specs.declared.statuses.Status.{Status}
use Rattle.paths_command.specs.PathsSteps.{StreamSays}
use Rattle.paths_command.proofs.StreamLemmas.{nothing_done, first_stops, first_shown, stream_begins}
use Rattle.paths_command.proofs.control_streams.paths_stream.Goals as goal

-- there was no memory
pub returns-in_default-clause-says : goal.returns-in_default-clause-says
returns-in_default-clause-says g c = nothing_done c.args.setup.now g.D.Desk.tells (g.D.Desk.at c.args.desk.now) c.requires.control

pub returns-in_default-version_zero-clause-says : goal.returns-in_default-version_zero-clause-says
returns-in_default-version_zero-clause-says g c = nothing_done c.args.setup.now g.D.Desk.tells (g.D.Desk.at c.args.desk.now) c.requires.control

-- version 0 is there
pub take_all-requires : goal.take_all-requires
take_all-requires g c =
    let then = g.D.Desk.at c.args.desk.now in
    let value = c.in-Ok.ensures.value in
    let run = c.in-Ok-version_zero.run' in
    let begins = c.in-Ok-version_zero.ensures in (
      then,
      stream_begins c.args.setup.now g.D.Desk.tells _ _ then (g.D.Desk.at c.show_version.new.desk) c.in-Ok.feed run c.requires.control c.show_version.ensures.moves c.in-Ok-show_version.ensures.quiet c.in-Ok.ensures.history
          (ap (λ (f : Kept). f.peers) value ∙ ap (λ (p : Parts). numbers p.peers) c.setup.view_is) (ap (λ (f : Kept). f.rest) value) (ap (λ (f : Kept). f.place) value) begins
          (λ told. first_shown c.args.setup.now c.setup.inside.roster run.version (then Report).written (g.D.Desk.at c.show_version.new.desk Report).written (ap (λ (p : Parts). p.roster) c.setup.view_is) begins.version
          (c.in-Ok-show_version.ensures.adds told [] begins.routes)),
    )

pub returns-in-Ok-show_version-clause-says : goal.returns-in-Ok-show_version-clause-says
returns-in-Ok-show_version-clause-says g c =
    let then = g.D.Desk.at c.args.desk.now in
    let value = c.in-Ok.ensures.value in
    let run = c.in-Ok-version_zero.run' in
    let begins = c.in-Ok-version_zero.ensures in
    c.take_all.ensures then
    (stream_begins c.args.setup.now g.D.Desk.tells _ _ then (g.D.Desk.at c.show_version.new.desk) c.in-Ok.feed run c.requires.control c.show_version.ensures.moves c.in-Ok-show_version.ensures.quiet c.in-Ok.ensures.history
    (ap (λ (f : Kept). f.peers) value ∙ ap (λ (p : Parts). numbers p.peers) c.setup.view_is) (ap (λ (f : Kept). f.rest) value) (ap (λ (f : Kept). f.place) value) begins
    (λ told. first_shown c.args.setup.now c.setup.inside.roster run.version (then Report).written (g.D.Desk.at c.show_version.new.desk Report).written (ap (λ (p : Parts). p.roster) c.setup.view_is) begins.version
    (c.in-Ok-show_version.ensures.adds told [] begins.routes)))

-- or it is not, or in part
pub returns-clause-says : goal.returns-clause-says
returns-clause-says g c =
    let then = g.D.Desk.at c.args.desk.now in
    let now = g.D.Desk.at c.show_version.new.desk in
    let run = c.in-Ok-version_zero.run' in
    let begins = c.in-Ok-version_zero.ensures in
    subst (λ (s : Status). StreamSays c.args.setup.now g.D.Desk.tells then now s) (sym c.status_of.ensures)
    (first_stops c.args.setup.now g.D.Desk.tells c.setup.inside.roster run.version _ _ then now c.in-Err.fault (ap (λ (p : Parts). p.roster) c.setup.view_is) begins.version c.requires.control c.show_version.ensures.moves
    (λ e. c.in-Err.ensures.cause (ap Err e)) (λ e. c.in-Err.ensures.spared (ap Err e)) (λ told. c.in-Err.ensures.front told [] begins.routes))
