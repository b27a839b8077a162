-- One change more is applied, and its version shown.
use Rattle.std.proofs.Common.{◌+◌, [], ◌∷◌, ◌++◌, refl}
use Rattle.sfc_desk.specs.declared.ports.Port.TheVariants.{Report}
use Rattle.paths_command.specs.declared.version_runs.VersionRun.{VersionRun}
use Rattle.paths_command.proofs.RunLemmas.{shown_next, front_shown}
use Rattle.paths_command.proofs.version_runs.take_change.Goals as goal

pub show_version-requires : goal.show_version-requires
show_version-requires g c = (c.requires.known.0 ++ c.args.change.now ∷ [], c.in_ok-apply.ensures.history c.requires.known.0 c.requires.known.2.routes)

pub returns-clause-goes_on : goal.returns-clause-goes_on
returns-clause-goes_on g c = λ shown before s.
    let run : VersionRun = record { sessions = c.args.run.now.sessions; routes = c.apply.new.self; version = c.args.run.now.version + 1 } in
    let routes = c.in_ok-apply.ensures.history shown s.routes in
    shown_next c.show_version.result c.args.roster.now g.D.Desk.tells c.args.run.now run shown c.args.change.now before (g.D.Desk.at c.args.desk.now Report).written (g.D.Desk.at c.show_version.new.desk Report).written
    routes refl (λ told. c.show_version.ensures.adds told (shown ++ c.args.change.now ∷ []) routes) s

pub returns-clause-front : goal.returns-clause-front
returns-clause-front g c = λ told shown todo before s.
    let run : VersionRun = record { sessions = c.args.run.now.sessions; routes = c.apply.new.self; version = c.args.run.now.version + 1 } in
    let routes = c.in_ok-apply.ensures.history shown s.routes in
    front_shown c.show_version.result c.args.roster.now g.D.Desk.tells c.args.run.now run shown c.args.change.now todo before (g.D.Desk.at c.args.desk.now Report).written (g.D.Desk.at c.show_version.new.desk Report).written
    told refl (c.show_version.ensures.front told (shown ++ c.args.change.now ∷ []) routes) s
