-- The versions of the changes up to a place were shown, and then that of the one there.
use Rattle.std.proofs.Common.{◌++◌, ◌∙◌, take, arith, subst, List}
use Rattle.std.proofs.lemmas.List.{take_all}
use Rattle.sfc_desk.proofs.CallLemmas.{moves_then}
use Rattle.sfc_desk.specs.declared.ports.Port.TheVariants.{Report}
use Rattle.sfc_routes.specs.declared.route_changes.RouteChange.{RouteChange}
use Rattle.setup_inputs.proofs.MoveLemmas.{same_counts_on}
use Rattle.paths_command.specs.PathsSteps.{Shown}
use Rattle.paths_command.proofs.RunLemmas.{goes_next, front_next_of}
use Rattle.paths_command.proofs.version_runs.take_changes.Goals as goal

pub take_change-requires-clause-known : goal.take_change-requires-clause-known
take_change-requires-clause-known g c = (
  c.requires.known.0 ++ take c.loop-change.change-index c.args.changes.now,
  c.requires.known.1,
  c.loop-change.invariant.goes c.requires.known.0 c.requires.known.1 c.requires.known.2,
)

pub returns-in-Err-clause-front : goal.returns-in-Err-clause-front
returns-in-Err-clause-front g c = λ told shown before s.
    let changes = c.args.changes.now in
    let i = c.loop-change.change-index in
    front_next_of c.args.roster.now changes i c.change-item.result shown before (g.D.Desk.at c.take_change.new.desk Report).written c.loop-change-test.true c.change-item.is
    (λ todo. c.in-Err.ensures.front told (shown ++ take i changes) todo before (c.loop-change.invariant.goes shown before s))

pub loop-change-preserved : goal.loop-change-preserved
loop-change-preserved g c =
    let changes = c.args.changes.now in
    let i = c.loop-change.change-index in
    record {
      goes = λ shown before s.
          goes_next c.args.roster.now g.D.Desk.tells c.take_change.new.run changes i c.change-item.result shown before (g.D.Desk.at c.take_change.new.desk Report).written c.loop-change-test.true c.change-item.is
          (c.in_default.ensures.goes_on (shown ++ take i changes) before (c.loop-change.invariant.goes shown before s));
      sessions = c.take_change.ensures.sessions ∙ c.loop-change.invariant.sessions;
      quiet = same_counts_on (g.D.Desk.at c.args.desk.now) (g.D.Desk.at c.loop-change.desk) (g.D.Desk.at c.take_change.new.desk) c.loop-change.invariant.quiet c.in_default.ensures.quiet;
      moves = moves_then g.D.Desk.tells Report _ _ _ (g.D.Desk.at c.args.desk.now) (g.D.Desk.at c.loop-change.desk) (g.D.Desk.at c.take_change.new.desk) c.loop-change.invariant.moves c.take_change.ensures.moves;
    }

pub returns-clause-goes_on : goal.returns-clause-goes_on
returns-clause-goes_on g c = λ shown before s.
    subst (λ (l : List RouteChange). Shown c.args.roster.now g.D.Desk.tells c.loop-change.run (shown ++ l) before (g.D.Desk.at c.loop-change.desk Report).written)
    (take_all c.loop-change.change-index c.args.changes.now (omega (arith, c.loop-change-test.false)))
    (c.loop-change.invariant.goes shown before s)
