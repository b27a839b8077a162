-- The round was run and put, or one of both failed.
use Rattle.std.proofs.Common.{◌≡◌, inl, ◌++◌, sym, ap, subst, ◌∙◌}
use Rattle.sfc_config.specs.Parts.{Parts}
use Rattle.sfc_routes.specs.Entries.{Entries}
use Rattle.control_histories.specs.Logs.{changes_of}
use Rattle.worker_run.specs.Runners.{Rounded}
use Rattle.worker_run.specs.Runs.{single_says}
use Rattle.round_outputs.specs.RoundOutputs.{AreNamed}
use Rattle.round_outputs.proofs.BatchLemmas.{named_after}
use Rattle.file_runs.proofs.PutLemmas.{fronts_still}
use Rattle.file_runs.proofs.RoundLemmas.{always, round_puts}
use Rattle.single_command.proofs.SingleLemmas.{forwarded_once}
use Rattle.single_command.proofs.single_runs.run_round.Goals as goal

pub put_round-requires-clause-named : goal.put_round-requires-clause-named
put_round-requires-clause-named g c =
    let some = c.requires.some in
    let runner = c.single_round.new.self in
    let rounded : Rounded runner some.0 some.1 c.args.group.now c.args.frames.now.batch c.single_round.new.batch c.in-Ok.replies = c.in-Ok.ensures.history some.0 some.1 some.2 in
    let same : c.setup.inside.roster ≡ runner.setup.roster = ap (λ (p : Parts). p.roster) c.setup.view_is ∙ ap (λ (p : Parts). p.roster) c.setup-setup.ensures in
    subst (λ (e : Entries). AreNamed e c.single_round.new.batch) (sym same) (named_after runner.setup (changes_of (some.1 ++ rounded.now)) c.args.frames.now.batch c.single_round.new.batch rounded.each)

pub returns-in-Err-clause-round : goal.returns-in-Err-clause-round
returns-in-Err-clause-round g c = λ history log stands told texts was. inl (fronts_still (g.D.Desk.at c.args.desk.now) c.args.outputs.now texts was)

pub returns-clause-round : goal.returns-clause-round
returns-clause-round g c = λ history log stands.
    let runner = c.single_round.new.self in
    let same : c.setup.inside.roster ≡ runner.setup.roster = ap (λ (p : Parts). p.roster) c.setup.view_is ∙ ap (λ (p : Parts). p.roster) c.setup-setup.ensures in
    round_puts (single_says runner.setup) g.D.Desk.tells (g.D.Desk.at c.args.desk.now) (g.D.Desk.at c.put_round.new.desk) (g.D.Desk.held c.args.desk.now) (g.D.Desk.held c.put_round.new.desk) c.args.outputs.now c.put_round.new.self runner c.setup.inside.roster c.args.form c.args.place history log
    c.args.group.now c.args.frames.now.batch c.single_round.new.batch c.in-Ok.replies c.as_slice.result.now c.put_round.result same c.as_slice.ensures (forwarded_once runner history log c.args.group.now c.args.frames.now.batch c.single_round.new.batch c.in-Ok.replies (c.in-Ok.ensures.history history log stands)) c.put_round.ensures

pub returns-clause-hold : goal.returns-clause-hold
returns-clause-hold g c = λ most hold. always c.put_round.result _ (c.in-Ok.ensures.count most hold)
