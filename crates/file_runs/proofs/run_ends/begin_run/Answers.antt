-- The inputs could not be looked at, or nothing was taken or said yet.
use Rattle.std.proofs.Common.{Err, ap, subst, ◌∙◌}
use Rattle.control_files.specs.Segments.{numbers}
use Rattle.round_inputs.specs.declared.round_inputs.RoundInputs.{RoundInputs}
use Rattle.sfc_config.specs.Parts.{AreParts, Parts}
use Rattle.file_runs.proofs.StreamLemmas.{begin_halts, begin_memory, bound_read}
use Rattle.file_runs.proofs.run_ends.begin_run.Goals as goal

pub returns-in-Err-clause-halts : goal.returns-in-Err-clause-halts
returns-in-Err-clause-halts g c =
    begin_halts (g.W.RunWord.means c.args.setup c.args.workers) c.args.setup g.D.Desk.tells (g.D.Desk.held c.args.desk.now) (g.D.Desk.held c.begin_inputs.new.desk) (g.D.Desk.at c.args.desk.now) (g.D.Desk.at c.begin_inputs.new.desk) RoundInputs c.in-Err.halt
    c.requires.bound c.begin_inputs.ensures.reads c.in-Err.ensures.counts (λ is told. c.in-Err.ensures.long_capture told (ap (λ h. Err h) is)) (λ is told. c.in-Err.ensures.long_control told (ap (λ h. Err h) is))

pub returns-clause-still : goal.returns-clause-still
returns-clause-still g c =
    bound_read (g.W.RunWord.means c.args.setup c.args.workers) g.D.Desk.tells (g.D.Desk.held c.args.desk.now) (g.D.Desk.held c.begin_inputs.new.desk) (g.D.Desk.at c.args.desk.now) (g.D.Desk.at c.begin_inputs.new.desk) c.requires.bound c.begin_inputs.ensures.reads

pub returns-clause-begun : goal.returns-clause-begun
returns-clause-begun g c = record {
  reads = c.begin_inputs.ensures.reads;
  quiet = c.in-Ok.ensures.counts;
  parts = subst AreParts c.setup.view_is c.setup.invariant;
  setup_is = c.in-Ok-new.ensures.setup;
  stands = c.in-Ok-new.ensures.history;
  hold = c.in-Ok-new.ensures.count;
  holds = c.in-Ok.ensures.holds;
  form_is = c.form.ensures;
  form_known = c.in-Ok.ensures.form;
  few = c.in-Ok.ensures.few;
  lends = c.in-Ok.ensures.lends;
  peers = c.in-Ok.ensures.peers ∙ ap (λ (p : Parts). numbers p.peers) c.setup.view_is;
}

-- there was no memory for the runner
pub returns-in_default-clause-halts : goal.returns-in_default-clause-halts
returns-in_default-clause-halts g c =
    begin_memory (g.W.RunWord.means c.args.setup c.args.workers) c.args.setup g.D.Desk.tells (g.D.Desk.held c.args.desk.now) (g.D.Desk.held c.begin_inputs.new.desk) (g.D.Desk.at c.args.desk.now) (g.D.Desk.at c.begin_inputs.new.desk)
    c.requires.bound c.begin_inputs.ensures.reads c.in-Ok.ensures.counts
