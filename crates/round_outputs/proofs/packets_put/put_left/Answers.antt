-- A frame that does not go out puts nothing.
use Rattle.std.proofs.Common.{◌≡◌, Bool, false, [], Ok, cond, sym, ap, subst, ◌∙◌}
use Rattle.std.specs.Prelude.{slice_index_or}
use Rattle.pcap_io.specs.Captures.{packet}
use Rattle.record_text.specs.declared.records.Record.{Record}
use Rattle.worker_run.specs.Outputs.{goes_out}
use Rattle.round_outputs.specs.RoundOutputs.{Puts}
use Rattle.round_outputs.proofs.PutLemmas.{puts_nothing}
use Rattle.round_outputs.proofs.packets_put.put_left.Goals as goal

pub returns-then-not-goes_out : goal.returns-then-not-goes_out
returns-then-not-goes_out g c = λ d.
    let carried = slice_index_or c.args.batch.now c.args.i d in
    let stays : c.goes_out.result ≡ false = c.if-not-goes_out.true in
    let off : goes_out carried.outcome.end ≡ false = ap (λ (r : Record). goes_out r.end) (sym (c.end_of.ensures d)) ∙ (sym c.goes_out.ensures ∙ stays) in
    subst (λ (b : Bool). Puts g.D.Desk.tells (g.D.Desk.at c.args.desk.now) (g.D.Desk.at c.args.desk.now) (g.D.Desk.held c.args.desk.now) (g.D.Desk.held c.args.desk.now) c.args.egress.now c.args.egress.now (Ok tt)
    (cond b (packet c.args.form carried.frame) [])) (sym off)
    (puts_nothing g.D.Desk.tells (g.D.Desk.at c.args.desk.now) (g.D.Desk.held c.args.desk.now) c.args.egress.now tt c.requires.bound)
