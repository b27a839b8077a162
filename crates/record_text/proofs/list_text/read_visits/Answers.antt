-- A word that is no dash is read by its pieces.
use Rattle.std.proofs.Common.{subst}
use Rattle.std.specs.Prelude.{map}
use Rattle.wire_base.specs.declared.ids.InstanceId.{InstanceId}
use Rattle.text_words.specs.Reading.{Reads}
use Rattle.arrayvec.specs.ArrayVec.{ArrayVec}
use Rattle.record_text.specs.Names.{instance_text}
use Rattle.record_text.specs.Lines.{AreVisits}
use Rattle.record_text.proofs.ListLemmas.{reads_list}
use Rattle.record_text.proofs.EntryLemmas.{visits_listed}
use Rattle.record_text.proofs.list_text.read_visits.Goals as goal

pub returns : goal.returns
returns c =
    let f = instance_text c.args.roster.now in
    reads_list _ f (visits_listed c.args.roster.now c.roster_is_kept.ensures) c.args.text.now c.read_names.result
    (λ dash. let yes = c.is_text.ensures.1 dash in let no = c.if-is_text.false in absurd cc)
    (subst (λ ps. Reads (λ (v : ArrayVec InstanceId). AreVisits c.args.roster.now v.items) (λ v. map f v.items) ps c.read_names.result) c.of-pieces.ensures c.read_names.ensures)
