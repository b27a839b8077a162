-- A word that is no dash is read by its pieces.
use Rattle.std.proofs.Common.{subst}
use Rattle.std.specs.Prelude.{map}
use Rattle.std.specs.Fmt.{decimal}
use Rattle.text_words.specs.Reading.{Reads}
use Rattle.arrayvec.specs.ArrayVec.{ArrayVec}
use Rattle.std.proofs.Common.{ℕ}
use Rattle.record_text.specs.Lines.{AreVersions}
use Rattle.record_text.proofs.ListLemmas.{reads_list}
use Rattle.record_text.proofs.EntryLemmas.{versions_listed}
use Rattle.record_text.proofs.list_text.read_versions.Goals as goal

pub returns : goal.returns
returns c =
    reads_list _ decimal versions_listed c.args.text.now c.read_numbers.result
    (λ dash. let yes = c.is_text.ensures.1 dash in let no = c.if-is_text.false in absurd cc)
    (subst (λ ps. Reads (λ (v : ArrayVec ℕ). AreVersions v.items) (λ v. map decimal v.items) ps c.read_numbers.result) c.of-pieces.ensures c.read_numbers.ensures)
