-- A reason is cut at its opening bracket.
use Rattle.std.proofs.Common.{subst}
use Rattle.text_words.specs.Reading.{Reads}
use Rattle.record_text.specs.Ends.{ReasonFits}
use Rattle.record_text.specs.Steps.{reason_pieces}
use Rattle.record_text.proofs.FieldLemmas.{reads_cut}
use Rattle.record_text.proofs.EndLemmas.{cut_reason, reason_joined}
use Rattle.record_text.proofs.end_text.read_reason.Goals as goal

pub returns : goal.returns
returns c =
    let roster = c.args.roster.now in
    reads_cut _ _ _ 40 _ _ (cut_reason roster c.roster_is_kept.ensures) (reason_joined roster c.args.text.now)
    (subst (λ w. Reads (ReasonFits roster) (reason_pieces roster) w c.read_pieces.result) c.of-pieces.ensures c.read_pieces.ensures)
