-- The three words are those of one local side.
use Rattle.std.proofs.Common.{[], ◌∷◌, arith, ap, ◌∙◌}
use Rattle.std.specs.Fmt.{decimal}
use Rattle.text_words.specs.Addresses.{dotted}
use Rattle.setup_statements.specs.Statements.{octets_of}
use Rattle.setup_statements.proofs.StepLemmas.{tail_is}
use Rattle.setup_statements.proofs.ReadingLemmas.{reads_local}
use Rattle.setup_statements.proofs.reading.read_local.Goals as goal

pub returns-in_default-next_number : goal.returns-in_default-next_number
returns-in_default-next_number c = λ v fits e.
    c.in_default-next_number.ensures v.hold [] (omega arith, omega (arith, fits.hold_most))
    (tail_is _ _ _ _ _ c.in-Some-next_identifier.ensures.1 (tail_is _ _ _ _ _ c.in-Some.ensures.1 e))

pub returns : goal.returns
returns c =
    reads_local c.args.words.now c.in-Some.asn c.in-Some-next_identifier.id c.in-Some-next_number.hold c.of.result
    (omega (arith, c.in-Some.ensures.0)) c.in-Some-next_identifier.ensures.0 (omega (arith, c.in-Some-next_number.ensures.0))
    (c.in-Some.ensures.1
    ∙ ap (λ r. decimal c.in-Some.asn ∷ r) (c.in-Some-next_identifier.ensures.1
    ∙ ap (λ r. dotted (octets_of c.in-Some-next_identifier.id) ∷ r) (c.in-Some-next_number.ensures.1
    ∙ ap (λ r. decimal c.in-Some-next_number.hold ∷ r) (c.is_done.ensures.0 c.if-not-is_done.false))))
    c.of.ensures
