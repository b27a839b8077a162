-- A word in lower case that decodes is the digits of what was decoded; every other word is the digits of no bytes.
use Rattle.std.proofs.Common.{length}
use Rattle.text_words.proofs.HexLemmas.{filled, not_filled, not_lower}
use Rattle.text_words.proofs.hexadecimals.fill_octets.Goals as goal

pub returns-then-not-are_digits-clause-value : goal.returns-then-not-are_digits-clause-value
returns-then-not-are_digits-clause-value c = λ bytes fits e.
    not_lower c.args.word.now bytes (length c.args.room.now) (λ lower. let yes = c.are_digits.ensures.1 lower in let no = c.if-not-are_digits.true in cc) fits e

pub returns-in-Ok-clause-value : goal.returns-in-Ok-clause-value
returns-in-Ok-clause-value c =
    filled c.args.word.now c.decode_to_slice.new.out (length c.args.room.now) c.decode_to_slice.result tt c.in-Ok.field-0 c.decode_to_slice.ensures.value c.in-Ok.is
    (c.are_digits.ensures.0 c.if-not-are_digits.false)

pub returns-in-Err-clause-value : goal.returns-in-Err-clause-value
returns-in-Err-clause-value c = λ bytes fits e.
    not_filled c.args.word.now c.decode_to_slice.new.out bytes (length c.args.room.now) c.decode_to_slice.result tt c.in-Err.field-0 c.decode_to_slice.ensures.value c.in-Err.is fits e
