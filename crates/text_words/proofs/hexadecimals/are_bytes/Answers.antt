-- The elements of a slice of bytes are in range, whatever stands for what is past its end.
use Rattle.std.proofs.Common.{arith}
use Rattle.std.proofs.lemmas.List.{get_or_default}
use Rattle.text_words.proofs.hexadecimals.are_bytes.Goals as goal

pub returns : goal.returns
returns c = λ k d lt.
    let same = get_or_default c.args.bytes.now k d 0 lt in
    omega (arith, same, c.type_inv.bytes k)
