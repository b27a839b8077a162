-- The text of a number is text that std reads as that number.
use Rattle.std.proofs.Common.{◌≡◌, ◌<◌, ◌^◌, arith, subst, sym, ◌∙◌, ap}
use Rattle.std.specs.Fmt.{decimal}
use Rattle.std.specs.Prelude.{IsUtf8}
use Rattle.std.proofs.lemmas.Fmt.{parse-decimal}
use Rattle.text_words.proofs.NumberLemmas.{decimal_is_text}
use Rattle.text_words.proofs.number_text.read_number.Goals as goal

pub returns-in_default : goal.returns-in_default
returns-in_default c = λ v within e.
    let small : v < 2 ^ 64 = omega (arith, within, c.ranges.most) in
    c.in_default.ensures.cases.0 (subst IsUtf8 (sym e) (decimal_is_text v small))

pub returns-in_default-parse : goal.returns-in_default-parse
returns-in_default-parse c = λ v within e.
    let small : v < 2 ^ 64 = omega (arith, within, c.ranges.most) in
    let read = parse-decimal 64 v c.in-Ok.text.now c.parse.result small small (c.in-Ok.ensures.cases.0 ∙ e) c.parse.ensures.value.0 in
    let failed = c.in_default-parse.is in
    cc

pub returns-then-not-is_spelled : goal.returns-then-not-is_spelled
returns-then-not-is_spelled c = λ v within e.
    let small : v < 2 ^ 64 = omega (arith, within, c.ranges.most) in
    let read = parse-decimal 64 v c.in-Ok.text.now c.parse.result small small (c.in-Ok.ensures.cases.0 ∙ e) c.parse.ensures.value.0 in
    let number = c.in-Ok-parse.is in
    let same : v ≡ c.in-Ok-parse.number = cc in
    let yes = c.is_spelled.ensures.1 (e ∙ ap decimal same) in
    let no = c.if-not-is_spelled.true in
    cc

pub returns-then-number-least : goal.returns-then-number-least
returns-then-number-least c = λ v within e.
    let small : v < 2 ^ 64 = omega (arith, within, c.ranges.most) in
    let read = parse-decimal 64 v c.in-Ok.text.now c.parse.result small small (c.in-Ok.ensures.cases.0 ∙ e) c.parse.ensures.value.0 in
    let number = c.in-Ok-parse.is in
    let same : v ≡ c.in-Ok-parse.number = cc in
    omega (arith, within, same, c.if-number-least.true)

pub returns-then-most-number : goal.returns-then-most-number
returns-then-most-number c = λ v within e.
    let small : v < 2 ^ 64 = omega (arith, within, c.ranges.most) in
    let read = parse-decimal 64 v c.in-Ok.text.now c.parse.result small small (c.in-Ok.ensures.cases.0 ∙ e) c.parse.ensures.value.0 in
    let number = c.in-Ok-parse.is in
    let same : v ≡ c.in-Ok-parse.number = cc in
    omega (arith, within, same, c.if-most-number.true)
