-- A word that spells four numbers has them as its pieces, one after another.
use Rattle.std.proofs.Common.{sym, ◌∙◌, ap, [], ◌∷◌}
use Rattle.std.specs.Fmt.{decimal}
use Rattle.text_words.proofs.DottedLemmas.{four_parts, tail_is, reads_four}
use Rattle.text_words.proofs.addresses.read_dotted.Goals as goal

pub returns-in_default : goal.returns-in_default
returns-in_default c = λ v octets e.
    let four = four_parts _ v octets e in
    c.in_default.ensures four.a (decimal four.b ∷ decimal four.c ∷ decimal four.d ∷ []) four.small_a (c.of-parts.ensures ∙ four.cut)

pub returns-in_default-next_octet : goal.returns-in_default-next_octet
returns-in_default-next_octet c = λ v octets e.
    let four = four_parts _ v octets e in
    let second = tail_is _ _ _ _ _ c.in-Some.ensures.1 (c.of-parts.ensures ∙ four.cut) in
    c.in_default-next_octet.ensures four.b (decimal four.c ∷ decimal four.d ∷ []) four.small_b second

pub returns-in_default-next_octet-2 : goal.returns-in_default-next_octet-2
returns-in_default-next_octet-2 c = λ v octets e.
    let four = four_parts _ v octets e in
    let second = tail_is _ _ _ _ _ c.in-Some.ensures.1 (c.of-parts.ensures ∙ four.cut) in
    let third = tail_is _ _ _ _ _ c.in-Some-next_octet.ensures.1 second in
    c.in_default-next_octet-2.ensures four.c (decimal four.d ∷ []) four.small_c third

pub returns-in_default-next_octet-3 : goal.returns-in_default-next_octet-3
returns-in_default-next_octet-3 c = λ v octets e.
    let four = four_parts _ v octets e in
    let second = tail_is _ _ _ _ _ c.in-Some.ensures.1 (c.of-parts.ensures ∙ four.cut) in
    let third = tail_is _ _ _ _ _ c.in-Some-next_octet.ensures.1 second in
    let last = tail_is _ _ _ _ _ c.in-Some-next_octet-2.ensures.1 third in
    c.in_default-next_octet-3.ensures four.d [] four.small_d last

pub returns-then-not-is_done : goal.returns-then-not-is_done
returns-then-not-is_done c = λ v octets e.
    let four = four_parts _ v octets e in
    let second = tail_is _ _ _ _ _ c.in-Some.ensures.1 (c.of-parts.ensures ∙ four.cut) in
    let third = tail_is _ _ _ _ _ c.in-Some-next_octet.ensures.1 second in
    let last = tail_is _ _ _ _ _ c.in-Some-next_octet-2.ensures.1 third in
    let none = tail_is _ _ _ _ _ c.in-Some-next_octet-3.ensures.1 last in
    let yes = c.is_done.ensures.1 none in
    let no = c.if-not-is_done.true in
    cc

pub returns : goal.returns
returns c =
    reads_four c.args.word.now _ _ _ _ c.of.result c.of.ensures.value
    c.in-Some.ensures.0 c.in-Some-next_octet.ensures.0 c.in-Some-next_octet-2.ensures.0 c.in-Some-next_octet-3.ensures.0
    (sym c.of-parts.ensures ∙ c.in-Some.ensures.1
    ∙ ap (λ r. decimal c.in-Some.first ∷ r) (c.in-Some-next_octet.ensures.1
    ∙ ap (λ r. decimal c.in-Some-next_octet.second ∷ r) (c.in-Some-next_octet-2.ensures.1
    ∙ ap (λ r. decimal c.in-Some-next_octet-2.third ∷ r) (c.in-Some-next_octet-3.ensures.1
    ∙ ap (λ r. decimal c.in-Some-next_octet-3.last ∷ r) (c.is_done.ensures.0 c.if-not-is_done.false)))))
