-- A piece that is no number is a piece of no list of versions.
use Rattle.std.proofs.Common.{◌∙◌, ◌++◌, ◌<◌, ◌^◌, ap, sym, arith}
use Rattle.std.specs.Prelude.{map}
use Rattle.std.specs.Fmt.{decimal}
use Rattle.std.proofs.lemmas.List.Elements.{recursion_from_All}
use Rattle.record_text.proofs.ListLemmas.{value_at}
use Rattle.record_text.proofs.list_text.read_numbers.Goals as goal

pub returns-in_default-read_number : goal.returns-in_default-read_number
returns-in_default-read_number c = λ v fits e.
    let found = value_at (λ n. n < 2 ^ 64) decimal v.items (map decimal c.loop-piece.numbers.items) c.in-Some.piece.now c.next.new.self
    (recursion_from_All _ v.items fits.1)
    (ap (λ ps. map decimal c.loop-piece.numbers.items ++ ps) (sym c.in-Some.ensures) ∙ c.loop-piece.invariant.cut ∙ e) in
    c.in_default-read_number.ensures found.0 (omega arith, omega (arith, found.1)) found.2
