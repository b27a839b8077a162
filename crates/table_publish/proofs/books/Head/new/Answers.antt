use Rattle.std.proofs.Common.{◌≡◌, ◌∙◌, ℕ, [], ◌∷◌, length, ap, sym, subst, arith, true}
use Rattle.logbook.specs.Pages.{Nib}
use Rattle.table_publish.specs.Entries.{begun, LacksMark}
use Rattle.table_publish.proofs.Marks.{opening_sealed, opening_lacks}
use Rattle.table_publish.proofs.books.Head.new.Goals as goal

-- the opening alone keeps the rule of the book
pub open_row-seen-requires : goal.open_row-seen-requires
open_row-seen-requires c = (record { words = ap (λ (k : ℕ). (k, true) ∷ []) (omega arith); some = omega arith; sealed = opening_sealed _ }, (λ _. tt), c.alone.ensures.1)

-- the word is that of the book
pub invariant_of-result : goal.invariant_of-result
invariant_of-result c =
    let key : c.take-pen.result.nib.key ≡ 0 = ap (λ (n : Nib). n.key) c.take-pen.ensures.pen.1 ∙ c.open_row-seen.ensures.3 in
    let book = c.take-pen.ensures.pen.0 ∙ c.open_row-seen.ensures.2 in
    let log = c.open_row-seen.ensures.1 in record {
      head_is = c.tracked.ensures.0 ∙ (λ i. record { tracked = true; key = key i; book = book i });
      entries_is = ap length log;
      begins = ap begun log;
      lacks = subst LacksMark (sym log) (opening_lacks _);
    }
