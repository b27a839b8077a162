use Rattle.std.proofs.Common.{rules, ◌≡◌, ◌∙◌, ◌+◌, ap, sym}
use Rattle.table_publish.specs.declared.entries.Entry.TheVariants.{Mark}
use Rattle.table_publish.proofs.Adding.{adds_moves}
use Rattle.table_publish.proofs.books.Head.seal.Goals as goal

-- the exchange keeps the rule of the book, whatever the book is
pub compare_exchange-found-requires : goal.compare_exchange-found-requires
compare_exchange-found-requires c =
    let self = c.args.self in
    let h = self.head_is in
    let offer = c.plain-offer.ensures in
    let pen = c.no_pen-pen.ensures in
    let next : c.in-Some.next ≡ self.entries + 1 = search rules in (
      ap (λ w. w.tracked) h,
      sym (ap (λ w. w.book) h),
      pen.0 ∙ sym (ap (λ w. w.book) h),
      offer.0,
      rw (ap (λ w. w.key) h, pen.1, offer.1, offer.3) (adds_moves self.seen.log Mark self.entries c.in-Some.next self.entries_is next self.lacks),
    )
