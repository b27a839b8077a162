use Rattle.std.proofs.Common.{rules, ◌≡◌, ◌∙◌, ◌+◌, ◌==◌, [], ◌∷◌, ◌++◌, length, length-append, ap, sym, subst, arith, true}
use Rattle.std.proofs.lemmas.Bool.Decides.{nat_tests}
use Rattle.table_publish.specs.declared.entries.Entry.TheVariants.{Changes}
use Rattle.table_publish.specs.Entries.{begun, LacksMark}
use Rattle.table_publish.specs.Pages.{head_of}
use Rattle.table_publish.proofs.Adding.{adds_moves, if_true}
use Rattle.table_publish.proofs.Marks.{snoc_lacks}
use Rattle.table_publish.proofs.PublicationLemmas.{begun-append}
use Rattle.table_publish.proofs.books.Head.add.Goals as goal

-- the exchange keeps the rule of the book, whatever the book is
pub compare_exchange-found-requires : goal.compare_exchange-found-requires
compare_exchange-found-requires c =
    let self = c.args.self.now in
    let h = self.head_is in
    let again = c.again-seen.ensures in
    let offer = c.plain-offer.ensures in
    let pen = c.no_pen-pen.ensures in
    let next : c.in-Some.next ≡ self.entries + 1 = search rules in (
      ap (λ w. w.tracked) h,
      ap (λ s. s.book) again ∙ sym (ap (λ w. w.book) h),
      pen.0 ∙ (ap (λ s. s.book) again ∙ sym (ap (λ w. w.book) h)),
      offer.0,
      rw (ap (λ w. w.key) h, pen.1, offer.1, offer.3) (adds_moves c.again-seen.result.log (Changes c.args.changes.now) self.entries c.in-Some.next (ap (λ s. length s.log) again ∙ self.entries_is) next (subst LacksMark (sym (ap (λ s. s.log) again)) self.lacks)),
    )

-- the changes stand behind all entries
pub invariant_of-self-2 : goal.invariant_of-self-2
invariant_of-self-2 c =
    let self = c.args.self.now in
    let again = c.again-seen.ensures in
    let x = c.compare_exchange-found.ensures in
    let next : c.in-Some.next ≡ self.entries + 1 = search rules in
    let same : (c.compare_exchange-found.result == self.entries) ≡ true = grind (arith, nat_tests, c.if-found-self.false) in
    let old = self.seen.log in
    let log : c.compare_exchange-found.new.seen.log ≡ old ++ Changes c.args.changes.now ∷ [] = if_true _ _ _ same x.7 ∙ (λ i. (ap (λ s. s.log) again) i ++ c.plain-offer.ensures.1 i ∷ []) in record {
      head_is = self.head_is ∙ ap head_of (sym (x.0 ∙ ap (λ s. s.book) again));
      entries_is = ap length log ∙ omega (arith, length-append old (Changes c.args.changes.now ∷ []), self.entries_is, next);
      begins = ap begun log ∙ begun-append old (Changes c.args.changes.now ∷ []) self.begins;
      lacks = subst LacksMark (sym log) (snoc_lacks old c.args.changes.now self.lacks);
    }
