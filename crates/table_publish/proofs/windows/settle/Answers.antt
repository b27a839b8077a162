use Rattle.std.proofs.Common.{ap, subst, List}
use mathlib.Core.List.{IsPrefix}
use Rattle.table_publish.specs.declared.entries.Entry.{Entry}
use Rattle.table_publish.proofs.Marks.{settled}
use Rattle.table_publish.proofs.PublicationLemmas.{grown}
use Rattle.table_publish.proofs.windows.settle.Goals as goal

-- both are beginnings of one list, in which nothing stands behind the mark
pub returns : goal.returns
returns c list is =
    let both = c.learn.new.self.log in
    let seen = c.seat.inside.seen in
    let p : IsPrefix c.args.sealed.now.log both = subst (λ (l : List Entry). IsPrefix l both) (ap (λ s. s.log) c.again-both.ensures) c.learn.ensures.2 in
    let front = settled c.args.sealed.now.log both seen.log list c.learn.ensures.4.1.sealed p c.learn.ensures.3 c.seat.invariant.lacks is in
    rw (← c.seat.view_is) (grown list seen.log c.seat.invariant.begins front)
