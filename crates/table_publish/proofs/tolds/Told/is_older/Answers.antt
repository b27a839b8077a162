use Rattle.std.proofs.Common.{ap, subst, List}
use mathlib.Core.List.{IsPrefix}
use Rattle.table_publish.specs.declared.entries.Entry.{Entry}
use Rattle.table_publish.proofs.PublicationLemmas.{told_apart}
use Rattle.table_publish.proofs.tolds.Told.is_older.Goals as goal

-- both lists are beginnings of one
pub returns : goal.returns
returns c =
    let both = c.learn.new.self.log in
    let p : IsPrefix c.self.inside.seen.log both = subst (λ (l : List Entry). IsPrefix l both) (ap (λ s. s.log) c.again-both.ensures) c.learn.ensures.2 in
    let mine = c.self.invariant in
    let others = c.other.invariant in
    rw (← c.self.view_is, ← c.other.view_is) (told_apart c.self.inside.seen.log c.other.inside.seen.log both c.self.inside.version c.other.inside.version p c.learn.ensures.3 mine.begins others.begins mine.version others.version)
