-- What was shown is what is given for the bytes that were taken.
use Rattle.std.proofs.Common.{refl, sym, ap, ◌∙◌, ◌<◌, length, subst, ℕ}
use Rattle.sfc_texts.specs.BgpSteps.{Moves, Ends}
use Rattle.sfc_texts.proofs.BgpLemmas.{shorter}
use Rattle.sfc_texts.proofs.ShowingLemmas.{message_given, end_given}
use Rattle.sfc_texts.proofs.stream_texts.StreamLines.next_open.Goals as goal

pub returns-in-Ok-Message-clause-history : goal.returns-in-Ok-Message-clause-history
returns-in-Ok-Message-clause-history c =
    let moves : Moves c.self.inside.feed c.show_next.new.feed c.args.out.now c.show_next.new.out = rw c.in-Ok-Message.field-0-is at c.in-Ok-Message.ensures.shown in
    λ taken front. message_given c.args.self.now _ c.self.inside.feed c.show_next.new.feed taken front c.args.out.now c.show_next.new.out c.requires (ap (λ s. s.stage) c.self.view_is ∙ c.requires)
    (sym (ap (λ s. s.place) c.self.view_is)) (sym (ap (λ s. s.rest) c.self.view_is)) refl refl moves

pub returns-in-Ok-Message-clause-answer : goal.returns-in-Ok-Message-clause-answer
returns-in-Ok-Message-clause-answer c =
    let moves : Moves c.self.inside.feed c.show_next.new.feed c.args.out.now c.show_next.new.out = rw c.in-Ok-Message.field-0-is at c.in-Ok-Message.ensures.shown in
    subst (λ (n : ℕ). length c.show_next.new.feed.rest < n) (ap (λ s. length s.rest) c.self.view_is) (shorter c.self.inside.feed c.show_next.new.feed c.args.out.now c.show_next.new.out moves)

pub returns-in-Ok-Over-clause-history : goal.returns-in-Ok-Over-clause-history
returns-in-Ok-Over-clause-history c =
    let ends : Ends c.self.inside.feed c.args.out.now c.show_next.new.out = rw c.in-Ok-Over.field-0-is at c.in-Ok-Over.ensures.shown in
    λ taken front. end_given c.args.self.now _ c.self.inside.feed taken front c.args.out.now c.show_next.new.out c.requires refl
    (sym (ap (λ s. s.place) c.self.view_is)) (sym (ap (λ s. s.rest) c.self.view_is)) ends
