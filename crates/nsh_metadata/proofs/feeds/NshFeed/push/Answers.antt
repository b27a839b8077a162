use Rattle.std.proofs.Common.{ap, sym, ◌∙◌}
use Rattle.nsh_metadata.specs.Kept.{Kept}
use Rattle.nsh_metadata.proofs.FeedLemmas.{answers_once, next_piece, stopped_stands}
use Rattle.nsh_metadata.proofs.feeds.NshFeed.push.Goals as goal

pub returns-in-Some-clause-history : goal.returns-in-Some-clause-history
returns-in-Some-clause-history c = λ taken given s.
    stopped_stands c.args.self.now c.in-Some.fault taken c.args.piece.now given (sym (ap (λ (k : Kept). k.stop) c.self.view_is) ∙ c.in-Some.is) s

pub returns-in-None-clause-only : goal.returns-in-None-clause-only
returns-in-None-clause-only c = λ going other a. answers_once _ _ c.take_piece.result other c.take_piece.ensures.answer a

pub returns-in-None-clause-history : goal.returns-in-None-clause-history
returns-in-None-clause-history c = λ taken given s.
    next_piece c.args.self.now c.take_piece.new.self taken c.args.piece.now given c.take_piece.result
    (sym (ap (λ (k : Kept). k.stop) c.self.view_is) ∙ c.in-None.is) s c.take_piece.ensures.answer c.take_piece.ensures.kept
