-- What is refused is not nothing.
use Rattle.std.proofs.Common.{sym}
use Rattle.control_files.proofs.ReadsLemmas.{refused_some}
use Rattle.control_files.proofs.feeds.ControlFeed.stop.Goals as goal

pub returns-in-Some-clause-none : goal.returns-in-Some-clause-none
returns-in-Some-clause-none c = (
  (λ none. absurd (cc)),
  (λ none. absurd (refused_some c.args.self.now c.in-Some.refusal (sym c.in-Some.ensures) none)),
)
