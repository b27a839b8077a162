-- The list behind the type spells no RDs.
use Rattle.std.proofs.Common.{ℕ, List, Option, Ok, subst}
use Rattle.route_texts.specs.RouteLines.{SpellsRds}
use Rattle.route_texts.specs.Steps.{Found}
use Rattle.route_texts.proofs.OneRoute.{no_sft}
use Rattle.route_texts.proofs.hop_text.read_sft.Goals as goal

pub returns-in-None : goal.returns-in-None
returns-in-None c =
    no_sft c.args.word.now c.in-Some.kind c.in-Some.list.now c.in-Some.ensures.1
    (subst (λ (o : Option (List (List ℕ))). Found SpellsRds c.in-Some.list.now (Ok o)) c.in-None.is c.in_ok-rds.ensures)
