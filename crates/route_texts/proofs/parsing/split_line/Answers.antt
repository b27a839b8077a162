-- The first line ends at the first byte 0A.
use Rattle.std.proofs.Common.{sym}
use Rattle.route_texts.proofs.SplitLineLemmas.{split_at_end, no_end}
use Rattle.route_texts.proofs.parsing.split_line.Goals as goal

pub returns-in-Some : goal.returns-in-Some
returns-in-Some c = split_at_end c.args.text.now c.in-Some.end (sym c.in-Some.ensures.place)

pub returns-in-None : goal.returns-in-None
returns-in-None c = no_end c.args.text.now (sym c.in-None.ensures.place)
